-- `test_words::scan` meets its contract. The invariant: the scan from the place reached stops where the whole scan does.
-- Assumes nothing.
use mathlib.Core.Path.{refl, sym, ◌∙◌}
use native.Mathlib.Omega.{arith}
use native.Mathlib.Decide.{dec_lt}
use lib.ListN.{length}
use native.Mathlib.Numerals.{add-one}
use Rattle.test_words.proofs.Scanning.{scan_here, scan_on, scan_end}
use Rattle.test_words.proofs.scan.Goals as goal

-- it stops at a byte
pub returns-then-stops : goal.returns-then-stops
returns-then-stops c =
    let given = c.args in
    let more = c.loop-i-test.true in
    let none = scan_here given.byte given.same given.s.now c.loop-i.i more (sym c.stops.ensures ∙ c.if-stops.true) in
    record { is = omega (arith, none, c.loop-i.invariant); low = omega arith; high = λ h. omega arith }

pub loop-i-preserved : goal.loop-i-preserved
loop-i-preserved c =
    let given = c.args in
    let more = c.loop-i-test.true in
    let one = scan_on given.byte given.same given.s.now c.loop-i.i more (sym c.stops.ensures ∙ c.if-stops.false) in
    rw (add-one c.loop-i.i) (omega (arith, one, c.loop-i.invariant))

-- it stops at the end
pub returns : goal.returns
returns c =
    let given = c.args in
    let at = c.loop-i in
    let none = scan_end given.byte given.same given.s.now at.i c.loop-i-test.false in
    elim (dec_lt (length given.s.now) given.from) [
      | yes past ↦ let nothing = scan_end given.byte given.same given.s.now given.from (omega arith) in record { is = omega arith; low = omega arith; high = λ h. omega arith }
      | no within ↦ record { is = omega arith; low = omega arith; high = λ h. omega arith }
    ]

pub loop-i-init : goal.loop-i-init
loop-i-init c = refl
