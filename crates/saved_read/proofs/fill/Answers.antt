-- `saved_read::fill` meets its contract. The invariant: the spans that are left lead where all of them lead. Assumes nothing.
use mathlib.Core.Path.{◌≡◌}
use native.Mathlib.Omega.{arith}
use lib.ListN.{length}
use Rattle.saved_form.specs.Restoring.{version1}
use Rattle.saved_read.proofs.Laying.{filling_none, one_fits, filling_one, filling_all}
use borrow.Author.Rules.{rules}
use Rattle.saved_read.proofs.fill.Goals as goal
use Rattle.saved_read.proofs.fill.Goals.{Start}

-- the table has all its spans
many : (c : Start) → length c.args.spans ≡ length version1
many c = let g = c.well_formed.1.0 in search rules

pub loop-span-init : goal.loop-span-init
loop-span-init c = filling_none _ _ _ _ c.requires

pub place-requires : goal.place-requires
place-requires c =
    let z = many (goal.at.place-requires c).Start in
    one_fits (omega (arith, c.loop-span-test.true)) c.loop-span.invariant

pub loop-span-preserved : goal.loop-span-preserved
loop-span-preserved c =
    let z = many (goal.at.loop-span-preserved c).Start in
    filling_one (omega (arith, c.loop-span-test.true)) c.loop-span.invariant _ _ c.place.ensures

-- all spans are laid
pub returns : goal.returns
returns c =
    let z = many (goal.at.returns c).Start in
    filling_all (omega (arith, c.loop-span-test.false)) c.loop-span.invariant
