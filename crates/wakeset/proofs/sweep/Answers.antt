-- The invariant: the devices from q on are passed (`Swept`). At the lowest mark the sweep is over. Assumes nothing.
use mathlib.Core.Path.{◌≡◌, ◌∙◌}
use mathlib.Core.Bool.{true, false}
use mathlib.Core.List.{List}
use Prim.Native.Nat.{ℕ, ◌<◌, ◌≤◌}
use native.Mathlib.Omega.{arith}
use lib.ListN.{replicate, length-set, length-replicate}
use Rattle.model.specs.Limits.{ROWS}
use Rattle.model.specs.State.{ACTIVE, status_at}
use Rattle.memory.specs.Layout.{state_in}
use Rattle.links.specs.Firsts.{Listed}
use Rattle.wakeset.specs.Sweep.{Exact, Swept, Sweeps}
use Rattle.wakeset.proofs.Sweeping.{exact, swept_start, swept_step, swept_end}
use Rattle.wakeset.proofs.sweep.Goals as goal
use Rattle.wakeset.proofs.sweep.Goals.{At-loop-q}

-- t alone is passed
pub loop-q-init : goal.loop-q-init
loop-q-init c = λ words u. u

-- device q - 1 is next
pub loop-q-preserved : goal.loop-q-preserved
unfolding ROWS
loop-q-preserved c = λ words u. swept_step _ words _ _ c.loop-q.q (omega arith) (omega arith) (c.loop-q.invariant words u) c.step-low.ensures

-- before the loop t is marked and passed, where it sleeps and no other mark was there
begins : (c : At-loop-q) → let a = c.args in
    (words : List ℕ) → a.marks.now ≡ replicate ROWS false → status_at (state_in a.bytes.now words) a.t < ACTIVE →
    Swept (state_in a.bytes.now words) a.first.now a.t a.t c.pass-low.new.marks c.pass-low.result
unfolding ROWS
begins c words none z =
    let marked = c.pass-low.ensures.is words (rw none (length-set (replicate ROWS false) c.from.result true ∙ length-replicate ROWS false)) in
    swept_start _ _ _ (omega arith) (omega arith) z (rw (c.from.ensures, none) at marked)

-- request Two: at each turn the marked devices among those passed are exactly the wake set's
pub each_step : (c : At-loop-q) → let a = c.args in
    (words : List ℕ) → let s = state_in a.bytes.now words in
    Listed s.wiring a.first.now → a.t < s.wiring.n → a.marks.now ≡ replicate ROWS false → status_at s a.t < ACTIVE →
    Exact s a.t c.loop-q.q c.loop-q.marks
each_step c words h l none z = exact h l (c.loop-q.invariant words (begins c words none z))

-- at the lowest mark the sweep is over
ends : (c : At-loop-q) → c.loop-q.q ≤ c.loop-q.low → let a = c.args in
    Sweeps a.bytes.now a.first.now a.t a.marks.now c.loop-q.marks c.loop-q.low
ends c h = record { is = λ words none z. swept_end h (c.loop-q.invariant words (begins c words none z)) }

-- every device is passed
pub returns-after-loop-q : goal.returns-after-loop-q
returns-after-loop-q c = ends (goal.at.returns-after-loop-q c).At-loop-q (omega arith)

-- the lowest mark is reached
pub returns-then-q-low : goal.returns-then-q-low
returns-then-q-low c = ends (goal.at.returns-then-q-low c).At-loop-q (omega arith)
