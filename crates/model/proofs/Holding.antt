-- Soundness is kept by kinds 1, 2, 3 and 5. Assumes nothing.
use mathlib.Core.Path.{◌≡◌}
use mathlib.Core.Bool.{false}
use Prim.Native.Nat.{ℕ, ◌<◌, ◌+◌, ◌-◌}
use native.Mathlib.Omega.{arith}
use lib.Dec.{leb}
use borrow.Author.Tests.{eqb-false, leb-false}
use Rattle.model.specs.Limits.{MAXHOLDS}
use Rattle.model.specs.State.{State, holds_at, with_holds}
use Rattle.model.specs.Records.{Done}
use Rattle.model.specs.Requests.{enable, disable, get, put}
use Rattle.model.specs.Sound.{Sound}
use Rattle.model.proofs.Basics.{by_if}
use Rattle.model.proofs.Keeping.{kept_holds, kept_depth, none_open_lem, quiet}

-- the state that a record leads to is sound
abbrev pub Good : Done → Type 0
Good d = Sound d.state

module _ {s : State} (h : Sound s) (o : s.callback.kind ≡ 0) (p : ℕ) (l : p < s.wiring.n) where
  pub enable_good : Good (enable s p)
  unfolding enable
  enable_good = by_if Good _ _ _ (λ e. h) (λ e. quiet _ (kept_depth s h.kept p _ l (let z = h.kept.depths.used p l in omega arith)) h.carried (none_open_lem h.callback o))

  pub disable_good : Good (disable s p)
  unfolding disable
  disable_good = by_if Good _ _ _ (λ e. h) (λ e. quiet _ (kept_depth s h.kept p _ l (let z = h.kept.depths.used p l in omega (arith, eqb-false))) h.carried (none_open_lem h.callback o))

  pub more_held : leb MAXHOLDS (holds_at s p) ≡ false → Sound (with_holds s p (holds_at s p + 1))
  more_held e = quiet _ (kept_holds s h.kept p _ l (let z = leb-false MAXHOLDS (holds_at s p) e in omega arith)) h.carried (none_open_lem h.callback o)

  pub less_held : Sound (with_holds s p (holds_at s p - 1))
  less_held = quiet _ (kept_holds s h.kept p _ l (let z = h.kept.holds.used p l in omega arith)) h.carried (none_open_lem h.callback o)

  pub get_good : Good (get s p)
  unfolding get
  get_good = by_if Good _ _ _ (λ e. h) (λ e. more_held e)

  pub put_good : Good (put s p)
  unfolding put
  put_good = by_if Good _ _ _ (λ e. h) (λ e. less_held)
