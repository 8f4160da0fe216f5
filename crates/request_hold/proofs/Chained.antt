-- A get or a put, and what follows it unless it was -75; and what these requests leave fixed. Assumes nothing.
use mathlib.Core.Path.{◌≡◌, refl, sym, ap, subst}
use mathlib.Core.Bool.{Bool, true, false}
use Prim.Native.Nat.{ℕ}
use native.Mathlib.Omega.{arith}
use Rattle.model.specs.Limits.{EOVERFLOW, minus}
use Rattle.model.proofs.Basics.{by_if}
use Rattle.memory.specs.Ready.{fixed}
use Rattle.model.specs.Logic.{when◌then◌else◌}
use Rattle.model.specs.State.{State}
use Rattle.model.specs.Requests.{enable, disable, get, put}
use Rattle.model.specs.Records.{Done, finished}

module _ (s t u : State) (p code : ℕ) (f : State → Done) where
  -- it was -75: that is the answer
  pub held_stop : (b : Bool) → (when b then finished s p (minus EOVERFLOW) else finished t p 0) ≡ finished u p code → (code ≡ 0 → ⊥)
      → (when b then finished s p (minus EOVERFLOW) else f t) ≡ finished u p code
  unfolding when◌then◌else◌
  held_stop true e ne = e
  held_stop false e ne = absurd (ne (sym (ap (λ (d : Done). d.reply.code) e)))

  -- it was not: f goes on from the state that it left
  pub held_go : (b : Bool) → (when b then finished s p (minus EOVERFLOW) else finished t p 0) ≡ finished u p code → code ≡ 0
      → (when b then finished s p (minus EOVERFLOW) else f t) ≡ f u
  unfolding when◌then◌else◌
  held_go true e z = let h = ap (λ (d : Done). d.reply.code) e in absurd (omega arith)
  held_go false e z = ap (λ (d : Done). f d.state) e

-- ---- nothing fixed changes
module _ (s u : State) (p code : ℕ) where
  abbrev Stay : Done → Type 0
  Stay d = fixed d.state ≡ fixed s

  pub enable_stays : enable s p ≡ finished u p code → fixed u ≡ fixed s
  unfolding enable
  enable_stays e = subst Stay e (by_if Stay _ _ _ (λ y. refl) (λ n. refl))

  pub disable_stays : disable s p ≡ finished u p code → fixed u ≡ fixed s
  unfolding disable
  disable_stays e = subst Stay e (by_if Stay _ _ _ (λ y. refl) (λ n. refl))

  pub get_stays : get s p ≡ finished u p code → fixed u ≡ fixed s
  unfolding get
  get_stays e = subst Stay e (by_if Stay _ _ _ (λ y. refl) (λ n. refl))

  pub put_stays : put s p ≡ finished u p code → fixed u ≡ fixed s
  unfolding put
  put_stays e = subst Stay e (by_if Stay _ _ _ (λ y. refl) (λ n. refl))
