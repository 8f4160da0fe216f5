-- What kinds 6 and 7 leave fixed, by what the model leads to. Assumes nothing.
use mathlib.Core.Path.{◌≡◌, refl, subst}
use Prim.Native.Nat.{ℕ}
use Rattle.model.specs.State.{State}
use Rattle.model.specs.Records.{Reply, Done}
use Rattle.model.specs.Requests.{idle, idle_unused, put_idle}
use Rattle.model.proofs.Basics.{by_if}
use Rattle.memory.specs.Ready.{fixed}

abbrev Stay : State → Done → Type 0
Stay s d = fixed d.state ≡ fixed s

idle_keeps : (s : State) (p : ℕ) → Stay s (idle s p)
unfolding idle
idle_keeps s p = by_if (Stay s) _ _ _ (λ y. refl) (λ n. by_if (Stay s) _ _ _ (λ y. refl) (λ n. refl))

module _ (s u : State) (p : ℕ) (r : Reply) where
  pub idle_stays : idle s p ≡ record { state = u; reply = r } → fixed u ≡ fixed s
  idle_stays e = subst (Stay s) e (idle_keeps s p)

  pub put_idle_stays : put_idle s p ≡ record { state = u; reply = r } → fixed u ≡ fixed s
  unfolding put_idle idle_unused
  put_idle_stays e = subst (Stay s) e (by_if (Stay s) _ _ _ (λ y. refl) (λ n. by_if (Stay s) _ _ _ (λ y. refl) (λ n. idle_keeps _ p)))
