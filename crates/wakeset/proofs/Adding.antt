-- Marks that are added, set by set. Assumes nothing.
use mathlib.Core.Path.{◌≡◌, refl, sym, ◌∙◌}
use mathlib.Core.Bool.{Bool, false}
use mathlib.Core.List.{List}
use mathlib.Core.Logic.{◌⊎◌, inl, inr, ⊎_elim}
use Prim.Native.Nat.{ℕ, ◌+◌, ◌-◌, ◌<◌, ◌≤◌}
use native.Mathlib.Omega.{arith}
use native.Mathlib.Nat.{eq-or-lt_of_le}
use native.Mathlib.Decide.{ℕ_discrete}
use lib.ListN.{length, set, length-set}
use lib.Seq.{get_or-set_same, get_or-set_other}
use lib.Dec.{ltb}
use borrow.Author.Tests.{ltb-false}
use Rattle.model.specs.Logic.{when◌then◌else◌, ◌and◌, ◌or◌}
use Rattle.model.specs.State.{State}
use Rattle.model.specs.WakeSet.{On, marked}
use Rattle.model.proofs.Basics.{by_if, or_cases, or_left, or_right}
use Rattle.model.proofs.Logic.{tests}
use Rattle.wakeset.specs.Sweep.{Chosen, AtLink, AmongLinks, LowestMark, Adds}

-- ---- sets
-- nothing new
pub adds_same : {P : ℕ → Type 0} {ms : List Bool} {low : ℕ} → ((q : ℕ) → P q → ⊥) → Adds P ms low ms low
adds_same h = record { long = refl; kept = λ q m. m; has = λ q p. absurd (h q p); only = λ q m. inl m; lowest = λ l. l }

-- the same set under another name
pub adds_as : {P Q : ℕ → Type 0} {a b : List Bool} {l k : ℕ} → ((q : ℕ) → P q → Q q) → ((q : ℕ) → Q q → P q) → Adds P a l b k → Adds Q a l b k
adds_as f g j =
    record {
      long = j.long;
      kept = j.kept;
      has = λ q m. j.has q (g q m);
      only = λ q m. ⊎_elim (λ o. inl o) (λ o. inr (f q o)) (j.only q m);
      lowest = j.lowest;
    }

-- one set after another
pub adds_then : {P Q : ℕ → Type 0} {a b c : List Bool} {l m n : ℕ} → Adds P a l b m → Adds Q b m c n → Adds (λ q. P q ⊎ Q q) a l c n
adds_then j k =
    record {
      long = k.long ∙ j.long;
      kept = λ q m. k.kept q (j.kept q m);
      has = λ q. ⊎_elim (λ m. k.kept q (j.has q m)) (λ m. k.has q m);
      only = λ q m. ⊎_elim (λ o. ⊎_elim (λ n. inl n) (λ n. inr (inl n)) (j.only q o)) (λ o. inr (inr o)) (k.only q m);
      lowest = λ l. k.lowest (j.lowest l);
    }

-- ---- one device
-- a device that the test chose and that is not lower
not_lower : (on : Bool) (p low q : ℕ) → on and ltb p low ≡ false → Chosen on p q → low ≤ q
not_lower on p low q n c = rw c.is (ltb-false p low (rw c.holds at n))

-- a store of a mark: on where the test holds or it was on
module _ (ms : List Bool) (p : ℕ) (l : p < length ms) (on : Bool) where
  set_kept : (q : ℕ) → On ms q → On (set ms p (on or marked ms p)) q
  set_kept q m =
      elim (ℕ_discrete q p) [
        | yes e ↦ rw e (get_or-set_same ms p (on or marked ms p) false l ∙ or_right on (marked ms p) (rw e at m))
        | no ne ↦ get_or-set_other ms p q (on or marked ms p) false ne ∙ m
      ]

  set_has : (q : ℕ) → Chosen on p q → On (set ms p (on or marked ms p)) q
  set_has q c = rw c.is (get_or-set_same ms p (on or marked ms p) false l ∙ or_left on (marked ms p) c.holds)

  set_only : (q : ℕ) → On (set ms p (on or marked ms p)) q → On ms q ⊎ Chosen on p q
  set_only q m =
      elim (ℕ_discrete q p) [
        | yes e ↦ ⊎_elim (λ o. inr (record { holds = o; is = e })) (λ o. inl (rw e o))
            (or_cases on (marked ms p) (sym (get_or-set_same ms p (on or marked ms p) false l) ∙ (rw e at m)))
        | no ne ↦ inl (sym (get_or-set_other ms p q (on or marked ms p) false ne) ∙ m)
      ]

  -- the lowest mark is p where the test holds and p is lower, else the one before
  pub adds_chosen : (low : ℕ) → Adds (Chosen on p) ms low (set ms p (on or marked ms p)) (when on and ltb p low then p else low)
  adds_chosen low =
      record {
        long = length-set ms p (on or marked ms p);
        kept = set_kept;
        has = set_has;
        only = set_only;
        lowest =
            λ h.
            by_if (LowestMark (set ms p (on or marked ms p))) (on and ltb p low) _ _
            (λ y.
            let f = simp tests at y in
            let b = f.1 in
            record { on = set_has p (record { holds = f.0; is = refl }); least = λ q m. ⊎_elim (λ o. let k = h.least q o in omega arith) (λ c. let e = c.is in omega arith) (set_only q m) })
            (λ n.
            record { on = set_kept low h.on; least = λ q m. ⊎_elim (λ o. h.least q o) (λ c. not_lower on p low q n c) (set_only q m) });
      }

-- the same as the code has it: the row of q, and the number that was chosen
pub adds_mark : {ms : List Bool} {on v : Bool} {q at low r : ℕ} → at ≡ q → at < length ms → v ≡ (on or marked ms at) → (when on and ltb q low then q else low) ≡ r →
    Adds (Chosen on q) ms low (set ms at v) r
adds_mark {ms} {on} {q} {low = low} row fits stored chosen = rw (stored, row, ← chosen) (adds_chosen ms q (rw row at fits) on low)

-- ---- the links of a device
module _ {s : State} {p : ℕ} where
  -- none
  pub among_none : {a : ℕ} {ms : List Bool} {low : ℕ} → Adds (AmongLinks s p a a) ms low ms low
  among_none = adds_same (λ q r. let x = r.from in let y = r.below in absurd (omega arith))

  -- one more
  pub among_more : (a i : ℕ) {x y z : List Bool} {l m n : ℕ} → a ≤ i →
      Adds (AmongLinks s p a i) x l y m → Adds (AtLink s p i) y m z n → Adds (AmongLinks s p a (i + 1)) x l z n
  among_more a i h j k = adds_as to from (adds_then j k)
    where
      to : (q : ℕ) → AmongLinks s p a i q ⊎ AtLink s p i q → AmongLinks s p a (i + 1) q
      to q =
          ⊎_elim (λ r. record { at = r.at; from = r.from; below = omega (arith, r.below); link = r.link })
          (λ r. record { at = i; from = h; below = omega arith; link = r })

      from : (q : ℕ) → AmongLinks s p a (i + 1) q → AmongLinks s p a i q ⊎ AtLink s p i q
      from q r =
          let u : r.at ≤ i = omega (arith, r.below) in
          ⊎_elim (λ e. inr (rw e at r.link)) (λ b. inl (record { at = r.at; from = r.from; below = b; link = r.link })) (eq-or-lt_of_le u)

  -- all, where the links end
  pub among_end : (a i end : ℕ) {x y : List Bool} {l m : ℕ} → a ≤ i → end ≤ i → i ≤ a + (end - a) →
      Adds (AmongLinks s p a i) x l y m → Adds (AmongLinks s p a end) x l y m
  among_end a i end h g b j =
      adds_as (λ q r. record { at = r.at; from = r.from; below = (let u = r.below in let v = r.from in omega arith); link = r.link })
      (λ q r. record { at = r.at; from = r.from; below = (let u = r.below in omega arith); link = r.link }) j
