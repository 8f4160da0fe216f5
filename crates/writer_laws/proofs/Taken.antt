-- A table is taken exactly where each of its tests passes, and the bench loaded has the wiring that stands in it. Assumes nothing.
use mathlib.Core.Path.{◌≡◌, ap}
use mathlib.Core.Bool.{Bool, true, not}
use mathlib.Core.List.{List}
use Prim.Native.Nat.{ℕ, ◌<◌, ◌≤◌}
use native.Mathlib.Omega.{arith}
use lib.ListN.{length}
use borrow.Author.Tests.{ltb-false, le-ltb, not-false, eq-eqb}
use Rattle.model.specs.Limits.{DEVICES, LINKS}
use Rattle.model.specs.Logic.{when◌then◌else◌, first}
use Rattle.model.specs.Table.{TableAnswer, devices_in, links_in, mark_good, version_good, limits_good, length_good, device_good, link_good, bad_device, bad_link, entries_answer, table_answer, wiring_in}
use Rattle.model.proofs.Basics.{by_if, first_least, first_none}
use Rattle.model.proofs.Logic.{tests}
use Rattle.model.specs.State.{State, at_rest, loaded, load_of}
use Rattle.writer_laws.specs.Laws.{Taken, wiring}
use Rattle.writer_laws.proofs.Ordering.{by_test}

pub record Rules (t : List ℕ) : Type 0 where
  pub seven : 7 ≤ length t
  pub mark : mark_good t ≡ true
  pub version : version_good t ≡ true
  pub limits : limits_good t ≡ true
  pub long : length_good t ≡ true
  pub device : (p : ℕ) → p < devices_in t → device_good t p ≡ true
  pub link : (i : ℕ) → i < links_in t → link_good t i ≡ true

pub limits : {t : List ℕ} → Rules t → (1 ≤ devices_in t) × ((devices_in t ≤ DEVICES) × (links_in t ≤ LINKS))
unfolding limits_good
limits h = simp tests at h.limits

-- where the first faulty entry is past the last, every entry is good, and the other way
pub all_good : (good : ℕ → Bool) (n : ℕ) → n ≤ first (λ p. not (good p)) n → (p : ℕ) → p < n → good p ≡ true
all_good good n h p l = by_test (good p) (λ e. e) (λ e. let z = first_least (λ p. not (good p)) n p (rw e) in absurd (omega arith))

pub good_all : (good : ℕ → Bool) (n : ℕ) → ((p : ℕ) → p < n → good p ≡ true) → first (λ p. not (good p)) n ≡ n
good_all good n h = first_none (λ p. not (good p)) n (λ j l. rw (h j l))

pub facts_taken : {t : List ℕ} → Rules t → table_answer t ≡ record { number = 0; index = 0 }
unfolding table_answer entries_answer bad_device bad_link when◌then◌else◌
facts_taken {t} h =
    let n = devices_in t in
    let m = links_in t in
    rw (
      le-ltb (length t) 7 h.seven,
      h.mark,
      h.version,
      h.limits,
      h.long,
      good_all (device_good t) n h.device,
      good_all (link_good t) m h.link,
      le-ltb n n (omega arith),
      le-ltb m m (omega arith),
    )

pub taken_facts : (t : List ℕ) → (table_answer t).number ≡ 0 → Rules t
unfolding table_answer entries_answer bad_device bad_link
taken_facts t =
    by_if Facts _ _ _ (λ e z. absurd (omega arith))
    (λ s. by_if Facts _ _ _ (λ e z. absurd (omega arith))
    (λ m. by_if Facts _ _ _ (λ e z. absurd (omega arith))
    (λ v. by_if Facts _ _ _ (λ e z. absurd (omega arith))
    (λ l. by_if Facts _ _ _ (λ e z. absurd (omega arith))
    (λ g. by_if Facts _ _ _ (λ e z. absurd (omega arith))
    (λ d. by_if Facts _ _ _ (λ e z. absurd (omega arith))
    (λ k z.
    record {
      seven = ltb-false _ _ s;
      mark = not-false _ m;
      version = not-false _ v;
      limits = not-false _ l;
      long = not-false _ g;
      device = all_good (device_good t) _ (ltb-false _ _ d);
      link = all_good (link_good t) _ (ltb-false _ _ k);
    })))))))
  where
    Facts : TableAnswer → Type 0
    Facts a = a.number ≡ 0 → Rules t

-- ---- as the loader tells it
pub load_taken : {t : List ℕ} → Rules t → Taken t
unfolding load_of
load_taken h = ap (λ (a : TableAnswer). a.number) (facts_taken h)

pub taken_rules : (t : List ℕ) → Taken t → Rules t
unfolding load_of
taken_rules t e = taken_facts t e

loaded_state : (t : List ℕ) → Taken t → (load_of t).state ≡ loaded (wiring_in t)
unfolding load_of when◌then◌else◌
loaded_state t e = rw (eq-eqb (table_answer t).number 0 e)

pub wiring_is : (t : List ℕ) → Taken t → wiring t ≡ wiring_in t
unfolding loaded at_rest
wiring_is t e = ap (λ (s : State). s.wiring) (loaded_state t e)
