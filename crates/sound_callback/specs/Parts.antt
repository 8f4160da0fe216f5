-- Parts of the soundness test that have functions of their own, and what a test of the open callback promises. Assumes nothing.
use Rattle.std.specs.Prelude.{◌≡◌, Bool, true, List, Option, Some, ℕ, get_or, leb, ltb, eqb}
use Rattle.std.specs.Option.{option_eq}
use Rattle.model.specs.Logic.{◌and◌, ◌or◌, ◌implies◌, all}
use Rattle.model.specs.State.{State, Carry, status_at}
use Rattle.model.specs.Requests.{suspend_test}
use Rattle.model.specs.SoundTest.{steady_test, kept_test, resume_open_test, sound_test}
use Rattle.memory.specs.Layout.{state_in}
use Rattle.links.specs.Firsts.{first_links, IndexIs}

-- carried byte i is used, or 0
unfoldable pub spare_test : Carry → ℕ → Bool
spare_test c i = leb c.used i implies eqb (get_or c.bytes i 0) 0

-- no device is in change but the one left out: `all_steady` where none is, else `others_steady`
unfoldable pub steady_but : State → Option ℕ → Bool
steady_but s left = all (λ q. option_eq eqb (Some q) left or steady_test s q) s.wiring.n

-- a callback of p is open, at status v: `suspend_open_test` for SUSPENDING with p left out, `idle_open_test` for ACTIVE with none
unfoldable pub open_test : ℕ → Option ℕ → State → ℕ → Bool
open_test v left s p = ltb p s.wiring.n and eqb s.callback.target p and eqb (status_at s p) v and steady_but s left and eqb (suspend_test s p) 0

-- a test that reads bytes alone, whatever the words are
pub record Tells (test : State → Bool) (bytes : List ℕ) (r : Bool) : Type 0 where
  pub is : (words : List ℕ) → r ≡ test (state_in bytes words)

-- a test of the device asked, and the one of the device asked and the target
abbrev pub of_asked : (State → ℕ → Bool) → State → Bool
of_asked test s = test s s.callback.asked

abbrev pub of_resume : State → Bool
of_resume s = resume_open_test s s.callback.asked s.callback.target

-- a test of the open callback, where the columns passed theirs and the index of the links is right
pub record Judges (test : State → Bool) (first bytes words : List ℕ) (r : Bool) : Type 0 where
  pub is : let s = state_in bytes words in kept_test s.wiring s.devices ≡ true → first ≡ first_links s.wiring → r ≡ test s

-- the whole test, with the index that `links::index` makes; with any other, a bench that passes has at least its columns in order
pub record SoundBy (first bytes words : List ℕ) (r : Bool) : Type 0 where
  pub is : IndexIs (state_in bytes words).wiring first → r ≡ sound_test (state_in bytes words)
  pub columns : r ≡ true → kept_test (state_in bytes words).wiring (state_in bytes words).devices ≡ true
