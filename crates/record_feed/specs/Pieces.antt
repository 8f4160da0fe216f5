-- A piece of log over the memory: the words of the contracts. Assumes nothing.
use Rattle.std.specs.Prelude.{◌≡◌, List, ℕ, length, Result}
use Rattle.model.specs.Steps.{run, replies_in}
use Rattle.model.specs.Sound.{Sound}
use Rattle.model.specs.Feed.{feed_answer, over, feed_of}
use Rattle.memory.specs.Layout.{BYTES, WORDS, state_in}
use Rattle.links.specs.Firsts.{IndexIs}
use Rattle.record_answer.specs.declared.Refusal.{Refusal}
use Rattle.record_answer.specs.Answers.{number_of, replies_of}

-- a piece that is not refused, from a sound state with the index of its links and so many carried bytes: the state it leads to, and its
-- replies in the buffer
pub record Took (used : ℕ) (first bytes₀ words₀ piece before bytes words after : List ℕ) : Type 0 where
  pub is : let s = state_in bytes₀ words₀ in
      IndexIs s.wiring first → Sound s → used ≡ s.carry.used → (state_in bytes words ≡ (run s piece).state) × (after ≡ over (replies_in (run s piece).log) before)

-- a piece fed to a memory of any contents: the number of its answer; a refused piece touches nothing; and where both arrays have their
-- lengths (which the logic does not know of a lent array) the whole answer, the whole state and every byte of the buffer
pub record FedIn (bytes₀ words₀ piece buffer bytes words : List ℕ) (r : Result ℕ Refusal) (after : List ℕ) : Type 0 where
  pub number : number_of r ≡ feed_answer (state_in bytes₀ words₀) (record { bytes = piece; buffer = buffer })
  pub untouched : (number_of r ≡ 0 → ⊥) → (bytes ≡ bytes₀) × (words ≡ words₀) × (after ≡ buffer)
  pub is : length bytes₀ ≡ BYTES → length words₀ ≡ WORDS
      → feed_of (state_in bytes₀ words₀) (record { bytes = piece; buffer = buffer })
      ≡ record { number = number_of r; replies = replies_of r; state = state_in bytes words; buffer = after }
