-- The words that follow a word. Assumes nothing.
use Rattle.std.proofs.Common.{◌≡◌, List, ℕ, suc, ◌+◌, ◌-◌, ◌<◌, arith}
use Rattle.list_words.specs.Words.{is_blank, is_letter, from, word_at}

pub word_next : (t : List ℕ) (k i : ℕ) → i < k → word_at (from is_letter (from is_blank t)) (k - (i + 1)) ≡ word_at t (k - i)
unfolding word_at
word_next t k i h = let e : k - i ≡ suc (k - (i + 1)) = omega arith in rw e
