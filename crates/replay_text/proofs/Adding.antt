-- A line that grows word by word. Assumes nothing.
use mathlib.Core.Path.{◌≡◌, refl, ap, ◌∙◌}
use mathlib.Core.List.{List, [], ◌++◌}
use Prim.Native.Nat.{ℕ, ◌+◌, ◌-◌, ◌≤◌}
use native.Mathlib.Omega.{arith}
use lib.ListN.{length, drop, replicate, length-append, length-replicate, replicate-append-replicate}
use lib.Seq.{take-append_seam, drop-append-add, drop_at}
use borrow.Author.Tests.{le-leb}
use Rattle.model.specs.Logic.{when◌then◌else◌}
use Rattle.replay_text.specs.Text.{decimal}
use Rattle.replay_text.specs.Line.{line_of, added}
use Rattle.replay_text.specs.declared.line.Line.{Line}
use Rattle.replay_text.proofs.Digits.{decimal_length}

-- ---- one word
abbrev zeros : ℕ → List ℕ
zeros n = replicate n 0

rest : (m n : ℕ) → m ≤ n → drop m (zeros n) ≡ zeros (n - m)
rest m n h =
    let e : m + (n - m) ≡ n = omega arith in
    let s : zeros m ++ zeros (n - m) ≡ zeros n = replicate-append-replicate m (n - m) 0 ∙ ap zeros e in
    rw (← s) (drop_at (zeros m) (zeros (n - m)) m (length-replicate m 0))

pub add : (t w : List ℕ) → length t + length w ≤ 256 → added (line_of t) w ≡ line_of (t ++ w)
unfolding added line_of when◌then◌else◌
add t w h =
    let n : 256 - length t - length w ≡ 256 - length (t ++ w) = simp length-append (omega arith) in
    let free = 256 - length t in
    let dropped = drop-append-add t (zeros free) (length w) in
    let e : drop (length t + length w) (t ++ zeros free) ≡ zeros (256 - length (t ++ w)) = dropped ∙ rest (length w) free (omega arith) ∙ ap zeros n in
    rw (le-leb (length t + length w) 256 h, take-append_seam t (zeros free), e, ← length-append t w)

-- ---- a line and its text, no longer than k
pub record Holds (l : Line) (t : List ℕ) (k : ℕ) : Type 0 where
  pub line : l ≡ line_of t
  pub short : length t ≤ k

pub holds_start : {l : Line} → l ≡ line_of [] → Holds l [] 0
holds_start e = record { line = e; short = omega arith }

pub holds_within : {l r : Line} {t : List ℕ} {k : ℕ} (w : List ℕ) (n : ℕ) → length w ≤ n → Holds l t k → r ≡ added l w → k + n ≤ 256 → Holds r (t ++ w) (k + n)
holds_within {l} {r} {t} {k} w n b g e h =
    let s = g.short in
    record { line = e ∙ rw g.line (add t w (omega arith)); short = simp length-append (omega arith) }

pub holds_word : {l r : Line} {t : List ℕ} {k : ℕ} (w : List ℕ) → Holds l t k → r ≡ added l w → k + length w ≤ 256 → Holds r (t ++ w) (k + length w)
holds_word w g e h = holds_within w (length w) (omega arith) g e h

pub holds_number : {l r : Line} {t : List ℕ} {k y : ℕ} (x : ℕ) → Holds l t k → y ≡ x → r ≡ added l (decimal y) → k + 20 ≤ 256 → Holds r (t ++ decimal x) (k + 20)
holds_number x g q e h = holds_within (decimal x) 20 (decimal_length x) g (rw q at e) h

pub holds_field :
    {l r : Line} {t : List ℕ} {k y : ℕ} (w : List ℕ) (x : ℕ)
    → Holds l t k → y ≡ x → r ≡ added (added l w) (decimal y) → k + length w + 20 ≤ 256 → Holds r (t ++ w ++ decimal x) (k + length w + 20)
holds_field w x g q e h = holds_number x (holds_word w g refl (omega arith)) q e h
