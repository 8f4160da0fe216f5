-- Bytes stored one after another into a buffer. Assumes nothing.
use Rattle.std.proofs.Common.{◌≡◌, refl, ap, ◌∙◌, List, [], ◌∷◌, ◌++◌, ℕ, suc, ◌+◌, ◌<◌, length, take, get_or, set, add-one, arith}
use Rattle.std.proofs.lemmas.List.Edits.{sets}
use native.Mathlib.Nat.{add-zero}
use lib.Seq.{take-nil, take-suc, length-take-le}
use Rattle.list_text.specs.Texts.{at_front}

pub sets_more : (out : List ℕ) (at : ℕ) (v w : List ℕ) → sets (sets out at v) (at + length v) w ≡ sets out at (v ++ w)
sets_more out at [] w = rw (add-zero at)
sets_more out at (a ∷ v) w =
    let n : at + suc (length v) ≡ suc at + length v = omega arith in
    rw n (sets_more (set out at a) (suc at) v w)

-- one byte more
pub sets_one : (out : List ℕ) (at : ℕ) (v : List ℕ) (i : ℕ) → i < length v → set (sets out at (take i v)) (at + i) (get_or v i 0) ≡ sets out at (take (i + 1) v)
sets_one out at v i h =
    let l : length (take i v) ≡ i = length-take-le i v (omega arith) in
    let m = sets_more out at (take i v) (get_or v i 0 ∷ []) in
    rw l at m ∙ rw (add-one i, take-suc v i 0 h)

-- bytes stored from the front on
sets_after : (x : ℕ) (out : List ℕ) (at : ℕ) (v : List ℕ) → sets (x ∷ out) (suc at) v ≡ x ∷ sets out at v
sets_after x out at [] = refl
sets_after x out at (a ∷ v) = sets_after x (set out at a) (suc at) v

sets_none : (at : ℕ) (v : List ℕ) → sets [] at v ≡ []
sets_none at [] = refl
sets_none at (a ∷ v) = sets_none (suc at) v

pub sets_front : (v out : List ℕ) → sets out 0 v ≡ at_front v out
unfolding at_front
sets_front [] out = rw (take-nil (length out))
sets_front (a ∷ v) [] = sets_none 1 v
sets_front (a ∷ v) (x ∷ out) = sets_after a out 0 v ∙ ap (λ (l : List ℕ). a ∷ l) (sets_front v out)
