-- What is printed of a part or a link, without its end of line, is read as that part or link. Assumes nothing.
use mathlib.Core.Path.{◌≡◌, refl}
use mathlib.Core.Bool.{true}
use mathlib.Core.List.{List, [], ◌∷◌, ◌++◌, append-nil, append_assoc}
use Rattle.std.specs.Prelude.{Ok}
use Prim.Native.Nat.{ℕ, ◌<◌}
use lib.ListN.{get_or}
use Rattle.model.specs.Logic.{when◌then◌else◌}
use Rattle.replay_text.specs.Text.{ascii, decimal}
use Rattle.list_words.specs.Words.{is_blank, word_in}
use Rattle.list_lines.specs.Lines.{part_in, link_in, entry_in}
use Rattle.list_lines.specs.declared.entries.Entry.TheVariants.{Part, Link}
use Rattle.list_print.specs.Lines.{parent_text, part_words, link_words}
use Rattle.list_print.proofs.Spaced.{uncut, solid, all_solid, spaced, words_back}
use Rattle.list_print.proofs.Numbers.{number_told_lem, parent_told}

-- ---- the words before the numbers
part_first : solid (ascii "part") ≡ true
unfolding solid uncut is_blank ascii
part_first = refl

link_first : solid (ascii "link") ≡ true
unfolding solid uncut is_blank ascii
link_first = refl

-- ---- a part
module _ (parent flags : ℕ) (p : parent < 256) (f : flags < 256) where
  part_list : List (List ℕ)
  part_list = parent_text parent ∷ decimal flags ∷ []

  part_solid : all_solid (ascii "part" ∷ part_list) ≡ true
  unfolding part_list all_solid
  part_solid = rw (part_first, (parent_told parent p).word, (number_told_lem flags f).word)

  part_spaced : part_words parent flags ≡ ascii "part" ++ spaced part_list
  unfolding part_list spaced part_words ascii
  part_spaced = simp (append_assoc, append-nil)

  part_word : (k : ℕ) → word_in (part_words parent flags) k ≡ get_or (ascii "part" ∷ part_list) k []
  part_word k = rw part_spaced (words_back (ascii "part") part_list k part_solid)

  pub part_back : entry_in (part_words parent flags) ≡ Ok (Part parent flags)
  unfolding part_list entry_in part_in ascii when◌then◌else◌
  part_back =
      rw (part_word 0, part_word 3, part_word 1, part_word 2, (parent_told parent p).back, (number_told_lem flags f).back)

-- ---- a link
module _ (consumer supplier flags : ℕ) (c : consumer < 256) (s : supplier < 256) (f : flags < 256) where
  link_list : List (List ℕ)
  link_list = decimal consumer ∷ decimal supplier ∷ decimal flags ∷ []

  link_solid : all_solid (ascii "link" ∷ link_list) ≡ true
  unfolding link_list all_solid
  link_solid = rw (link_first, (number_told_lem consumer c).word) (rw (number_told_lem supplier s).word (rw (number_told_lem flags f).word))

  link_spaced : link_words consumer supplier flags ≡ ascii "link" ++ spaced link_list
  unfolding link_list spaced link_words ascii
  link_spaced = simp (append_assoc, append-nil)

  link_word : (k : ℕ) → word_in (link_words consumer supplier flags) k ≡ get_or (ascii "link" ∷ link_list) k []
  link_word k = rw link_spaced (words_back (ascii "link") link_list k link_solid)

  pub link_back : entry_in (link_words consumer supplier flags) ≡ Ok (Link consumer supplier flags)
  unfolding link_list entry_in link_in ascii when◌then◌else◌
  link_back =
      rw (link_word 0, link_word 4, link_word 1, link_word 2, link_word 3)
      (rw ((number_told_lem consumer c).back, (number_told_lem supplier s).back, (number_told_lem flags f).back))
