-- Texts cut into lines, and bytes in buffers, by computation. Assumes nothing.
use mathlib.Core.Path.{◌≡◌, refl}
use mathlib.Core.List.{[], ◌∷◌}
use Rattle.model.specs.Logic.{when◌then◌else◌}
use Rattle.list_text.specs.Texts.{in_front, lines_of, at_front}

-- no text is one empty line
no_text : lines_of [] ≡ [] ∷ []
unfolding lines_of
no_text = refl

-- a line feed at the end of a text has an empty line after it
feed_last : lines_of (97 ∷ 10 ∷ []) ≡ (97 ∷ []) ∷ [] ∷ []
unfolding lines_of in_front when◌then◌else◌
feed_last = refl

-- an empty line between two others
feed_twice : lines_of (97 ∷ 98 ∷ 10 ∷ 10 ∷ 99 ∷ []) ≡ (97 ∷ 98 ∷ []) ∷ [] ∷ (99 ∷ []) ∷ []
unfolding lines_of in_front when◌then◌else◌
feed_twice = refl

-- more bytes than room, and more room than bytes
short_buffer : at_front (1 ∷ 2 ∷ 3 ∷ []) (7 ∷ 8 ∷ []) ≡ 1 ∷ 2 ∷ []
unfolding at_front
short_buffer = refl

long_buffer : at_front (1 ∷ 2 ∷ []) (7 ∷ 8 ∷ 9 ∷ []) ≡ 1 ∷ 2 ∷ 9 ∷ []
unfolding at_front
long_buffer = refl
