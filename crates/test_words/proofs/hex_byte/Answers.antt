-- `test_words::hex_byte` meets its contract. Assumes nothing.
use Rattle.test_words.specs.Numbers.{hex_byte}
use Rattle.test_words.proofs.hex_byte.Goals as goal

pub returns : goal.returns
unfolding hex_byte
returns c = rw (c.digit-high.ensures, c.byte_at.ensures) (rw (c.digit-low.ensures, c.byte_at-2.ensures))
