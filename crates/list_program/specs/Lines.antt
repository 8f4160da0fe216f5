-- The lines that are printed of a table. Assumes nothing.
use Rattle.std.specs.Prelude.{List, ℕ}
use Rattle.model.specs.Table.{device_byte, link_byte}
use Rattle.replay_text.specs.declared.line.Line.{Line}
use Rattle.replay_text.specs.Line.{line_of}
use Rattle.list_print.specs.Lines.{part_text, link_text}

-- part PARENT FLAGS of device p, as the table has them
unfoldable pub device_line : List ℕ → ℕ → Line
device_line t p = line_of (part_text (device_byte t 0 p) (device_byte t 1 p))

-- link CONSUMER SUPPLIER FLAGS of link i
unfoldable pub link_line : List ℕ → ℕ → Line
link_line t i = line_of (link_text (link_byte t 0 i) (link_byte t 1 i) (link_byte t 2 i))
