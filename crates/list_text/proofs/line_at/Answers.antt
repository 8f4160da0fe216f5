-- `list_text::line_at` meets its contract: the part read is the first line of what is left. Assumes nothing.
use Rattle.std.proofs.Common.{◌≡◌, ◌-◌, List, ℕ, take, drop, length, length-drop, arith}
use lib.Seq.{take_all}
use Rattle.list_text.proofs.Cutting.{line_read, stops}
use Rattle.list_text.proofs.line_at.Goals as goal

whole : (text : List ℕ) (start : ℕ) → take (length text - start) (drop start text) ≡ drop start text
whole text start = take_all (length text - start) (drop start text) (simp length-drop (omega arith))

pub returns : goal.returns
returns c =
    let w = whole c.args.text.now c.args.start in
    let e = rw w at c.line_length.ensures.count in
    let h = rw w at c.line_length.ensures.inside in
    line_read c.requires (stops c.args.text.now c.args.start c.requires e h) c.entry.ensures
