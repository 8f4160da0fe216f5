-- `replay_text::line::number` meets its contract: the digits written are those of `decimal`. Assumes nothing.
use mathlib.Core.Path.{◌∙◌}
use Prim.Native.Nat.{◌^◌, ◌<◌}
use Rattle.replay_text.proofs.Digits.{decimal_digits}
use borrow.Author.Rules.{rules}
use Rattle.replay_text.proofs.line.number.Goals as goal

-- the one exit
pub returns : goal.returns
returns c =
    let x = c.args.x in
    let d = c.decimal-k in
    let small : x < 2 ^ 64 = search rules in
    let e = d.ensures.digits ∙ decimal_digits d.result x small d.ensures.len in
    c.word.ensures ∙ rw e
