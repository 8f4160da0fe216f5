-- `list_words::word` meets its contract. Assumes nothing.
use Rattle.std.proofs.Common.{◌≡◌, ◌∙◌, ◌-◌, arith}
use Rattle.list_words.specs.Words.{word_at, word_in}
use Rattle.list_words.proofs.Scanning.{word_next}
use Rattle.list_words.proofs.word.Goals as goal

pub loop-i-init : goal.loop-i-init
unfolding word_in
loop-i-init c = let e : c.args.k - 0 ≡ c.args.k = omega arith in rw (c.code.ensures.count, e)

pub loop-i-preserved : goal.loop-i-preserved
loop-i-preserved c = rw c.first.ensures.rest (word_next c.loop-i.rest.now c.args.k c.loop-i.i c.loop-i-test.true ∙ c.loop-i.invariant)

pub returns : goal.returns
unfolding word_at
returns c =
    let e : c.args.k - c.loop-i.i ≡ 0 = omega arith in
    c.first-2.ensures.word ∙ (rw e at c.loop-i.invariant)
