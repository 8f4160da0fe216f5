-- `record_feed::take_piece` meets its contract: the carried bytes are cleared, the records lead on from there, and the bytes left over are
-- carried. Assumes nothing.
use Rattle.model.specs.Limits.{ROWS, LINKS}
use Rattle.memory.specs.Layout.{BYTES, state_in}
use Rattle.memory.proofs.Readiness.{ready, long}
use Rattle.record_feed.proofs.Answering.{took}
use Rattle.record_feed.proofs.take_piece.Goals as goal

pub returns : goal.returns
unfolding BYTES ROWS LINKS
returns c =
    record {
      is = λ i h u.
          let cells = long _ _ (ready h) in
          took (state_in c.args.bytes.now c.args.words.now) h (c.carry-held.ensures _ cells) u c.args.piece.now
          (i.is h.kept.table.order.links)
          (c.set_carried.ensures _ cells)
          (c.answer_piece-left.ensures.is c.requires).is
          (c.answer_piece-left.ensures.left c.requires)
          (λ d. c.set_carried-2.ensures _ (long _ _ (ready d.sound)));
    }
