-- `record_feed::feed` meets its contract. The number of a piece follows from the soundness test and the lengths alone; a piece that is taken
-- leads where the plain keeper leads. Assumes nothing.
use mathlib.Core.Path.{◌≡◌, refl, sym, ◌∙◌}
use Rattle.model.specs.SoundTest.{sound_test}
use Rattle.model.proofs.Chains.{passed, failed}
use Rattle.memory.specs.Layout.{state_in}
use Rattle.record_feed.proofs.Answering.{few_carried, sound_in, unsound_number, long_number, room_number, taken_number}
use Rattle.record_feed.proofs.Answering.{fed_refused, fed_taken}
use Rattle.record_feed.proofs.feed.Goals as goal
use Rattle.record_feed.proofs.feed.Goals.{After-sound_by}

-- the soundness test is the definition's, since the index is made from the links
soundness : (c : After-sound_by) → c.sound_by.result ≡ sound_test ((state_in c.args.bytes.now c.args.words.now))
soundness c = c.sound_by.ensures.is c.index-first.ensures

-- 21
pub returns-then-not-sound_by : goal.returns-then-not-sound_by
returns-then-not-sound_by c =
    let number = unsound_number _ _ _ (failed (soundness (goal.at.returns-then-not-sound_by c).After-sound_by) c.if-not-sound_by.true-raw) in
    record { number = sym number; untouched = λ n. (refl, refl, refl); is = λ a b. fed_refused _ _ 21 refl number }

-- 22
pub returns-then-piece-gt-PIECE : goal.returns-then-piece-gt-PIECE
returns-then-piece-gt-PIECE c =
    let number = long_number _ _ _ (passed (soundness (goal.at.returns-then-piece-gt-PIECE c).After-sound_by) c.if-not-sound_by.false-raw) c.if-piece-gt-PIECE.true in
    record { number = sym number; untouched = λ n. (refl, refl, refl); is = λ a b. fed_refused _ _ 22 refl number }

-- 23
pub returns-then-replies-count : goal.returns-then-replies-count
returns-then-replies-count c =
    let used = c.from-used.ensures ∙ c.used.ensures _ in
    let number = room_number _ _ _ (passed (soundness (goal.at.returns-then-replies-count c).After-sound_by) c.if-not-sound_by.false-raw) used c.if-piece-gt-PIECE.false c.if-replies-count.true in
    record { number = sym number; untouched = λ n. (refl, refl, refl); is = λ a b. fed_refused _ _ 23 refl number }

pub take_piece-requires : goal.take_piece-requires
take_piece-requires c =
    let used = c.from-used.ensures ∙ c.used.ensures _ in
    let few = few_carried ((state_in c.args.bytes.now c.args.words.now)) (passed (soundness (goal.at.take_piece-requires c).After-sound_by) c.if-not-sound_by.false-raw) in
    record { few = rw used few; short = c.if-piece-gt-PIECE.false; room = c.if-replies-count.false }

-- taken
pub returns : goal.returns
returns c =
    let used = c.from-used.ensures ∙ c.used.ensures _ in
    let test = passed (soundness (goal.at.returns c).After-sound_by) c.if-not-sound_by.false-raw in
    let number = taken_number _ _ _ test used c.if-piece-gt-PIECE.false c.if-replies-count.false in
    record {
      number = sym number;
      untouched = λ n. absurd (n refl);
      is = λ a b.
          let h = sound_in _ _ a b test in
          let (state, buffer) = c.take_piece.ensures.is c.index-first.ensures h used in
          fed_taken _ _ number h used state buffer;
    }
