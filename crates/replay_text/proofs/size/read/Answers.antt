-- `replay_text::size::read` meets its contract. Assumes nothing.
use Rattle.std.proofs.Common.{◌≡◌, refl, sym, ◌∙◌, ◌+◌, ◌*◌, ◌≤◌, ◌<◌, drop, length, arith}
use Rattle.replay_text.specs.Sizes.{size_after, size_of}
use Rattle.replay_text.proofs.Reading.{digit_low, turn_on, turn_stop, left_none, size_large, size_last}
use Rattle.replay_text.proofs.size.read.Goals as goal
use Rattle.replay_text.proofs.size.read.Goals.{In_ok-value}

-- the digit is taken into the value
taken : (c : In_ok-value) → let at = c.loop-b in let text = c.args.text.now in
    size_after (10 * at.value + c.in_ok-value.field-0) (drop (at.b-index + 1) text) ≡ size_of text
taken c =
    let at = c.loop-b in
    let text = c.args.text.now in
    let more : at.b-index < length text = omega arith in
    turn_on text at.b-index at.value more (sym c.digit.ensures ∙ c.in_ok-value.was) ∙ at.invariant.1

pub loop-b-init : goal.loop-b-init
unfolding size_of
loop-b-init c = (omega arith, refl)

-- a byte is no digit
pub returns-in_err-value : goal.returns-in_err-value
returns-in_err-value c =
    let at = c.loop-b in
    let text = c.args.text.now in
    let more : at.b-index < length text = omega arith in
    c.from_residual.ensures ∙ sym (turn_stop text at.b-index at.value more (sym c.digit.ensures ∙ c.in_err-value.was)) ∙ at.invariant.1

pub overflow_add-value : goal.overflow_add-value
overflow_add-value c = let d = digit_low _ (sym c.digit.ensures ∙ c.in_ok-value.was) in omega arith

-- the value is too great
pub returns-then-large : goal.returns-then-large
returns-then-large c =
    let at = c.loop-b in
    let over : 4096 < 10 * at.value + c.in_ok-value.field-0 = omega arith in
    sym (size_large _ (drop (at.b-index + 1) c.args.text.now) over) ∙ taken (goal.at.returns-then-large c).In_ok-value

pub loop-b-preserved : goal.loop-b-preserved
loop-b-preserved c = (omega arith, taken (goal.at.loop-b-preserved c).In_ok-value)

-- all bytes read
pub returns : goal.returns
returns c =
    let at = c.loop-b in
    let text = c.args.text.now in
    let done : length text ≤ at.b-index = omega arith in
    size_last at.value at.invariant.0 c.then_some.ensures ∙ sym (left_none text at.b-index at.value done) ∙ at.invariant.1
