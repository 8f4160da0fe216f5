-- `replay_text::size::number` meets its contract. Assumes nothing.
use Rattle.std.proofs.Common.{◌≡◌, refl, sym, ◌∙◌, ◌+◌, ◌*◌, ◌≤◌, ◌<◌, drop, [], get_or, length, drop_of_length-le, min, rules, arith}
use Rattle.replay_text.specs.Sizes.{number_of, number_after}
use Rattle.replay_text.proofs.Reading.{at_byte, digit_low, number_on, number_stop, number_end}
use Rattle.replay_text.proofs.size.number.Goals as goal

pub loop-b-init : goal.loop-b-init
unfolding number_of
loop-b-init c = (omega arith, refl)

-- a byte is no digit
pub returns-in_err-digit : goal.returns-in_err-digit
returns-in_err-digit c =
    let at = c.loop-b in
    let text = c.args.text.now in
    let more : at.b-index < length text = omega arith in
    let byte = number_stop c.from-most.result at.value (get_or text at.b-index 0) (drop (at.b-index + 1) text) (sym c.digit.ensures ∙ c.in_err-digit.was) in
    c.from_residual.ensures ∙ sym byte ∙ sym (at_byte (number_after c.from-most.result at.value) text at.b-index more) ∙ at.invariant.1 ∙ rw c.from-most.ensures

pub overflow_add-branch : goal.overflow_add-branch
overflow_add-branch c = let d = digit_low _ (sym c.digit.ensures ∙ c.in_ok-digit.was) in omega arith

pub loop-b-preserved : goal.loop-b-preserved
loop-b-preserved c =
    let at = c.loop-b in
    let text = c.args.text.now in
    let more : at.b-index < length text = omega arith in
    let byte = number_on c.from-most.result at.value (get_or text at.b-index 0) (drop (at.b-index + 1) text) (sym c.digit.ensures ∙ c.in_ok-digit.was) in
    let small : c.min-value.result ≡ min (10 * at.value + c.in_ok-digit.field-0) c.from-most.result = search rules in
    (omega arith, rw small (byte ∙ sym (at_byte (number_after c.from-most.result at.value) text at.b-index more) ∙ at.invariant.1))

-- all bytes read
pub returns : goal.returns
returns c =
    let at = c.loop-b in
    let text = c.args.text.now in
    let done : length text ≤ at.b-index = omega arith in
    let e : number_after c.from-most.result at.value [] ≡ number_of c.from-most.result text = rw (drop_of_length-le text done) at at.invariant.1 in
    sym (number_end _ at.value at.invariant.0) ∙ e ∙ rw c.from-most.ensures
