-- `state_file::keep` meets its contract: a saving into a buffer of the form's length is the form, or is refused since the bench is not sound.
-- Assumes nothing.
use mathlib.Core.Path.{◌≡◌, refl, ap}
use mathlib.Core.List.{List}
use Prim.Native.Nat.{ℕ}
use native.Mathlib.Omega.{arith}
use lib.ListN.{length, replicate, length-replicate}
use borrow.Author.Rules.{rules}
use Rattle.model.specs.Limits.{LINKS, ROWS}
use Rattle.memory.specs.Layout.{BYTES, WORDS}
use Rattle.saved_answer.specs.Answers.{saving_of}
use Rattle.saved_form.specs.Form.{FORM}
use Rattle.state_file.proofs.Ending.{some_none, not_some}
use Rattle.state_file.proofs.Keeping.{refusal_numbered, sound_saved, unsound_refused, form_saved}
use Rattle.state_file.proofs.keep.Goals as goal

-- and the buffer that of a form
abbrev buffer : List ℕ
buffer = replicate FORM 0

room : length buffer ≡ FORM
room = length-replicate FORM 0

-- nothing is asked
pub returns-in_default : goal.returns-in_default
returns-in_default g c =
    let z = not_some c.args.task.save c.in_default.not-Some in
    record { unasked = λ e. refl; sound = λ n t. absurd (n z); unsound = λ n t. absurd (n z) }

-- the bench is not sound
pub returns-in-Err : goal.returns-in-Err
unfolding FORM BYTES WORDS ROWS LINKS
returns-in-Err g c =
    record {
      unasked = λ e. absurd (some_none c.in-Some.is e);
      sound = λ n t. absurd (refusal_numbered c.in-Err.is (sound_saved c.args.bench buffer room c.save-saving.result c.save-saving.ensures t));
      unsound = λ n t. refl;
    }

pub named-requires : goal.named-requires
unfolding FORM BYTES WORDS ROWS LINKS
named-requires g c =
    let w = c.well_formed in
    let z = ap saving_of c.in_default-saving.is in
    form_saved c.args.bench buffer room c.save-saving.result c.save-saving.ensures (search rules) (search rules) z

-- the bench is saved, or a file fails
pub returns : goal.returns
unfolding FORM BYTES WORDS ROWS LINKS
returns g c =
    let z = ap saving_of c.in_default-saving.is in
    record {
      unasked = λ e. absurd (some_none c.in-Some.is e);
      sound = λ n t. c.named.ensures;
      unsound = λ n t. let x = unsound_refused c.args.bench buffer room c.save-saving.result c.save-saving.ensures t in absurd (omega arith);
    }
