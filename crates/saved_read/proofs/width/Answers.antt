-- `saved_read::width` meets its contract, by the array of the span. Assumes nothing.
use mathlib.Core.Path.{sym, ap}
use native.Mathlib.Omega.{arith}
use Rattle.saved_form.specs.Restoring.{are_words}
use Rattle.saved_read.proofs.Laying.{width_bytes, width_words}
use Rattle.saved_read.proofs.width.Goals as goal

pub overflow_mul-result : goal.overflow_mul-result
overflow_mul-result c = let w = width_words c.args.span (ap are_words c.in-Words.is) in omega (arith, w, c.requires)

pub returns-in-Bytes : goal.returns-in-Bytes
returns-in-Bytes c = sym (width_bytes _ (ap are_words c.in-Bytes.is))

pub returns-in-Words : goal.returns-in-Words
returns-in-Words c = sym (width_words _ (ap are_words c.in-Words.is))
