-- `memory::links` meets its contract. Assumes nothing.
use mathlib.Core.Path.{sym}
use native.Mathlib.Omega.{arith}
use Rattle.model.specs.Limits.{ROWS}
use Rattle.memory.specs.Layout.{LINKCOUNT, state_in}
use Rattle.memory.proofs.Pages.{word_tail_read}
use Rattle.memory.proofs.links.Goals as goal

pub returns : goal.returns
unfolding state_in ROWS
returns c = λ bytes. sym (word_tail_read _ LINKCOUNT (omega arith))
