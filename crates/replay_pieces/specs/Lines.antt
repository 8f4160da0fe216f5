-- The lines of a replay and of a state. Assumes nothing.
use Rattle.std.specs.Prelude.{ℕ}
use Rattle.model.specs.State.{State, status_at, holds_at, linked_at, children_at, depth_at, error_at}
use Rattle.replay_text.specs.Line.{line_of}
use Rattle.replay_text.specs.declared.line.Line.{Line}
use Rattle.replay_report.specs.Lines.{replies_text, carried_text, callback_text}
use Rattle.replay_row.specs.Rows.{device_text}
use Rattle.replay_pieces.specs.declared.turn.Progress.{Progress}

abbrev pub replies_line : Progress → Line
replies_line p = line_of (replies_text p.replies)

abbrev pub carried_line : State → Line
carried_line s = line_of (carried_text s.carry.used)

abbrev pub callback_line : State → Line
callback_line s = line_of (callback_text s.callback.kind s.callback.asked s.callback.target)

-- what the state has of device p
abbrev pub device_line : State → ℕ → Line
device_line s p = line_of (device_text p (status_at s p) (holds_at s p) (linked_at s p) (children_at s p) (depth_at s p) (error_at s p))
