use Rattle.std.proofs.Common.{◌≡◌, length, slice_get}
use Rattle.std.specs.Str.Lines.{lines}
use Rattle.tool_questions.proofs.board_lines.line_at.Given as goal

abbrev pub invariant-lines : goal.invariant-lines
invariant-lines l = slice_get (lines l.rest) l.left ≡ slice_get (lines l.text) l.place

abbrev pub decreases-lines : goal.decreases-lines
decreases-lines l = length l.rest
