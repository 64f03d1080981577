use Rattle.std.proofs.Common.{length, ◌-◌}
use Rattle.board_text.specs.Reading.{IsReadUpTo}
use Rattle.board_text.proofs.reading.read_board.Given as goal

abbrev pub invariant-lines : goal.invariant-lines
invariant-lines l = IsReadUpTo l.text l.at l.count l.devices.items

abbrev pub decreases-lines : goal.decreases-lines
decreases-lines l = length l.text - l.at
