use Rattle.std.proofs.Common.{take, ◌≢◌}
use Rattle.std.specs.Prelude.{AllPairs}
use Rattle.board_text.proofs.opcodes.are_apart.Given as goal

abbrev pub invariant-loop-i : goal.invariant-loop-i
invariant-loop-i l = AllPairs ◌≢◌ (take l.i l.opcodes)
