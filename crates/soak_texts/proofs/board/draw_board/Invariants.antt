use Rattle.std.proofs.Common.{◌≡◌, ◌+◌, map}
use Rattle.std.specs.List.{range_with_len}
use Rattle.soak_texts.specs.Draws.{state_after}
use Rattle.soak_texts.specs.Boards.{soak_devices, register_length, lines_of_devices}
use Rattle.soak_texts.proofs.board.draw_board.Given as goal

abbrev pub invariant-loop-i : goal.invariant-loop-i
invariant-loop-i l = record {
  devices : l.devices ≡ soak_devices l.fn.draws.state;
  state : l.draws.state ≡ state_after (1 + l.i) l.fn.draws.state;
  text : l.text.items ≡ lines_of_devices l.i l.fn.draws.state;
  lengths : l.lengths.items ≡ map (register_length l.fn.draws.state) (range_with_len 1 l.i);
}
