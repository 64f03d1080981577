use Rattle.std.proofs.Common.{arith}
use Rattle.soak_texts.specs.Boards.{soak_devices}
use Rattle.soak_texts.proofs.DrawLemmas.{draw_below}
use Rattle.soak_texts.proofs.laws.a_board_has_1_to_16_devices.Goals as goal

pub returns : goal.returns
unfolding soak_devices
returns c = λ seed. (omega arith, omega (arith, draw_below 1 16 seed (omega arith)))
