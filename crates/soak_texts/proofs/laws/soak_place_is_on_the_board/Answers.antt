use Rattle.std.proofs.Common.{◌+◌, arith}
use Rattle.soak_texts.specs.Boards.{soak_devices, soak_place}
use Rattle.soak_texts.proofs.BoardLemmas.{some_device}
use Rattle.soak_texts.proofs.DrawLemmas.{draw_below}
use Rattle.soak_texts.proofs.laws.soak_place_is_on_the_board.Goals as goal

pub returns : goal.returns
unfolding soak_place
returns c = λ seed.
    (omega arith, omega (arith, draw_below (2 + soak_devices seed) (soak_devices seed) seed (some_device seed)))
