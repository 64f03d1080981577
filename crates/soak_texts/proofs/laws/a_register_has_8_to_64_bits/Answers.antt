use Rattle.std.proofs.Common.{◌+◌, arith}
use Rattle.soak_texts.specs.Boards.{register_length}
use Rattle.soak_texts.proofs.DrawLemmas.{draw_below}
use Rattle.soak_texts.proofs.laws.a_register_has_8_to_64_bits.Goals as goal

pub returns : goal.returns
unfolding register_length
returns c = λ seed i. (omega arith, omega (arith, draw_below (1 + i) 57 seed (omega arith)))
