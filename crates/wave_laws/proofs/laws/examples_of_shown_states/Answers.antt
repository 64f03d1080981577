use Rattle.std.proofs.Common.{refl}
use Rattle.wave_laws.proofs.laws.examples_of_shown_states.Goals as goal

pub returns : goal.returns
returns c = record {
  idle = refl;
  a_clock_before = refl;
  select = refl;
  shift = refl;
  five_ones = refl;
  four_ones = refl;
  four_ones_twice = refl;
  all_but_three = refl;
  zeros = refl;
}
