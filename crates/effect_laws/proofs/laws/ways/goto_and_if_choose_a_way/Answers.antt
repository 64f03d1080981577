use Rattle.effect_laws.proofs.Ways.{goes_to, skips, enters}
use Rattle.effect_laws.proofs.laws.ways.goto_and_if_choose_a_way.Goals as goal

pub returns : goal.returns
returns c = record {
  goto = goes_to;
  zero = skips;
  one = λ program other i s e body stands. enters program i s e body stands other;
}
