use Rattle.effect_laws.proofs.Loops.{goes_round}
use Rattle.effect_laws.proofs.laws.loops.a_loop_goes_round_until_its_limit.Goals as goal

pub returns : goal.returns
returns c = goes_round
