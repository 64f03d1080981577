use Rattle.stapl_meaning.proofs.TurnLemmas.{one_turn}
use Rattle.stapl_meaning.proofs.laws.one_turn.Goals as goal

pub returns : goal.returns
returns c = one_turn
