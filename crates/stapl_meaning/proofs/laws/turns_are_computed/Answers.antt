use Rattle.stapl_meaning.proofs.TurnLemmas.{turn_is, is_turn}
use Rattle.stapl_meaning.proofs.laws.turns_are_computed.Goals as goal

pub returns-clause-once : goal.returns-clause-once
returns-clause-once c = turn_is

pub returns-clause-found : goal.returns-clause-found
returns-clause-found c = is_turn
