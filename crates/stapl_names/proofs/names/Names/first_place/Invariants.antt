use Rattle.stapl_names.proofs.Search.{NoneBefore}
use Rattle.stapl_names.proofs.names.Names.first_place.Given as goal

abbrev pub invariant-loop-number : goal.invariant-loop-number
invariant-loop-number l = NoneBefore l.self l.number-items l.block.uses l.number-index l.first
