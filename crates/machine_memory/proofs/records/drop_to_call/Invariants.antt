use Rattle.std.proofs.Common.{◌≡◌, length, reverse}
use Rattle.stapl_meaning.specs.Effects.{returned_from}
use Rattle.stapl_meaning.specs.States.{State}
use Rattle.machine_memory.proofs.records.drop_to_call.Given as goal

abbrev pub invariant-down : goal.invariant-down
invariant-down l = (s : State) → returned_from (reverse l.fn.records.items) s ≡ returned_from (reverse l.records.items) s

abbrev pub decreases-down : goal.decreases-down
decreases-down l = length l.records.items
