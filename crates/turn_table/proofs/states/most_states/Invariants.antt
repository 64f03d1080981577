use Rattle.std.proofs.Common.{◌≡◌, max, drop}
use Rattle.stapl_syntax.specs.Trees.{trees}
use Rattle.scan_accounts.specs.Rooms.{most_states}
use Rattle.turn_table.proofs.states.most_states.Given as goal

-- the most so far and the most of what is left give the most of all
abbrev pub invariant-loop-statement : goal.invariant-loop-statement
invariant-loop-statement l =
    max l.most (most_states (trees (drop l.statement-index l.statements))) ≡ most_states (trees l.statements)
