use Rattle.stapl_syntax.specs.Trees.{trees}
use Rattle.stapl_meaning.specs.Scopes.{as_played}
use Rattle.turn_table.specs.Tables.{turn_place}
use Rattle.turn_table.proofs.Entries.{Lists}
use Rattle.turn_table.proofs.table.turn_table.Given as goal

abbrev pub invariant-loop-i : goal.invariant-loop-i
invariant-loop-i l = Lists (turn_place l.text l.pieces.items (as_played (trees l.statements))) l.i l.table.items
