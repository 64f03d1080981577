use Rattle.std.proofs.Common.{length, ◌+◌, ◌*◌}
use Rattle.stapl_grammar.proofs.cursor.Cursor.+statements.Given as goal

abbrev pub decreases-if_then : goal.decreases-if_then
decreases-if_then l = 4 * length l.self.now + 2

abbrev pub decreases-simple_after : goal.decreases-simple_after
decreases-simple_after l = 4 * length l.self.now + 3

abbrev pub decreases-simple : goal.decreases-simple
decreases-simple l = 4 * length l.self.now

abbrev pub decreases-boxed_simple : goal.decreases-boxed_simple
decreases-boxed_simple l = 4 * length l.self.now + 1
