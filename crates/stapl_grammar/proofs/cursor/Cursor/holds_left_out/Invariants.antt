use Rattle.std.proofs.Common.{◌≡◌, length}
use Rattle.stapl_syntax.specs.Reasons.{holds_left_out}
use Rattle.stapl_grammar.proofs.cursor.Cursor.holds_left_out.Given as goal

abbrev pub invariant-symbols : goal.invariant-symbols
invariant-symbols l = holds_left_out l.ahead ≡ holds_left_out l.self

abbrev pub decreases-symbols : goal.decreases-symbols
decreases-symbols l = length l.ahead
