use Rattle.std.proofs.Common.{◌≡◌, length}
use Rattle.stapl_syntax.specs.Parts.{comma}
use Rattle.stapl_grammar.specs.Reading.{name_at}
use Rattle.stapl_grammar.specs.PartReading.{with_front, more_by, listed_by}
use Rattle.stapl_grammar.proofs.cursor.Cursor.names.Given as goal

abbrev pub invariant-names : goal.invariant-names
invariant-names l = with_front l.names.items (more_by name_at comma l.self) ≡ listed_by name_at comma l.fn.self

abbrev pub decreases-names : goal.decreases-names
decreases-names l = length l.self
