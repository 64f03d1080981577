use Rattle.std.proofs.Common.{◌≡◌, length}
use Rattle.stapl_syntax.specs.Parts.{comma}
use Rattle.stapl_grammar.specs.PartReading.{signed_at, with_front, more_by, listed_by}
use Rattle.stapl_grammar.proofs.cursor.Cursor.signed_list.Given as goal

abbrev pub invariant-values : goal.invariant-values
invariant-values l = with_front l.values.items (more_by signed_at comma l.self) ≡ listed_by signed_at comma l.fn.self

abbrev pub decreases-values : goal.decreases-values
decreases-values l = length l.self
