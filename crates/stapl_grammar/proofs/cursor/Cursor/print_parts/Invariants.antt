use Rattle.std.proofs.Common.{◌≡◌, length, map}
use Rattle.stapl_syntax.specs.Trees.{part_tree}
use Rattle.stapl_syntax.specs.Parts.{comma}
use Rattle.stapl_grammar.specs.PartReading.{print_part_at, with_front, more_by, listed_by}
use Rattle.stapl_grammar.proofs.cursor.Cursor.print_parts.Given as goal

abbrev pub invariant-parts : goal.invariant-parts
invariant-parts l = with_front (map part_tree l.parts.items) (more_by print_part_at comma l.self) ≡ listed_by print_part_at comma l.fn.self

abbrev pub decreases-parts : goal.decreases-parts
decreases-parts l = length l.self
