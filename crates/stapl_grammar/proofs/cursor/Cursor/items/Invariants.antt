use Rattle.std.proofs.Common.{◌≡◌, length, map}
use Rattle.stapl_syntax.specs.Trees.{item_tree}
use Rattle.stapl_syntax.specs.Parts.{comma, item_part}
use Rattle.stapl_grammar.specs.PartReading.{part_at, with_front, more_by, listed_by}
use Rattle.stapl_grammar.proofs.cursor.Cursor.items.Given as goal

abbrev pub invariant-items : goal.invariant-items
invariant-items l = with_front (map item_tree l.items.items) (more_by (part_at item_part) comma l.self) ≡ listed_by (part_at item_part) comma l.fn.self

abbrev pub decreases-items : goal.decreases-items
decreases-items l = length l.self
