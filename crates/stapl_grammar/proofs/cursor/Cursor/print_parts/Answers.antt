use Rattle.stapl_syntax.specs.Trees.{part_tree}
use Rattle.stapl_syntax.specs.Parts.{comma}
use Rattle.stapl_grammar.specs.PartReading.{print_part_at}
use Rattle.stapl_grammar.proofs.ListLaws.{list_kept}
use Rattle.stapl_grammar.proofs.ListSteps.{part_short}
use Rattle.stapl_grammar.proofs.cursor.Cursor.print_parts.Goals as goal

pub parts-preserved : goal.parts-preserved
parts-preserved c =
    list_kept print_part_at comma part_short part_tree c.parts.parts.items _ c.parts.self c.take_mark.new.self c.in_ok-part.part c.print_part-in-parts.new.self _
    c.in_ok-push-2.ensures.items c.parts-test.ensures.read c.in_ok-part.ensures.read c.parts.invariant
