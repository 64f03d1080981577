use Rattle.stapl_syntax.specs.Trees.{item_tree}
use Rattle.stapl_syntax.specs.Parts.{comma, item_part}
use Rattle.stapl_grammar.specs.PartReading.{part_at}
use Rattle.stapl_grammar.proofs.ListLaws.{list_kept}
use Rattle.stapl_grammar.proofs.ListSteps.{item_short}
use Rattle.stapl_grammar.proofs.cursor.Cursor.items.Goals as goal

pub items-preserved : goal.items-preserved
items-preserved c =
    list_kept (part_at item_part) comma item_short item_tree c.items.items.items _ c.items.self c.take_mark.new.self c.in_ok-item.item c.item-in-items.new.self _
    c.in_ok-push-2.ensures.items c.items-test.ensures.read c.in_ok-item.ensures.read c.items.invariant
