use Rattle.std.proofs.Common.{◌≡◌, ◌++◌, drop, map}
use Rattle.stapl_syntax.specs.Trees.{item_tree, trees}
use Rattle.stapl_meaning.specs.Scopes.{as_played}
use Rattle.stapl_codegen.specs.Emit.{item_def}
use Rattle.stapl_codegen.proofs.definitions.item_defs.Given as goal

abbrev pub invariant-loop-item : goal.invariant-loop-item
invariant-loop-item l =
    l.defs.items ++ map (item_def (as_played (trees l.program))) (drop l.item-index (map item_tree l.items)) ≡ map (item_def (as_played (trees l.program))) (map item_tree l.items)
