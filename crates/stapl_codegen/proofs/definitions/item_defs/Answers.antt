use Rattle.std.proofs.Common.{◌+◌, ◌∷◌, [], ◌++◌, sym, ap, ◌∙◌, drop, map}
use Rattle.stapl_syntax.specs.Trees.{item_tree, trees}
use Rattle.stapl_meaning.specs.Scopes.{as_played}
use Rattle.stapl_codegen.specs.Emit.{item_def}
use Rattle.stapl_meaning.specs.Typed.{NamesProcedure}
use Rattle.stapl_meaning.proofs.Entries.{all_at}
use Rattle.stapl_code.proofs.Heads.{head_of, get_head}
use Rattle.stapl_codegen.proofs.Heads.{mapped_more}
use Rattle.stapl_codegen.proofs.DefinitionSteps.{one_more}
use Rattle.stapl_codegen.proofs.definitions.item_defs.Goals as goal

pub loop-item-preserved : goal.loop-item-preserved
loop-item-preserved c =
    let program = as_played (trees c.args.program.now) in
    let items = c.args.items.now in
    let i = c.loop-item.item-index in
    let item = c.item-item.result in
    let rest = drop (i + 1) (map item_tree items) in
    one_more c.loop-item.defs.items (item_def program (item_tree item) ∷ []) (map (item_def program) rest) _ _
    (c.in_ok-push.ensures.items ∙ ap (λ d. c.loop-item.defs.items ++ d ∷ []) c.item_def.ensures)
    (sym (ap (λ l. c.loop-item.defs.items ++ map (item_def program) l) (mapped_more item_tree i items item c.loop-item-test.true c.item-item.is)) ∙ c.loop-item.invariant)

pub item_def-requires-clause-there : goal.item_def-requires-clause-there
item_def-requires-clause-there c =
    let program = as_played (trees c.args.program.now) in
    let i = c.loop-item.item-index in
    let item = c.item-item.result in
    let first = mapped_more item_tree i c.args.items.now item c.loop-item-test.true c.item-item.is in
    all_at (NamesProcedure program) (map item_tree c.args.items.now) i (item_tree item) c.requires.there (get_head i (map item_tree c.args.items.now) ∙ ap head_of first)
