use Rattle.std.proofs.Common.{ap, ◌∙◌, get_or}
use Rattle.stapl_syntax.specs.Trees.{trees}
use Rattle.stapl_meaning.specs.Scopes.{as_played}
use Rattle.stapl_codegen.proofs.Numbers.{item_number, item_below}
use Rattle.stapl_codegen.proofs.definitions.item_def.Goals as goal

pub index-requires : goal.index-requires
index-requires c =
    let numbers = c.args.numbers.now in
    item_below (as_played (trees c.args.program.now)) numbers c.args.item.now.procedure c.block.result c.blocks-2.result c.unwrap_or-block.result numbers.next.len c.requires.known
    c.block.ensures.number c.blocks-2.ensures c.unwrap_or-block.ensures numbers.next.ok.0

pub returns : goal.returns
returns c =
    let number = item_number (as_played (trees c.args.program.now)) c.args.numbers.now c.args.item.now.procedure c.block.result c.blocks-2.result c.index.result.now c.requires.known c.requires.there
    c.block.ensures.number c.blocks-2.ensures in
    let flag = c.choice_flag.ensures in
    let procedure = c.index.ensures ∙ ap (λ k. get_or c.args.numbers.now.next.items k c.index.result.now) c.unwrap_or-block.ensures ∙ number in
    λ j. record { procedure = procedure j; flag = flag j }
