use Rattle.std.proofs.Common.{arith, None}
use Rattle.std.proofs.lemmas.List.{length-map}
use Rattle.stapl_syntax.specs.Trees.{stmt_tree, trees}
use Rattle.stapl_meaning.proofs.Blocks.{same_count}
use Rattle.stapl_codegen.proofs.compiling.outline_of.Goals as goal

pub procedures-requires-clause-countable : goal.procedures-requires-clause-countable
procedures-requires-clause-countable c =
    let few = c.requires.accepted.typed.few in
    omega (arith, few, same_count None (trees c.args.program.now), length-map c.args.program.now stmt_tree)
