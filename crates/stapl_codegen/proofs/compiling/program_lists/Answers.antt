use Rattle.std.proofs.Common.{arith, None}
use Rattle.std.proofs.lemmas.List.{length-map}
use Rattle.stapl_syntax.specs.Trees.{stmt_tree, trees}
use Rattle.stapl_meaning.proofs.Blocks.{same_count}
use Rattle.stapl_codegen.proofs.compiling.program_lists.Goals as goal

pub names_of_program-requires : goal.names_of_program-requires
names_of_program-requires c =
    let few = c.requires.typed.few in
    omega (arith, few, same_count None (trees c.args.program.now), length-map c.args.program.now stmt_tree)
