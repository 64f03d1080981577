use Rattle.std.proofs.Common.{ap, length, arith}
use Rattle.std.proofs.lemmas.List.{length-map}
use Rattle.stapl_syntax.specs.ProgramValues.{trees_of}
use Rattle.stapl_syntax.specs.Trees.{stmt_tree}
use Rattle.stapl_meaning.proofs.Sound.{sound}
use Rattle.chain_rewrite.proofs.names.pieces.Goals as goal

pub returns-clause-few : goal.returns-clause-few
returns-clause-few c =
    let few = (sound c.args.program.now.text (trees_of c.args.program.now) c.statements.ensures.program).few in
    omega (arith, few, ap length c.statements.ensures.statements, length-map c.args.program.now.statements stmt_tree)
