use Rattle.std.proofs.Common.{ap, length, arith}
use Rattle.std.proofs.lemmas.List.{length-map}
use Rattle.stapl_syntax.specs.ProgramValues.{trees_of}
use Rattle.stapl_syntax.specs.Trees.{stmt_tree}
use Rattle.chain_rewrite.proofs.NameLemmas.{one_is_free}
use Rattle.chain_rewrite.proofs.names.new_name.Goals as goal

pub unreachable-requires : goal.unreachable-requires
unreachable-requires c =
    one_is_free (trees_of c.args.program.now) c.loop-number.number c.loop-number.invariant
    (c.there_is_one_free_name.ensures.some c.args.program.now.text (trees_of c.args.program.now) c.pieces-statements.ensures.program)
    (omega (arith, c.loop-number-test.false, ap length c.pieces-statements.ensures.same, length-map c.args.program.now.statements stmt_tree))
