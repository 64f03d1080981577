use Rattle.std.proofs.Common.{◌∙◌, arith}
use Rattle.std.proofs.lemmas.List.{length-map}
use Rattle.stapl_syntax.specs.Trees.{stmt_tree, trees}
use Rattle.chain_rewrite.proofs.NameLemmas.{one_more, all_there}
use Rattle.chain_rewrite.proofs.names.block_names.Goals as goal

pub loop-statement-preserved : goal.loop-statement-preserved
loop-statement-preserved c = λ name.
    one_more c.loop-statement.names.keys c.put_block.new.names.keys name c.loop-statement.statement-index c.args.statements.now c.statement-item.result c.loop-statement-test.true c.statement-item.is
    (c.in_ok-put_block.ensures name)
    ∙ c.loop-statement.invariant name

pub returns : goal.returns
returns c = λ name.
    all_there c.loop-statement.names.keys name c.loop-statement.statement-index (trees c.args.statements.now)
    (omega (arith, c.loop-statement-test.false, length-map c.args.statements.now stmt_tree)) (c.loop-statement.invariant name)
