use Rattle.std.proofs.Common.{arith}
use Rattle.stapl_lexer.specs.Pieces.{IsCut}
use Rattle.stapl_lexer.proofs.PieceLemmas.{cut_lies, cut_in_order}
use Rattle.stapl_lexer.proofs.CutLemmas.{cut_all}
use Rattle.stapl_lexer.proofs.cutting.cut.Goals as goal

pub returns-clause-each : goal.returns-clause-each
returns-clause-each c =
    let cut : IsCut c.args.text.now c.push_if_some-2.new.pieces.items = grind (arith, cut_all) in
    cut_lies _ _ cut

pub returns-clause-in_order : goal.returns-clause-in_order
returns-clause-in_order c =
    let cut : IsCut c.args.text.now c.push_if_some-2.new.pieces.items = grind (arith, cut_all) in
    cut_in_order c.args.text.now _ cut
