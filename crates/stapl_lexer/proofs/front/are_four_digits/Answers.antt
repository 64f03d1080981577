use Rattle.std.proofs.Common.{eq-eqb}
use Rattle.stapl_lexer.proofs.FrontLemmas.{blank_reaches}
use Rattle.stapl_lexer.proofs.PieceTokenLemmas.{clash}
use Rattle.stapl_lexer.proofs.front.are_four_digits.Goals as goal

pub returns-then-count-eq4-clause-no : goal.returns-then-count-eq4-clause-no
returns-then-count-eq4-clause-no c = λ shorter four blank.
    clash _ (eq-eqb c.blank_len.result _ (blank_reaches c.args.after.now c.blank_len.result c.blank_len.ensures.within c.blank_len.ensures.blank blank)) shorter
