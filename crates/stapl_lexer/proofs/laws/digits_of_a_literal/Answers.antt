use Rattle.stapl_lexer.proofs.DigitLemmas.{digits_are_spaced}
use Rattle.stapl_lexer.proofs.laws.digits_of_a_literal.Goals as goal

pub returns : goal.returns
returns c = digits_are_spaced
