use Rattle.canonical_text.proofs.Grammar.{expr_is}
use Rattle.canonical_text.proofs.laws.printed_expressions_are_read_back.Goals as goal

pub returns : goal.returns
returns c = expr_is
