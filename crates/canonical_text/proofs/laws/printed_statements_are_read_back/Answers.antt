use Rattle.canonical_text.proofs.Statements.{printed_means}
use Rattle.canonical_text.proofs.laws.printed_statements_are_read_back.Goals as goal

pub returns : goal.returns
returns c = printed_means
