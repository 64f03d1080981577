use Rattle.canonical_text.proofs.Twice.{equal_texts}
use Rattle.canonical_text.proofs.laws.equal_texts_are_equal_statements.Goals as goal

pub returns : goal.returns
returns c = equal_texts
