use Rattle.canonical_text.proofs.LawLemmas.{tokens_back}
use Rattle.canonical_text.proofs.laws.printed_tokens_are_read_back.Goals as goal

pub returns : goal.returns
returns c = tokens_back
