use Rattle.canonical_text.proofs.LawLemmas.{pieces_back}
use Rattle.canonical_text.proofs.laws.printed_pieces_are_statements.Goals as goal

pub returns : goal.returns
returns c = pieces_back
