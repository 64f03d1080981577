use Rattle.canonical_text.proofs.Twice.{printed_twice}
use Rattle.canonical_text.proofs.laws.printing_twice_is_printing_once.Goals as goal

pub returns : goal.returns
returns c = printed_twice
