use Rattle.meaning_laws.proofs.NamedFaults.{not_reversed_then, tested_once}
use Rattle.meaning_laws.proofs.laws.faults.what_was_tested_never_breaks_again.Goals as goal

pub returns : goal.returns
returns c = record { range_reversed = not_reversed_then; parts = tested_once }
