use Rattle.dev_card.proofs.Scanning.{length_of_captured}
use Rattle.dev_card.proofs.laws.a_scan_captures_as_many_bits_as_its_data.Goals as goal

pub returns : goal.returns
returns c = length_of_captured
