use Rattle.dev_card.proofs.Scanning.{captured_is_seen}
use Rattle.dev_card.proofs.laws.clocks_of_a_scan_hold_what_it_captures.Goals as goal

pub returns : goal.returns
returns c = captured_is_seen
