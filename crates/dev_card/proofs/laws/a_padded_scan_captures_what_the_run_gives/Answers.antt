use Rattle.dev_card.proofs.Scanning.{scan_of_run}
use Rattle.dev_card.proofs.laws.a_padded_scan_captures_what_the_run_gives.Goals as goal

pub returns : goal.returns
returns c = scan_of_run
