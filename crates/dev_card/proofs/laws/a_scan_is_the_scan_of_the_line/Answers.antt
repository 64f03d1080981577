use Rattle.dev_card.proofs.ScanLines.{scans_as_line}
use Rattle.dev_card.proofs.laws.a_scan_is_the_scan_of_the_line.Goals as goal

pub returns : goal.returns
returns c = scans_as_line
