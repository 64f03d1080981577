use Rattle.scan_accounts.proofs.ScanPassages.{has_scan_run}
use Rattle.scan_accounts.proofs.laws.a_scan_has_one_run.Goals as goal

pub returns : goal.returns
returns c = has_scan_run
