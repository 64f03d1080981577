use Rattle.padded_plays.proofs.KeptScans.{scan_keeps}
use Rattle.padded_plays.proofs.laws.a_quiet_scan_keeps_a_padded_run.Goals as goal

pub returns : goal.returns
returns c = scan_keeps
