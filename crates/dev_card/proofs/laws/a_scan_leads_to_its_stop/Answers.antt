use Rattle.dev_card.proofs.ScanLines.{stop_reached}
use Rattle.dev_card.proofs.laws.a_scan_leads_to_its_stop.Goals as goal

pub returns : goal.returns
returns c = stop_reached
