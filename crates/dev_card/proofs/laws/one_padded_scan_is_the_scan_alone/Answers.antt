use Rattle.dev_card.proofs.OneScan.{one_scan}
use Rattle.dev_card.proofs.laws.one_padded_scan_is_the_scan_alone.Goals as goal

pub returns : goal.returns
returns c = one_scan
