use Rattle.dev_card.proofs.PaddedLines.{padded_scan_is_same}
use Rattle.dev_card.proofs.laws.a_padded_scan_is_the_scan_alone.Goals as goal

pub returns : goal.returns
returns c = padded_scan_is_same
