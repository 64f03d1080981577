use Rattle.tap_states.proofs.Shortest.{five_ones_lead}
use Rattle.tap_states.proofs.laws.five_ones_lead_to_reset.Goals as goal

pub returns : goal.returns
returns c = five_ones_lead
