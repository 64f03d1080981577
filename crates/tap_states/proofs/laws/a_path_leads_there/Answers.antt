use Rattle.tap_states.proofs.Shortest.{path_leads}
use Rattle.tap_states.proofs.laws.a_path_leads_there.Goals as goal

pub returns : goal.returns
returns c = path_leads
