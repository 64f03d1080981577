use Rattle.dev_card.proofs.ScanLines.{move_leads}
use Rattle.dev_card.proofs.laws.a_move_leads_there.Goals as goal

pub returns : goal.returns
returns c = move_leads
