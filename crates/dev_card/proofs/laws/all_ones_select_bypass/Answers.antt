use Rattle.dev_card.proofs.Unnamed.{all_ones_selects_bypass}
use Rattle.dev_card.proofs.laws.all_ones_select_bypass.Goals as goal

pub returns : goal.returns
returns c = all_ones_selects_bypass
