use Rattle.dev_card.proofs.Unnamed.{unnamed_selects_bypass}
use Rattle.dev_card.proofs.laws.unnamed_opcodes_select_bypass.Goals as goal

pub returns : goal.returns
returns c = unnamed_selects_bypass
