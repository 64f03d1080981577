use Rattle.dev_card.proofs.OneScan.{descriptions_after}
use Rattle.dev_card.proofs.laws.clocks_keep_the_descriptions.Goals as goal

pub returns : goal.returns
returns c = λ cs inputs. descriptions_after inputs cs
