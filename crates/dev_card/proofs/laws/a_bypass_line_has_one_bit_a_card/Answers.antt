use Rattle.dev_card.proofs.Reaching.{bypass_line}
use Rattle.dev_card.proofs.laws.a_bypass_line_has_one_bit_a_card.Goals as goal

pub returns : goal.returns
returns c = bypass_line
