use Rattle.dev_card.proofs.LastClock.{stays_shifting}
use Rattle.dev_card.proofs.laws.clocks_with_tms_0_shift_the_line.Goals as goal

pub returns : goal.returns
returns c = stays_shifting
