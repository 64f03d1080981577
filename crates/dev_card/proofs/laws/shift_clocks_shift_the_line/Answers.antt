use Rattle.dev_card.proofs.LastClock.{shifts_as_line}
use Rattle.dev_card.proofs.laws.shift_clocks_shift_the_line.Goals as goal

pub returns : goal.returns
returns c = shifts_as_line
