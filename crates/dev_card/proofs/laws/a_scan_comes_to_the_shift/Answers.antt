use Rattle.dev_card.proofs.Reaching.{shift_reached}
use Rattle.dev_card.proofs.laws.a_scan_comes_to_the_shift.Goals as goal

pub returns : goal.returns
returns c = shift_reached
