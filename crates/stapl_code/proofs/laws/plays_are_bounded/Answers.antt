use Rattle.stapl_code.proofs.Bounds.{play_at_most}
use Rattle.stapl_code.proofs.laws.plays_are_bounded.Goals as goal

pub returns : goal.returns
returns c = play_at_most
