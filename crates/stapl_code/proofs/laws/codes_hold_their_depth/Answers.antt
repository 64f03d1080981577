use Rattle.stapl_code.proofs.ValidRooms.{all_hold}
use Rattle.stapl_code.proofs.laws.codes_hold_their_depth.Goals as goal

pub returns : goal.returns
returns c = all_hold
