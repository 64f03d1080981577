use Rattle.link_server.proofs.Cuts.{levels_byte}
use Rattle.link_server.proofs.laws.digits_set_the_levels.Goals as goal

pub returns : goal.returns
returns c = levels_byte
