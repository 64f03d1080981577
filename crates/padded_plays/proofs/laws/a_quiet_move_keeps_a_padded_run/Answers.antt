use Rattle.padded_plays.proofs.KeptWalks.{move_keeps}
use Rattle.padded_plays.proofs.laws.a_quiet_move_keeps_a_padded_run.Goals as goal

pub returns : goal.returns
returns c = move_keeps
