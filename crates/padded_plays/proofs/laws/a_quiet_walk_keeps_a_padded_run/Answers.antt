use Rattle.padded_plays.proofs.KeptWalks.{walk_keeps}
use Rattle.padded_plays.proofs.laws.a_quiet_walk_keeps_a_padded_run.Goals as goal

pub returns : goal.returns
returns c = walk_keeps
