use Rattle.padded_plays.proofs.KeptWalks.{stay_keeps}
use Rattle.padded_plays.proofs.laws.a_stay_keeps_a_padded_run.Goals as goal

pub returns : goal.returns
returns c = stay_keeps
