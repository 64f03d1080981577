use Rattle.padded_plays.proofs.FirstRuns.{reset_is_padded}
use Rattle.padded_plays.proofs.laws.a_reset_run_is_padded.Goals as goal

pub returns : goal.returns
returns c = reset_is_padded
