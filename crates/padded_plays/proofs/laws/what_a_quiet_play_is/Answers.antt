use Rattle.padded_plays.proofs.InstructionLoaded.{quiet_play_by_each, each_makes_quiet_play}
use Rattle.padded_plays.proofs.laws.what_a_quiet_play_is.Goals as goal

pub returns : goal.returns
returns c = record { each = quiet_play_by_each; all = each_makes_quiet_play }
