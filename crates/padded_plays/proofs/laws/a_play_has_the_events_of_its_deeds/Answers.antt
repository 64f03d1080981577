use Rattle.padded_plays.proofs.QuietTurns.{events_of_play}
use Rattle.padded_plays.proofs.laws.a_play_has_the_events_of_its_deeds.Goals as goal

pub returns : goal.returns
returns c = events_of_play
