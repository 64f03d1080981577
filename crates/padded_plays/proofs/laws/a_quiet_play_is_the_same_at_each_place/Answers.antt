use Rattle.padded_plays.proofs.SameTurns.{plays_are_same}
use Rattle.padded_plays.proofs.SameTexts.{same_for_run}
use Rattle.padded_plays.proofs.laws.a_quiet_play_is_the_same_at_each_place.Goals as goal

pub returns-clause-lists : goal.returns-clause-lists
returns-clause-lists c = plays_are_same

pub returns-clause-places : goal.returns-clause-places
returns-clause-places c = same_for_run
