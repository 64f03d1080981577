use Rattle.quiet_watch.proofs.WatchedPlays.{has_seen}
use Rattle.quiet_watch.proofs.laws.a_watch_has_seen_the_first_deed_that_is_not_quiet.Goals as goal

pub returns : goal.returns
returns c = has_seen
