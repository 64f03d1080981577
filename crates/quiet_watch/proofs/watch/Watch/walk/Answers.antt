use Rattle.quiet_watch.proofs.WatchSteps.{apart_watched}
use Rattle.quiet_watch.proofs.watch.Watch.walk.Goals as goal

pub clock_all-requires-clause-apart : goal.clock_all-requires-clause-apart
clock_all-requires-clause-apart g c = apart_watched g.D.Device.fitted g.D.Device.kind_of c.args.self.now c.requires.whole
