use Rattle.std.proofs.Common.{length, ◌-◌}
use Rattle.link_server.proofs.FeedLemmas.{AreFedUpTo}
use Rattle.link_server.proofs.link.Link.feed_devices.Given as goal

abbrev pub invariant-bytes : goal.invariant-bytes
invariant-bytes g l = AreFedUpTo g.D.Device.fitted g.D.Device.kind_of l.fn.rack.items l.rack.items l.places l.bytes l.fn.answers l.fn.self l.at l.self l.answers l.fed

abbrev pub decreases-bytes : goal.decreases-bytes
decreases-bytes g l = length l.bytes - l.at
