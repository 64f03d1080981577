use Rattle.std.proofs.lemmas.List.{drop_more}
use Rattle.link_server.proofs.FeedLemmas.{one_more_byte, are_all_fed}
use Rattle.link_server.proofs.link.Link.feed_devices.Goals as goal

pub bytes-preserved : goal.bytes-preserved
bytes-preserved g c =
    one_more_byte g.D.Device.fitted g.D.Device.kind_of c.args.rack.now.items c.bytes.rack.items c.feed_byte.new.rack.items c.args.places.now c.args.bytes.now c.args.answers.now c.args.self.now
    c.bytes.at _ c.bytes.self c.feed_byte.new.self c.bytes.answers c.feed_byte.new.answers c.bytes.fed c.feed_byte.new.fed c.bytes.invariant
    (drop_more c.args.bytes.now c.bytes.at _ c.bytes-test.true) c.bytes-test.true c.requires.room c.feed_byte.ensures.kinds c.feed_byte.ensures.others
    c.feed_byte.ensures.room c.feed_byte.ensures.taken c.feed_byte.ensures.answered c.feed_byte.ensures.fed

pub returns-clause-fed : goal.returns-clause-fed
returns-clause-fed g c =
    are_all_fed g.D.Device.fitted g.D.Device.kind_of c.args.rack.now.items c.bytes.rack.items c.args.places.now c.args.bytes.now c.args.answers.now c.args.self.now
    c.bytes.at c.bytes.self c.bytes.answers c.bytes.fed c.bytes.invariant c.bytes-test.false
