use Rattle.std.proofs.Common.{sym, ◌∙◌}
use Rattle.link_server.proofs.FeedLemmas.{nothing_fed_told, places_apart}
use Rattle.link_server.proofs.link.Link.feed.Goals as goal

pub returns-then-not-is_open-clause-fed : goal.returns-then-not-is_open-clause-fed
returns-then-not-is_open-clause-fed g c = λ cs e.
    nothing_fed_told c.args.self.now cs _ c.args.bytes.now c.args.answers.now e (sym c.is_open.ensures ∙ c.if-not-is_open.true)

pub feed_devices-requires-clause-apart : goal.feed_devices-requires-clause-apart
feed_devices-requires-clause-apart g c = places_apart _ c.args.places.now c.requires.chain
