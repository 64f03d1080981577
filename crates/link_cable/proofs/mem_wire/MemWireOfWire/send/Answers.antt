use Rattle.std.proofs.Common.{[], refl}
use Rattle.tool_io.proofs.CauseLemmas.{kept_start}
use Rattle.link_server.proofs.FeedLemmas.{places_apart}
use Rattle.link_cable.specs.WireLaws.{none_told}
use Rattle.link_cable.proofs.MemLemmas.{still_chain, fed_told, board_is_there}
use Rattle.link_cable.proofs.CarryLemmas.{sent_carries, still_start}
use Rattle.link_cable.proofs.mem_wire.MemWireOfWire.send.Goals as goal

pub feed_devices-fed-requires-clause-apart : goal.feed_devices-fed-requires-clause-apart
feed_devices-fed-requires-clause-apart g c = places_apart _ c.args.self.now.places.now c.requires

pub returns-clause-kept : goal.returns-clause-kept
returns-clause-kept g c = record {
  ready = still_chain _ _ c.args.self.now.places.now c.args.bytes.now _ _ _ _ _ c.requires c.feed_devices-fed.ensures.fed;
  counts = record { cause = record { kept = kept_start _ _; failed = tt }; calm = still_start _ _ };
}

pub returns-then-room-bytes-clause-went : goal.returns-then-room-bytes-clause-went
returns-then-room-bytes-clause-went g c = record { rest = c.args.bytes.now; taken = record { front = []; parts = refl; went = none_told _ } }

pub returns-clause-went : goal.returns-clause-went
returns-clause-went g c = sent_carries _ _ c.args.bytes.now
    (fed_told _ _ _ _ c.args.self.now.waiting c.args.bytes.now _ c.feed_devices-fed.new.answers c.put.new.self c.feed_devices-fed.result
    (board_is_there _ c.args.self.now.places.now c.requires) c.feed_devices-fed.ensures.fed c.put.ensures)
