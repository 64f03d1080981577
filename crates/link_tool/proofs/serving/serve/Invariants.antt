use Rattle.std.proofs.Common.{◌≡◌, ◌≤◌, ◌-◌, ℕ, List, [], map, true, Some}
use Rattle.std.specs.Prelude.{IsSome}
use Rattle.tool_io.specs.Causes.{NoneFalls}
use Rattle.tool_io.specs.Lines.{gathered}
use Rattle.dev_card.specs.Card.{Card}
use Rattle.chain_sim.specs.Places.{cards_at}
use Rattle.link_server.specs.Runs.{is_open}
use Rattle.link_tool.specs.Sessions.{most_bytes}
use Rattle.link_tool.proofs.ServingLemmas.{IsServing}
use Rattle.link_tool.proofs.serving.serve.Given as goal

abbrev pub invariant-pieces : goal.invariant-pieces
invariant-pieces g l = record {
  told : g.S.Shelf.told l.shelf ≡ g.S.Shelf.told l.fn.shelf;
  unpicked : g.S.Shelf.picks l.shelf ≡ g.S.Shelf.picks l.fn.shelf;
  reads : (name : List ℕ) → g.S.Shelf.reads l.fn.shelf name → g.S.Shelf.reads l.shelf name;
  kept : NoneFalls g.S.Shelf.faults g.S.Shelf.is_last l.fn.shelf l.shelf;
  fitted : IsSome (cards_at (map g.D.Device.fitted l.rack.items) l.places);
  kinds : map g.D.Device.kind_of l.rack.items ≡ map g.D.Device.kind_of l.fn.rack.items;
  open_now : is_open l.session.link.state ≡ true;
  few : l.session.taken ≤ most_bytes;
  empty : gathered l.lines ≡ [];
  serving : (cs : List Card) → cards_at (map g.D.Device.fitted l.fn.rack.items) l.places ≡ Some cs →
      IsServing cs (g.S.Shelf.told l.fn.shelf) (g.S.Shelf.left l.fn.shelf) (g.S.Shelf.left l.shelf)
      g.K.Sink l.fn.lines l.lines l.session (cards_at (map g.D.Device.fitted l.rack.items) l.places);
}

abbrev pub decreases-pieces : goal.decreases-pieces
decreases-pieces g l = most_bytes - l.session.taken
