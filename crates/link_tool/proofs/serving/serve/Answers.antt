use Rattle.std.proofs.Common.{◌∙◌, ◌++◌, sym, refl, take, drop, arith}
use Rattle.std.proofs.lemmas.List.{take-append-drop}
use Rattle.tool_io.proofs.CauseLemmas.{counts_start, counts_then}
use Rattle.link_tool.specs.Sessions.{most_bytes}
use Rattle.link_tool.proofs.ServingLemmas.{begins, after_read, after_all, after_feed, with_left, none_read, none_left, taken_more, of_board, goes_on, fits, is_full, fed_whole, is_fewer}
use Rattle.link_tool.proofs.ServingLemmas.{stop_read, stop_end, stop_write, stops, failed_as}
use Rattle.link_tool.proofs.serving.serve.Goals as goal

pub pieces-init : goal.pieces-init
pieces-init g c = record {
  told = refl;
  unpicked = refl;
  reads = λ name r. r;
  kept = counts_start _ _;
  fitted = c.requires.fitted;
  kinds = refl;
  open_now = rw c.new-session.ensures refl;
  few = rw c.new-session.ensures (omega arith);
  empty = c.requires.empty;
  serving = λ cs e. rw c.new-session.ensures (begins cs _ _ g.K.Sink c.args.lines.now _ c.requires.whole e);
}

pub feed-requires-clause-whole : goal.feed-requires-clause-whole
feed-requires-clause-whole g c = of_board _ c.requires.fitted (λ cs e. (c.pieces.invariant.serving cs e).puts.whole)

pub returns-in_default-clause-served : goal.returns-in_default-clause-served
returns-in_default-clause-served g c = λ cs e.
    stop_read (c.pieces.invariant.serving cs e) c.pieces.invariant.empty c.in_default.ensures.lost c.pieces.invariant.open_now

pub returns-then-is_empty-clause-served : goal.returns-then-is_empty-clause-served
returns-then-is_empty-clause-served g c = λ cs e.
    let none = none_read c.in-Ok.n c.read.new.into c.is_empty.result c.in-Ok.ensures.bound c.is_empty.ensures c.if-is_empty.true in
    stop_end (after_all (g.S.Shelf.left c.read.new.self) c.read.new.into c.in-Ok.n none (rw c.pieces.invariant.told at c.in-Ok.ensures.bytes) (c.pieces.invariant.serving cs e))
    c.pieces.invariant.empty c.pieces.invariant.open_now

pub returns-in_err-feed-clause-served : goal.returns-in_err-feed-clause-served
returns-in_err-feed-clause-served g c = λ cs e.
    let piece = take c.in-Ok.n c.read.new.into in
    let room = c.min-room.result in
    let rest = g.S.Shelf.left c.read.new.self in
    let inv = c.pieces.invariant in
    let read = after_read rest c.read.new.into c.in-Ok.n (take room piece) (drop room piece) (rw inv.told at c.in-Ok.ensures.bytes) (sym (take-append-drop room piece)) (inv.serving cs e) in
    failed_as c.from_residual.result c.from_residual.ensures.1
    (stop_write (drop room piece ++ rest) c.feed.result c.in_err-feed.field-0.0 c.in_err-feed.was inv.open_now
    (fits c.pieces.session.taken most_bytes c.room.result room piece c.min-room.ensures c.room.ensures inv.few) c.feed.ensures.taken read)

pub returns-in-Some-clause-served : goal.returns-in-Some-clause-served
returns-in-Some-clause-served g c = λ cs e.
    let piece = take c.in-Ok.n c.read.new.into in
    let room = c.min-room.result in
    let rest = g.S.Shelf.left c.read.new.self in
    let inv = c.pieces.invariant in
    let read = after_read rest c.read.new.into c.in-Ok.n (take room piece) (drop room piece) (rw inv.told at c.in-Ok.ensures.bytes) (sym (take-append-drop room piece)) (inv.serving cs e) in
    let fed = after_feed c.feed.result c.in_ok-feed.field-0 c.in_ok-feed.was inv.open_now
    (fits c.pieces.session.taken most_bytes c.room.result room piece c.min-room.ensures c.room.ensures inv.few) c.feed.ensures.taken read in
    stops fed c.in_ok-feed.ensures.empty _ c.in-Some.status
    (λ more open_now. is_full c.pieces.session.taken most_bytes c.room.result room piece c.min-room.ensures c.room.ensures inv.few c.feed.new.self.taken rest
    (of_board _ inv.fitted (λ cs e. taken_more (c.feed.ensures.taken cs e) inv.open_now open_now)) more)
    (sym c.status.ensures ∙ c.in-Some.is)

pub pieces-smaller : goal.pieces-smaller
pieces-smaller g c =
    let piece = take c.in-Ok.n c.read.new.into in
    let inv = c.pieces.invariant in
    let on = goes_on c.feed.new.self.link.state c.feed.new.self.taken _ (sym c.status.ensures ∙ c.in_default-status.is) in
    is_fewer c.pieces.session.taken most_bytes c.room.result c.min-room.result piece c.min-room.ensures c.room.ensures inv.few c.feed.new.self.taken c.is_empty.result
    (of_board _ inv.fitted (λ cs e. taken_more (c.feed.ensures.taken cs e) inv.open_now on.0)) on.1 c.is_empty.ensures c.if-is_empty.false

pub pieces-preserved : goal.pieces-preserved
pieces-preserved g c =
    let piece = take c.in-Ok.n c.read.new.into in
    let room = c.min-room.result in
    let rest = g.S.Shelf.left c.read.new.self in
    let inv = c.pieces.invariant in
    let on = goes_on c.feed.new.self.link.state c.feed.new.self.taken _ (sym c.status.ensures ∙ c.in_default-status.is) in
    let fit = fits c.pieces.session.taken most_bytes c.room.result room piece c.min-room.ensures c.room.ensures inv.few in
    record {
      told = c.read.ensures.keeps ∙ inv.told;
      unpicked = c.read.ensures.unpicked ∙ inv.unpicked;
      reads = λ name r. c.read.ensures.same name (inv.reads name r);
      kept = counts_then inv.kept (c.read.ensures.cause c.requires.picked.0 (inv.reads c.requires.picked.0 c.requires.picked.1)).kept;
      fitted = c.feed.ensures.fitted;
      kinds = c.feed.ensures.kinds ∙ inv.kinds;
      open_now = on.0;
      few = omega (arith, c.feed.ensures.few, fit);
      empty = c.in_ok-feed.ensures.empty;
      serving = λ cs e.
          let read = after_read rest c.read.new.into c.in-Ok.n (take room piece) (drop room piece) (rw inv.told at c.in-Ok.ensures.bytes) (sym (take-append-drop room piece)) (inv.serving cs e) in
          with_left (none_left room piece rest (fed_whole c.pieces.session.taken most_bytes c.room.result room piece c.min-room.ensures c.room.ensures inv.few on.1))
          (after_feed c.feed.result c.in_ok-feed.field-0 c.in_ok-feed.was inv.open_now fit c.feed.ensures.taken read);
    }
