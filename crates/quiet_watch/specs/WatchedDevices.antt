-- A watch over the devices of a lent rack, as contracts see it.
use Rattle.std.specs.Prelude.{◌≡◌, ◌^◌, ◌-◌, ℕ, Bool, map, List, Option, None, Result, if◌then◌else◌}
use Rattle.std.specs.Borrow.{MutBor}
use Rattle.dev_card.specs.declared.desc.Kind.{Kind}
use Rattle.dev_card.specs.Card.{Card}
use Rattle.dev_card.specs.Sound.{SoundCard}
use Rattle.scan_paths.specs.Cables.{Signal, Breakage, line, whole_if, IsCableKept}
use Rattle.chain_sim.specs.Places.{cards_at, is_chain}
use Rattle.quiet_watch.specs.declared.watch.Watch.{Watch}
use Rattle.quiet_watch.specs.Watches.{Watched, watch_tdo, watch_step, WatchFollows}
use Rattle.quiet_watch.specs.WatchedRacks.{cards_there}

-- the devices of its rack, as they are now
abbrev pub devices_of : {D : Type 0} → Watch D → List D
devices_of w = w.rack.now.items

abbrev pub watched_places : {D : Type 0} → Watch D → List ℕ
watched_places w = w.places.now

-- it is over the rack that this reference points to
abbrev pub IsOver : {D R : Type 0} → Watch D → MutBor R → Type 0
IsOver w rack = w.rack.ghost_name ≡ rack.ghost_name

-- it is over the same rack
abbrev pub IsOverSame : {D : Type 0} → Watch D → Watch D → Type 0
IsOverSame old new = new.rack.ghost_name ≡ old.rack.ghost_name

-- it tells no board, has a count of failures, and writes no lines
abbrev pub untold : {D : Type 0} → Watch D → Option (List Card)
untold w = None

abbrev pub watch_faults : {D : Type 0} → Watch D → ℕ
watch_faults w = w.faults

abbrev pub IsWatchLast : {D : Type 0} → Watch D → Type 0
IsWatchLast w = w.faults ≡ 2 ^ 32 - 1

abbrev pub no_faults : {D : Type 0} → Watch D → ℕ
no_faults w = 0

abbrev pub IsNever : {D : Type 0} → Watch D → Type 0
IsNever w = ⊥

module _ {D : Type 0} (fitted : D → Option SoundCard) (kind_of : D → Kind) where
  -- what it knows
  abbrev pub watched_of : Watch D → Watched
  watched_of w = record {
    descs = w.descs.now;
    cards = cards_there (cards_at (map fitted w.rack.now.items) w.places.now);
    tap = w.tap;
    loaded = w.loaded;
    scan = w.scan;
    seen = w.seen;
  }

  -- a watch has failed, or stands over no chain
  abbrev pub watch_breakage : Watch D → Breakage
  watch_breakage w = if w.is_broken then line else whole_if (is_chain (map fitted w.rack.now.items) w.places.now)

  -- what a call keeps of it, as of any cable
  abbrev pub KeepsWatch : {T E : Type 0} → Watch D → Watch D → Result T E → Type 0
  KeepsWatch old new result = IsCableKept watch_faults IsWatchLast no_faults IsNever watch_breakage old new result

  -- it is over the same rack, whose devices keep their kinds, and over the same places
  pub record IsSameWatch (old new : Watch D) : Type 0 where
    pub rack : new.rack.ghost_name ≡ old.rack.ghost_name
    pub kinds : map kind_of new.rack.now.items ≡ map kind_of old.rack.now.items
    pub places : new.places.now ≡ old.places.now

  -- these signals lead from one to another
  pub record HasFollowed (old : Watch D) (signals : List Signal) (new : Watch D) : Type 0 where
    pub same : IsSameWatch old new
    pub follows : WatchFollows (watched_of old) signals (watched_of new)

  -- one clock of the watch
  pub record HasStepped (old : Watch D) (tms tdi tdo : Bool) (new : Watch D) : Type 0 where
    pub same : IsSameWatch old new
    pub answer : tdo ≡ watch_tdo (watched_of old) tdi
    pub after : watched_of new ≡ watch_step (watched_of old) tms tdi

  -- no clock of it
  pub record HasStayed (old new : Watch D) : Type 0 where
    pub same : IsSameWatch old new
    pub still : watched_of new ≡ watched_of old
