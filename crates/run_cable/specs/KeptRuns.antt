-- What is kept of runs, in room that is taken before.
use Rattle.std.specs.Prelude.{◌≡◌, ◌≤◌, ◌<◌, ◌+◌, ◌^◌, ℕ, Bool, false, List, [], length, All, Option, Some, None}
use Rattle.bit_list.specs.Ranges.{taken}
use Rattle.tap_states.specs.declared.Tap.{Tap}
use Rattle.scan_paths.specs.Cables.{Signal}
use Rattle.scan_accounts.specs.ShiftRuns.{ShiftRun}
use Rattle.scan_accounts.specs.Rooms.{bits_of, FitIn}
use Rattle.run_cable.specs.declared.run_place.RunPlace.{RunPlace}
use Rattle.run_cable.specs.HeardRuns.{Heard, all_runs, heard_all}

-- the run whose bits stand at these places of two lists
abbrev pub run_at : List Bool → List Bool → RunPlace → ShiftRun
run_at bits_in bits_out at = record {
  ir = at.ir;
  bits_in = taken at.low at.count bits_in;
  bits_out = taken at.low at.count bits_out;
}

-- for how many bits together, and for how many runs there is room
pub record Room : Type 0 where
  pub bits : ℕ
  pub runs : ℕ

-- what is known of the runs, whether this is lost, and the room
pub record Kept : Type 0 where
  pub heard : Heard
  pub lost : Bool
  pub room : Room

-- this is known, if nothing was lost
pub record IsKnown (old : Kept) (h : Heard) (new : Kept) : Type 0 where
  pub none_lost : old.lost ≡ false
  pub heard : new.heard ≡ h

-- what is known becomes this, if nothing was lost, in the same room
pub record Becomes (old : Kept) (h : Heard) (new : Kept) : Type 0 where
  pub room : new.room ≡ old.room
  pub known : new.lost ≡ false → IsKnown old h new

-- what is known stays known where there is room for the runs that are known then
abbrev pub StaysIfRoom : Kept → Heard → Kept → Type 0
StaysIfRoom old h new = old.lost ≡ false → FitIn old.room.bits old.room.runs (all_runs h) → new.lost ≡ false

-- these signals were heard, if nothing was lost; and nothing is where there is room for all runs
abbrev pub Hears : Kept → List Signal → Kept → Type 0
Hears old signals new = Becomes old (heard_all old.heard signals) new

abbrev pub HearsIfRoom : Kept → List Signal → Kept → Type 0
HearsIfRoom old signals new = StaysIfRoom old (heard_all old.heard signals) new

-- no run, and the controllers are in this state, but the sums stay
abbrev pub begun : Tap → Heard → Heard
begun tap h = record h { tap = tap; ended = []; going = None }

-- The places lie below the first free one, and that of the run that goes on ends there.
abbrev pub LiesBelow : ℕ → RunPlace → Type 0
LiesBelow free at = at.low + at.count ≤ free

abbrev pub EndsThere : ℕ → Option RunPlace → Type 0
EndsThere free None = Unit {0}
EndsThere free (Some at) = at.low + at.count ≡ free

-- What is kept is laid out well: the lists have as many bits as each other, the places lie below the first free one, and
-- that of the run that goes on ends there. All bits below that are those of runs. The sums are small.
pub record IsLaid (free : ℕ) (ended : List RunPlace) (going : Option RunPlace) (bits_in bits_out : List Bool) (heard : Heard) : Type 0 where
  pub inside : free ≤ length bits_in
  pub as_many : length bits_out ≡ length bits_in
  pub below : All (LiesBelow free) ended
  pub ends : EndsThere free going
  pub used : bits_of (all_runs heard) ≡ free
  pub few_clocks : heard.clocks < 2 ^ 63
  pub few_usec : heard.usec < 2 ^ 63
  pub few_ir : heard.ir_scans < 2 ^ 63
  pub few_dr : heard.dr_scans < 2 ^ 63
