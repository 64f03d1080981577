-- What the runs of clocks are, as longest parts of them, told without going through them clock by clock (IEEE 1149.1,
-- controller states Shift-IR and Shift-DR).
use Rattle.std.specs.Prelude.{◌≡◌, ◌≢◌, ◌<◌, Bool, List, [], ◌∷◌, ◌++◌, length, map, Some, None}
use Rattle.tap_states.specs.declared.Tap.{Tap}
use Rattle.tap_states.specs.Tap.{next_of}
use Rattle.tap_states.specs.Path.{walk}
use Rattle.dev_card.specs.Board.{Clock}
use Rattle.scan_accounts.specs.ShiftRuns.{shifting, ShiftRun}

-- the state of the controllers after clocks
abbrev pub state_after : Tap → List Clock → Tap
state_after at ks = walk at (map (λ (k : Clock). k.tms) ks)

-- no register shifts at any of these clocks; and these registers shift at each of them
abbrev pub NoneShifts : Tap → List Clock → Type 0
NoneShifts at [] = Unit {0}
NoneShifts at (k ∷ ks) = (shifting at ≡ None) × NoneShifts (next_of at k.tms) ks

abbrev pub AllShiftIn : Bool → Tap → List Clock → Type 0
AllShiftIn ir at [] = Unit {0}
AllShiftIn ir at (k ∷ ks) = (shifting at ≡ Some ir) × AllShiftIn ir (next_of at k.tms) ks

-- The first run among clocks: no register shifts before it, its registers shift at all of its clocks, of which there is
-- one at least, and not at the clock after them, if there is one. Something holds of what follows.
pub record HasLongestRun (Rest : Tap → List Clock → Type 0) (at : Tap) (ks : List Clock) (run : ShiftRun) : Type 0 where
  pub front : List Clock
  pub own : List Clock
  pub back : List Clock
  pub whole : ks ≡ front ++ (own ++ back)
  pub none_before : NoneShifts at front
  pub some : 0 < length own
  pub shifts : AllShiftIn run.ir (state_after at front) own
  pub ends : 0 < length back → shifting (state_after (state_after at front) own) ≢ Some run.ir
  pub bits_in : run.bits_in ≡ map (λ (k : Clock). k.tdi) own
  pub bits_out : run.bits_out ≡ map (λ (k : Clock). k.tdo) own
  pub rest : Rest (state_after (state_after at front) own) back

-- these are the longest runs of the clocks, in order, and all of them
abbrev pub AreLongestRuns : List ShiftRun → Tap → List Clock → Type 0
AreLongestRuns [] at ks = NoneShifts at ks
AreLongestRuns (run ∷ runs) at ks = HasLongestRun (AreLongestRuns runs) at ks run
