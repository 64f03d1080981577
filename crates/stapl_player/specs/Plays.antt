-- Plays of a code from the first clocks on. A play begins with five clocks with TMS 1 (IEEE 1149.1, TAP controller
-- state diagram); that it does so is this profile's rule.
use Rattle.std.specs.Prelude.{◌≡◌, ◌≤◌, ℕ, ◌+◌, Bool, List, [], ◌++◌, length, Option, Some, Result, Ok, Err}
use Rattle.tool_io.specs.declared.lines.Lines.{Lines}
use Rattle.tool_io.specs.declared.outside.Sink.{Ghosts as SinkOf}
use Rattle.tool_io.specs.Causes.{HasRisen}
use Rattle.tool_io.specs.Lines.{IsWhole}
use Rattle.dev_card.specs.Card.{Card}
use Rattle.dev_card.specs.Board.{Clock, tdos}
use Rattle.dev_card.specs.FarEnds.{FarEnd, far_end}
use Rattle.dev_card.specs.Padding.{BaseLengths}
use Rattle.scan_paths.specs.declared.cable.Cable.{Ghosts as CableOf}
use Rattle.scan_paths.specs.Cables.{Signal, clocks_in, whole, cable_faults, IsCableLast}
use Rattle.stapl_meaning.specs.declared.events.Event.{Event}
use Rattle.stapl_meaning.specs.declared.events.Ending.{Ending}
use Rattle.stapl_meaning.specs.Plays.{Run, after, ending_of, reset_events, chain_reset}
use Rattle.stapl_meaning.specs.Texts.{events_text}
use Rattle.stapl_code.specs.declared.raw.CodeLists.{CodeLists}
use Rattle.stapl_code.specs.Safe.{AllBelow}
use Rattle.stapl_machine.specs.declared.running.Machine.{Machine}
use Rattle.written_cable.specs.declared.trouble.Trouble.{Trouble}
use Rattle.written_cable.specs.Papers.{Shown, Puts, PutsFront, shown_of}
use Rattle.written_cable.specs.Signals.{signals_of}
use Rattle.stapl_machine.specs.Machines.{play_of, play_ticks_of, variables_in, IsPrepared}

-- the play of a code at the far end of a cable, for at most n turns of the chosen procedures, with this base padding of
-- its scans, and how many instructions it takes
abbrev pub whole_play : CodeLists → List ℕ → ℕ → BaseLengths → FarEnd → Run
whole_play code chosen n base far = after (reset_events far) (play_of code chosen n (chain_reset base far))

abbrev pub whole_ticks : CodeLists → List ℕ → ℕ → BaseLengths → FarEnd → ℕ
whole_ticks code chosen n base far = play_ticks_of code chosen n (chain_reset base far)

-- The far end is the board of the cable, where that is told, else the TDO bits of the clocks that were made, with any
-- that may follow.
module _ {C O : Type 0} (board : C → Option (List Card)) (makes : C → List Signal → C → Type 0) (shown : O → Shown)
    (pins : Bool) (run : FarEnd → Run) (count : FarEnd → ℕ) where
  abbrev pub far_before : C → List Clock → List Bool → FarEnd
  far_before cable clocks more = far_end (board cable) (tdos clocks ++ more)

  -- The whole text of the play was put, what was made on the cable are exactly the signals among its events, in order,
  -- and the play, the cable and the machine stand so.
  pub record HasPlayed (old : C) (out : O) (steps : ℕ) (ending : Ending) (new : C) (new_out : O) (now : ℕ) (machine : Machine) : Type 0 where
    pub events : List Event
    pub clocks : List Clock
    pub made : makes old (signals_of events) new
    pub clocks_are : clocks_in (signals_of events) ≡ clocks
    pub runs : (more : List Bool) → (run (far_before old clocks more)).events ≡ events
    pub put : (more : List Bool) → Puts shown out (events_text pins [] (run (far_before old clocks more)).events) new_out
    pub ended : (more : List Bool) → ending_of (run (far_before old clocks more)).outcome ≡ Some ending
    pub far : (more : List Bool) → (run (far_before old clocks more)).chain.far ≡ far_end (board new) more
    pub variables : (more : List Bool) → (run (far_before old clocks more)).state.store.variables ≡ variables_in machine
    pub ticked : (more : List Bool) → now ≡ steps + count (far_before old clocks more)

  -- The signals among its first events were made, and a front of the text of these was put.
  pub record HasPlayedFront (old : C) (out : O) (steps : ℕ) (new : C) (new_out : O) (now : ℕ) : Type 0 where
    pub events : List Event
    pub clocks : List Clock
    pub made : makes old (signals_of events) new
    pub clocks_are : clocks_in (signals_of events) ≡ clocks
    pub rest : List Bool → List Event
    pub runs : (more : List Bool) → (run (far_before old clocks more)).events ≡ events ++ rest more
    pub driven : PutsFront shown out (events_text pins [] events) new_out
    pub front : (more : List Bool) → PutsFront shown out (events_text pins [] (run (far_before old clocks more)).events) new_out
    pub most : (more : List Bool) → now ≤ steps + count (far_before old clocks more)

-- A play may begin: the machine is prepared for the code, which has the chosen procedures, and neither the cable nor the
-- lines are broken.
pub record CanPlay {C K : Type 0} (cable : CableOf C) (code : CodeLists) (chosen : List ℕ) (machine : Machine) (old : C) (out : Lines K) : Type 0 where
  pub prepared : IsPrepared code machine
  pub chosen_below : AllBelow (length code.procedures) chosen
  pub whole_cable : cable.breakage old ≡ whole
  pub whole_lines : IsWhole out

-- What a play did, by its result: to its ending, or before it was broken off.
abbrev pub PlaysOver : {C K : Type 0} → CableOf C → SinkOf K → Bool → CodeLists → List ℕ → ℕ → BaseLengths → C → Lines K → ℕ → Result Ending Trouble → C → Lines K → ℕ → Machine → Type 0
PlaysOver cable sink pins code chosen n base old out steps (Ok ending) new new_out now machine =
    HasPlayed cable.board cable.made (shown_of sink.written) pins (whole_play code chosen n base) (whole_ticks code chosen n base) old out steps ending new new_out now machine
PlaysOver cable sink pins code chosen n base old out steps (Err trouble) new new_out now machine =
    HasPlayedFront cable.board cable.made (shown_of sink.written) pins (whole_play code chosen n base) (whole_ticks code chosen n base) old out steps new new_out now

-- the count of a cable rose, or stands at its last value
abbrev pub CableHasRisen : {C : Type 0} → CableOf C → C → C → Type 0
CableHasRisen cable old new = HasRisen (cable_faults cable.line_faults cable.pin_faults) (IsCableLast cable.is_line_last cable.is_pin_last) old new
