-- The turns of a run of a code, one after another, with their accounts.
use Rattle.std.specs.Prelude.{◌≡◌, ◌≤◌, ◌⊎◌, ℕ, suc, ◌+◌, Bool, true, false, List, sum_by, [], ◌∷◌, ◌++◌, length, flat_map, All, slice_get, Option, Some, None, Result, Ok, Err}
use Rattle.std.specs.Option.{option_map_or}
use Rattle.tap_states.specs.declared.Tap.{Tap}
use Rattle.tool_io.specs.declared.lines.Lines.{Lines}
use Rattle.tool_io.specs.declared.outside.Failed.{Failed}
use Rattle.tool_io.specs.declared.outside.Sink.{Ghosts as SinkOf}
use Rattle.tool_io.specs.Lines.{Puts, PutsFront}
use Rattle.dev_card.specs.Padding.{BaseLengths}
use Rattle.scan_paths.specs.declared.cable.Cable.{Ghosts as CableOf}
use Rattle.stapl_meaning.specs.declared.events.Event.{Event}
use Rattle.stapl_meaning.specs.Deeds.{Chain}
use Rattle.stapl_meaning.specs.States.{State}
use Rattle.stapl_meaning.specs.Plays.{Run, Going, after, ending_of}
use Rattle.stapl_meaning.specs.Texts.{events_text}
use Rattle.stapl_code.specs.declared.raw.CodeLists.{CodeLists}
use Rattle.stapl_machine.specs.Turns.{piece_of}
use Rattle.stapl_machine.specs.Runs.{run_of}
use Rattle.written_cable.specs.Signals.{signals_of}
use Rattle.scan_accounts.specs.MadeTurns.{MadeTurn, clocks_among, usec_among}
use Rattle.account_lines.specs.declared.lines.TurnPlace.{TurnPlace}
use Rattle.run_cable.specs.KeptRuns.{Kept}
use Rattle.account_plays.specs.declared.running.Over.{Over}
use Rattle.account_plays.specs.AccountTurns.{chain_of, chain_heard}
use Rattle.account_plays.specs.AccountedTurns.{turn_text, turn_scans, SumsGoOn, HasRoomFor}

-- what a table tells of a piece; of a piece that it does not have, its number alone
abbrev pub said_in : List TurnPlace → ℕ → TurnPlace
said_in table piece = option_map_or (λ said. said) (slice_get table piece) (record { piece = piece; line = 0; scans = false })

-- the text of turns, one after another
abbrev pub turns_text : List TurnPlace → BaseLengths → List MadeTurn → List ℕ
turns_text table base turns = flat_map (λ (t : MadeTurn). turn_text (said_in table t.place) base t.from t.events) turns

-- how many runs of these registers turns have that scan
abbrev pub turns_scans : List TurnPlace → Bool → List MadeTurn → ℕ
turns_scans table ir turns = sum_by (λ (t : MadeTurn). turn_scans (said_in table t.place) ir t.from t.events) turns

-- the sums go on by those of events and of the scans of turns
abbrev pub TurnsGoOn : List TurnPlace → Kept → List Event → List MadeTurn → Kept → Type 0
TurnsGoOn table old events turns new = SumsGoOn old (length (clocks_among events)) (usec_among events)
    (turns_scans table true turns) (turns_scans table false turns) new

-- This is told of the turn at a place of a code: of its piece, which a table counts from 0 and a code from 1.
pub record HasTurnAt (code : CodeLists) (table : List TurnPlace) (place : ℕ) (said : TurnPlace) : Type 0 where
  pub piece : ℕ
  pub at_piece : piece_of (slice_get code.instrs place) ≡ Some (piece + 1)
  pub in_table : slice_get table piece ≡ Some said

-- without an answer nothing is told of the turn at a place
abbrev pub IsUntoldAt : CodeLists → List TurnPlace → ℕ → Option TurnPlace → Type 0
IsUntoldAt code table place (Some said) = Unit {0}
IsUntoldAt code table place None = (said : TurnPlace) → HasTurnAt code table place said → ⊥

-- The shorter run of a code goes on at a Turn of the piece of the turn, which a table tells, with the controllers in its
-- first state, and the longer one has the events of the turn after those of the shorter one.
pub record IsNextCodeTurn (code : CodeLists) (table : List TurnPlace) (shorter longer : Run) (t : MadeTurn) : Type 0 where
  pub at : ℕ
  pub goes : shorter.outcome ≡ Going at
  pub piece : piece_of (slice_get code.instrs at) ≡ Some (t.place + 1)
  pub said : TurnPlace
  pub in_table : slice_get table t.place ≡ Some said
  pub scans : t.scans ≡ said.scans
  pub from : shorter.chain.tap ≡ t.from
  pub events : longer.events ≡ shorter.events ++ t.events

-- the turns are those of the runs of these numbers of turns, from this number on
abbrev pub AreNextCodeTurns : CodeLists → List TurnPlace → (ℕ → Run) → List MadeTurn → Type 0
AreNextCodeTurns code table runs [] = Unit {0}
AreNextCodeTurns code table runs (t ∷ ts) =
    IsNextCodeTurn code table (runs 0) (runs 1) t × AreNextCodeTurns code table (λ n. runs (suc n)) ts

-- each turn of runs of these numbers of turns is told
abbrev pub AreTold : CodeLists → List TurnPlace → (ℕ → Run) → Type 0
AreTold code table runs = (n at : ℕ) → (runs n).outcome ≡ Going at → (said : TurnPlace) × HasTurnAt code table at said

-- there is room for each turn of runs of these numbers of turns
abbrev pub HaveRoom : CodeLists → List TurnPlace → Kept → (ℕ → Run) → Type 0
HaveRoom code table kept runs = (turns : List MadeTurn) → AreNextCodeTurns code table runs turns →
    All (λ (t : MadeTurn). HasRoomFor kept t.from t.events) turns

-- the run of that many turns does not go on
abbrev pub HasStopped : Run → Type 0
HasStopped run = (at : ℕ) → run.outcome ≡ Going at → ⊥

module _ {C : Type 0} (cable : CableOf C) (code : CodeLists) (table : List TurnPlace) (base : BaseLengths) (all : ℕ → Chain → Run)
    (from : Tap) (old : C) where
  abbrev pub runs_heard : List Event → List Bool → ℕ → Run
  runs_heard events more n = all n (chain_heard cable base from old events more)

  -- Whatever is still to be heard, each turn of the runs is told, and there is room for the clocks of it and for those of
  -- what comes before the turns.
  abbrev pub TurnsAreTold : Type 0
  TurnsAreTold = (events : List Event) (more : List Bool) → AreTold code table (runs_heard events more)

  abbrev pub TurnsFindRoom : Kept → Type 0
  TurnsFindRoom kept = (events : List Event) (more : List Bool) → HaveRoom code table kept (runs_heard events more)

  abbrev pub FirstFindsRoom : Kept → Type 0
  FirstFindsRoom kept = (events : List Event) (more : List Bool) → HasRoomFor kept from (runs_heard events more 0).events

module _ {C K : Type 0} (cable : CableOf C) (sink : SinkOf K) (code : CodeLists) (table : List TurnPlace) (base : BaseLengths)
    (all : ℕ → Chain → Run) (from : Tap) (old : C) (runs : Kept) (out : Lines K) where
  -- So many turns were played, and the run goes on at a place, in a state and from a state of the controllers.
  pub record PlayedSoFar (i place : ℕ) (s : State) (at : Tap) (new : C) (new_runs : Kept) (new_out : Lines K) : Type 0 where
    pub events : List Event
    pub turns : List MadeTurn
    pub made : cable.made old (signals_of events) new
    pub put : Puts sink out (turns_text table base turns) new_out
    pub count : length turns ≡ i
    pub goes : (more : List Bool) (n : ℕ) → all (i + n) (chain_heard cable base from old events more)
        ≡ after events (run_of code n place s (chain_of cable base at new more))
    pub are : (more : List Bool) → AreNextCodeTurns code table (λ n. all n (chain_heard cable base from old events more)) turns
    pub sums : TurnsGoOn table runs events turns new_runs

  -- All turns of a run of at most so many were played, these are so many, and the run stands so; there is no ending where
  -- it met what no valid code meets.
  pub record PlayedTurns (most : ℕ) (over : Over) (new : C) (new_runs : Kept) (new_out : Lines K) : Type 0 where
    pub events : List Event
    pub turns : List MadeTurn
    pub made : cable.made old (signals_of events) new
    pub put : Puts sink out (turns_text table base turns) new_out
    pub are : (more : List Bool) → AreNextCodeTurns code table (λ n. all n (chain_heard cable base from old events more)) turns
    pub few : length turns ≤ most
    pub counted : length turns ≡ over.turns
    pub whole : (more : List Bool) → (length turns ≡ most) ⊎ HasStopped (all (length turns) (chain_heard cable base from old events more))
    pub gives : (more : List Bool) → (all most (chain_heard cable base from old events more)).events ≡ events
    pub ended : (more : List Bool) → ending_of (all most (chain_heard cable base from old events more)).outcome ≡ over.ending
    pub sums : TurnsGoOn table runs events turns new_runs

  -- A front was put of the text of turns that the run has at the far end of the cable.
  pub record PlayedFront (most : ℕ) (new_out : Lines K) : Type 0 where
    pub events : List Event
    pub turns : List Bool → List MadeTurn
    pub are : (more : List Bool) →
        AreNextCodeTurns code table (λ n. all n (chain_heard cable base from old events more)) (turns more)
    pub few : (more : List Bool) → length (turns more) ≤ most
    pub put : (more : List Bool) → PutsFront sink out (turns_text table base (turns more)) new_out

  -- what a call does that plays a run so, by its result
  abbrev pub HasPlayedTurns : ℕ → C → Kept → Lines K → Result Over Failed → Type 0
  HasPlayedTurns most new new_runs new_out (Ok over) = PlayedTurns most over new new_runs new_out
  HasPlayedTurns most new new_runs new_out (Err failed) = PlayedFront most new_out

module _ {C K : Type 0} (cable : CableOf C) (sink : SinkOf K) (code : CodeLists) (table : List TurnPlace) (base : BaseLengths)
    (all : ℕ → Chain → Run) (from : Tap) (old : C) (runs : Kept) (out : Lines K) where
  -- A whole run of at most so many turns was played: what comes before its turns, and then these.
  pub record PlayedRun (most : ℕ) (over : Over) (new : C) (new_runs : Kept) (new_out : Lines K) : Type 0 where
    pub events : List Event
    pub first : List Event
    pub turns : List MadeTurn
    pub made : cable.made old (signals_of events) new
    pub put : Puts sink out (events_text false [] first ++ turns_text table base turns) new_out
    pub first_is : (more : List Bool) → (all 0 (chain_heard cable base from old events more)).events ≡ first
    pub are : (more : List Bool) → AreNextCodeTurns code table (λ n. all n (chain_heard cable base from old events more)) turns
    pub few : length turns ≤ most
    pub counted : length turns ≡ over.turns
    pub whole : (more : List Bool) → (length turns ≡ most) ⊎ HasStopped (all (length turns) (chain_heard cable base from old events more))
    pub gives : (more : List Bool) → (all most (chain_heard cable base from old events more)).events ≡ events
    pub ended : (more : List Bool) → ending_of (all most (chain_heard cable base from old events more)).outcome ≡ over.ending
    pub sums : TurnsGoOn table runs events turns new_runs

  -- A front was put of the text that comes before its turns and of that of turns that it has at the far end of the cable.
  pub record PlayedRunFront (most : ℕ) (new_out : Lines K) : Type 0 where
    pub events : List Event
    pub turns : List Bool → List MadeTurn
    pub are : (more : List Bool) →
        AreNextCodeTurns code table (λ n. all n (chain_heard cable base from old events more)) (turns more)
    pub few : (more : List Bool) → length (turns more) ≤ most
    pub put : (more : List Bool) → PutsFront sink out
        (events_text false [] (all 0 (chain_heard cable base from old events more)).events ++ turns_text table base (turns more)) new_out

  -- what a call does that plays a whole run so, by its result
  abbrev pub HasPlayedRun : ℕ → C → Kept → Lines K → Result Over Failed → Type 0
  HasPlayedRun most new new_runs new_out (Ok over) = PlayedRun most over new new_runs new_out
  HasPlayedRun most new new_runs new_out (Err failed) = PlayedRunFront most new_out
