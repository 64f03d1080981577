-- What deeds, turns and runs do over a cable whose clocks are written. Where that cable tells no board, the TDO bits of
-- the clocks that were made answer, and whatever is still to be heard.
use Rattle.std.specs.Prelude.{◌≡◌, ◌≢◌, ℕ, ◌+◌, ◌≤◌, Bool, false, List, [], ◌∷◌, ◌++◌, Option, Some, None, Result, Ok, Err, IfErr, OnOk}
use Rattle.std.specs.Borrow.{MutBor}
use Rattle.tap_states.specs.declared.Tap.{Tap}
use Rattle.dev_card.specs.Card.{Card}
use Rattle.dev_card.specs.Board.{Clock, tdos, AllIn}
use Rattle.tool_io.specs.Causes.{HasRisen, NeverFalls}
use Rattle.scan_paths.specs.Cables.{clocks_in, Breakage, whole, line, pins, HasPartCause, WhereTold, cable_faults, IsCableLast}
use Rattle.scan_paths.specs.declared.cable.Cable.{Ghosts as CableOf}
use Rattle.stapl_meaning.specs.declared.events.Event.{Event}
use Rattle.stapl_meaning.specs.declared.events.Ending.{Ending}
use Rattle.dev_card.specs.Scans.{BoardScan}
use Rattle.dev_card.specs.Padding.{BaseLengths}
use Rattle.stapl_meaning.specs.Deeds.{Deed, Scans, Chain, deeds_events, deeds_chain, captured_on}
use Rattle.stapl_meaning.specs.States.{State, Happened, with_events}
use Rattle.stapl_meaning.specs.Plays.{Run, after, ending_of}
use Rattle.stapl_meaning.specs.Texts.{bytes_of, pin_line, events_text}
use Rattle.written_cable.specs.Papers.{Puts, PutsFront, IsOverSame}
use Rattle.written_cable.specs.declared.paper.Paper.{Ghosts as PaperOf}
use Rattle.written_cable.specs.declared.pin_cable.PinCable.{PinCable}
use Rattle.written_cable.specs.declared.trouble.Trouble.{Trouble}
use Rattle.written_cable.specs.declared.trouble.Trouble.TheVariants.{CableFault, WriteFault}
use Rattle.written_cable.specs.Signals.{signals_of}
use Rattle.written_cable.specs.Pins.{cable_of, lines_of, tap_of, base_of, digits_of, writes_pins, port_breakage, port_line_faults, IsPortLineLast, port_pin_faults, IsPortPinLast, IsSamePort, IsOverCable, IsOverLines, is_torn, PutsEvents, port_chain}

-- where the board is told, all its controllers are in the state that the port keeps
abbrev pub IsInStep : {C O : Type 0} → (C → Option (List Card)) → PinCable C O → Type 0
IsInStep board port = WhereTold (board (cable_of port)) (AllIn (tap_of port))

-- why a call was broken off, as the port shows it
abbrev pub BrokeSo : Trouble → Breakage → Type 0
BrokeSo CableFault now = now ≡ line
BrokeSo WriteFault now = now ≡ pins

-- why a run was broken off
abbrev pub IfFault : Trouble → Type 0 → Type 0 → Type 0
IfFault CableFault cable lines = cable
IfFault WriteFault cable lines = lines

-- what is broken of a port
abbrev pub broken_part : {C O : Type 0} → CableOf C → PaperOf O → PinCable C O → Breakage
broken_part cable paper port = port_breakage cable.breakage paper.failed port

-- A port over the cable and the paper that these references point to, with all controllers in this state, and with
-- these digits and this base padding. No line is torn.
pub record IsNewPort {C O : Type 0} (over_cable : MutBor C) (over_paper : MutBor O) (at : Tap) (waiting : List ℕ) (writes : Bool) (padding : BaseLengths) (port : PinCable C O) : Type 0 where
  pub same_cable : IsOverCable port over_cable
  pub same_out : IsOverLines port over_paper
  pub cable : cable_of port ≡ over_cable.now
  pub out : lines_of port ≡ over_paper.now
  pub tap : tap_of port ≡ at
  pub base : base_of port ≡ padding
  pub digits : digits_of port ≡ waiting
  pub pins : writes_pins port ≡ writes
  pub untorn : is_torn port ≡ false

-- Nothing happened to the cable of a port, nor to the state of its controllers.
pub record IsCableStill {C O : Type 0} (old new : PinCable C O) : Type 0 where
  pub cable : cable_of new ≡ cable_of old
  pub tap : tap_of new ≡ tap_of old

-- Nothing of the port is broken, and if the board is told, all its controllers are in the state that the port keeps.
pub record IsOpenPort {C O : Type 0} (cable : CableOf C) (paper : PaperOf O) (port : PinCable C O) : Type 0 where
  pub whole_port : broken_part cable paper port ≡ whole
  pub in_step : IsInStep cable.board port

-- What a call keeps of a port: it stands over the same parts, and each of its counts was kept and is the cause of the
-- breakage of its part.
pub record IsKept {C O : Type 0} (cable : CableOf C) (paper : PaperOf O) (old new : PinCable C O) : Type 0 where
  pub same : IsSamePort old new
  pub over : IsOverSame paper.shown (lines_of old) (lines_of new)
  pub line_cause : HasPartCause line (port_line_faults cable.line_faults cable.pin_faults) (IsPortLineLast cable.is_line_last cable.is_pin_last) (broken_part cable paper) old new
  pub pins_cause : HasPartCause pins (port_pin_faults paper.faults) (IsPortPinLast paper.is_last) (broken_part cable paper) old new

-- The line of the digits that waited was put, and nothing of the port is broken.
pub record Finishes {C O : Type 0} (cable : CableOf C) (paper : PaperOf O) (old new : PinCable C O) : Type 0 where
  pub put : Puts paper.shown (lines_of old) (pin_line (digits_of old)) (lines_of new)
  pub none : digits_of new ≡ []
  pub unbroken : broken_part cable paper new ≡ whole

-- A front of it was put, and a line is torn off.
pub record FinishesFront {C O : Type 0} (cable : CableOf C) (paper : PaperOf O) (old new : PinCable C O) : Type 0 where
  pub front : PutsFront paper.shown (lines_of old) (pin_line (digits_of old)) (lines_of new)
  pub broken : broken_part cable paper new ≡ pins

-- What a call does that puts the line of the digits that wait, by its result.
abbrev pub HasFinished : {C O T E : Type 0} → CableOf C → PaperOf O → PinCable C O → PinCable C O → Result T E → Type 0
HasFinished cable paper old new (Ok x) = Finishes cable paper old new
HasFinished cable paper old new (Err e) = FinishesFront cable paper old new

-- the state and the chain are those after the run, where it has an ending
abbrev pub LeavesSo : Run → Option Ending → State → Chain → Type 0
LeavesSo run None s k = Unit {0}
LeavesSo run (Some ending) s k = (run.state ≡ s) × (run.chain ≡ k)

module _ {C O : Type 0} (cable : CableOf C) (paper : PaperOf O) where
  -- These events happened, and their text was put. What was made on the cable are exactly the signals among them, of
  -- which these are the clocks.
  pub record Passes (old : PinCable C O) (events : List Event) (clocks : List Clock) (new : PinCable C O) : Type 0 where
    pub same : IsSamePort old new
    pub made : cable.made (cable_of old) (signals_of events) (cable_of new)
    pub clocks_are : clocks_in (signals_of events) ≡ clocks
    pub put : PutsEvents (broken_part cable paper) paper.shown old events new

  -- The signals among these events were made, and a front of the text of these events was put.
  pub record PassesFront (old : PinCable C O) (events : List Event) (clocks : List Clock) (new : PinCable C O) : Type 0 where
    pub made : cable.made (cable_of old) (signals_of events) (cable_of new)
    pub clocks_are : clocks_in (signals_of events) ≡ clocks
    pub front : PutsFront paper.shown (lines_of old) (bytes_of (writes_pins old) (digits_of old) events) (lines_of new)

  -- the chain before clocks that were made, whatever is still to be heard after them
  abbrev pub chain_before : PinCable C O → List Clock → List Bool → Chain
  chain_before port clocks more = port_chain cable.board port (tdos clocks ++ more)

  -- Of all deeds some were done, and these are the rest.
  pub record Did (all : List Deed) (old : PinCable C O) (rest : List Deed) (new : PinCable C O) : Type 0 where
    pub events : List Event
    pub clocks : List Clock
    pub passed : Passes old events clocks new
    pub happened : (more : List Bool) → deeds_events (chain_before old clocks more) all ≡ events ++ deeds_events (port_chain cable.board new more) rest
    pub chain : (more : List Bool) → deeds_chain (chain_before old clocks more) all ≡ deeds_chain (port_chain cable.board new more) rest

  -- A scan was done, and these bits were captured.
  pub record DidScan (scan : BoardScan) (captured : List Bool) (old new : PinCable C O) : Type 0 where
    pub did : Did (Scans scan ∷ []) old [] new
    pub captured_is : (more : List Bool) → captured_on (chain_before old did.clocks more) scan ≡ captured

  -- A scan was done, and its captured bits landed so.
  pub record Captured (scan : BoardScan) (lands : List Bool → State) (old : PinCable C O) (s : State) (new : PinCable C O) : Type 0 where
    pub captured : List Bool
    pub did : DidScan scan captured old new
    pub landed : s ≡ lands captured

  -- A front of what they come to was done.
  pub record DidFront (all : List Deed) (old new : PinCable C O) : Type 0 where
    pub events : List Event
    pub clocks : List Clock
    pub passed : PassesFront old events clocks new
    pub rest : List Bool → List Event
    pub happened : (more : List Bool) → deeds_events (chain_before old clocks more) all ≡ events ++ rest more

  -- These deeds were done, whatever others follow, and the port is open.
  pub record DoesAll (deeds : List Deed) (old new : PinCable C O) : Type 0 where
    pub did : (rest : List Deed) → Did (deeds ++ rest) old rest new
    pub open_now : IsOpenPort cable paper new
    pub kept : IsKept cable paper old new

  -- A front of what they come to was done, and the port is broken.
  pub record DoesPart (deeds : List Deed) (old new : PinCable C O) : Type 0 where
    pub front : (rest : List Deed) → DidFront (deeds ++ rest) old new
    pub broken : broken_part cable paper new ≢ whole
    pub kept : IsKept cable paper old new

  -- A scan was done, and the port is open.
  pub record ScansAll (scan : BoardScan) (captured : List Bool) (old new : PinCable C O) : Type 0 where
    pub did : DidScan scan captured old new
    pub open_now : IsOpenPort cable paper new
    pub kept : IsKept cable paper old new

  -- The same, and its captured bits landed so.
  pub record LandsAll (scan : BoardScan) (lands : List Bool → State) (old : PinCable C O) (s : State) (new : PinCable C O) : Type 0 where
    pub captured : Captured scan lands old s new
    pub open_now : IsOpenPort cable paper new
    pub kept : IsKept cable paper old new

  -- What a call does to a port whose deeds these are, by its result.
  abbrev pub DoesDeeds : {T E : Type 0} → List Deed → PinCable C O → PinCable C O → Result T E → Type 0
  DoesDeeds deeds old new (Ok x) = DoesAll deeds old new
  DoesDeeds deeds old new (Err e) = DoesPart deeds old new

  -- the same of one deed
  abbrev pub DoesDeed : {T E : Type 0} → Deed → PinCable C O → PinCable C O → Result T E → Type 0
  DoesDeed deed old new result = DoesDeeds (deed ∷ []) old new result

  -- the same of a scan that captured these bits
  abbrev pub DoesScan : {T E : Type 0} → BoardScan → List Bool → PinCable C O → PinCable C O → Result T E → Type 0
  DoesScan scan captured old new (Ok x) = ScansAll scan captured old new
  DoesScan scan captured old new (Err e) = DoesPart (Scans scan ∷ []) old new

  -- the same of a scan whose captured bits land so
  abbrev pub DoesCapture : {T E : Type 0} → BoardScan → (List Bool → State) → PinCable C O → State → PinCable C O → Result T E → Type 0
  DoesCapture scan lands old s new (Ok x) = LandsAll scan lands old s new
  DoesCapture scan lands old s new (Err e) = DoesPart (Scans scan ∷ []) old new

  -- Some events happened and some instructions were counted; with them in front the whole turn is what is left.
  pub record Does (turn : Chain → Happened) (count : Chain → ℕ) (old : PinCable C O) (steps : ℕ) (rest : Chain → Happened) (left : Chain → ℕ) (new : PinCable C O) (now : ℕ) : Type 0 where
    pub events : List Event
    pub clocks : List Clock
    pub passed : Passes old events clocks new
    pub does : (more : List Bool) → turn (chain_before old clocks more) ≡ with_events events (rest (port_chain cable.board new more))
    pub ticked : (more : List Bool) → now + left (port_chain cable.board new more) ≡ steps + count (chain_before old clocks more)

  -- A front of the text of the first events was put, and no more instructions were counted than the turn takes.
  pub record DoesFront (turn : Chain → Happened) (count : Chain → ℕ) (old : PinCable C O) (steps : ℕ) (new : PinCable C O) (now : ℕ) : Type 0 where
    pub events : List Event
    pub clocks : List Clock
    pub passed : PassesFront old events clocks new
    pub rest : List Bool → Happened
    pub does : (more : List Bool) → turn (chain_before old clocks more) ≡ with_events events (rest more)
    pub most : (more : List Bool) → now ≤ steps + count (chain_before old clocks more)

  -- a call did the turn up to what is left, or a front of it where it failed
  abbrev pub IsDone : {A : Type 0} → (Chain → Happened) → (Chain → ℕ) → PinCable C O → ℕ → Result A Trouble → (A → Chain → Happened) → (A → Chain → ℕ) → PinCable C O → ℕ → Type 0
  IsDone turn count old steps (Ok x) rest left new now = Does turn count old steps (rest x) (left x) new now
  IsDone turn count old steps (Err e) rest left new now = DoesFront turn count old steps new now

  -- The same of a run.
  pub record Runs (all : Chain → Run) (count : Chain → ℕ) (old : PinCable C O) (steps : ℕ) (rest : Chain → Run) (left : Chain → ℕ) (new : PinCable C O) (now : ℕ) : Type 0 where
    pub events : List Event
    pub clocks : List Clock
    pub passed : Passes old events clocks new
    pub runs : (more : List Bool) → all (chain_before old clocks more) ≡ after events (rest (port_chain cable.board new more))
    pub ticked : (more : List Bool) → now + left (port_chain cable.board new more) ≡ steps + count (chain_before old clocks more)

  -- The text of the run was put but for the digits that wait, and it stands so; there is no ending where it met what no
  -- valid code meets.
  pub record RunsTo (all : Chain → Run) (count : Chain → ℕ) (old : PinCable C O) (steps : ℕ) (ending : Option Ending) (s : State) (new : PinCable C O) (now : ℕ) : Type 0 where
    pub events : List Event
    pub clocks : List Clock
    pub passed : Passes old events clocks new
    pub runs : (more : List Bool) → (all (chain_before old clocks more)).events ≡ events
    pub ended : (more : List Bool) → ending_of (all (chain_before old clocks more)).outcome ≡ ending
    pub leaves : (more : List Bool) → LeavesSo (all (chain_before old clocks more)) ending s (port_chain cable.board new more)
    pub ticked : (more : List Bool) → now ≡ steps + count (chain_before old clocks more)

  -- A front of the text of the run was put.
  pub record RunsFront (all : Chain → Run) (count : Chain → ℕ) (old : PinCable C O) (steps : ℕ) (new : PinCable C O) (now : ℕ) : Type 0 where
    pub events : List Event
    pub clocks : List Clock
    pub passed : PassesFront old events clocks new
    pub rest : List Bool → List Event
    pub runs : (more : List Bool) → (all (chain_before old clocks more)).events ≡ events ++ rest more
    pub most : (more : List Bool) → now ≤ steps + count (chain_before old clocks more)

  abbrev pub IsRun : (Chain → Run) → (Chain → ℕ) → PinCable C O → ℕ → Result (Option Ending) Trouble → State → PinCable C O → ℕ → Type 0
  IsRun all count old steps (Ok ending) s new now = RunsTo all count old steps ending s new now
  IsRun all count old steps (Err e) s new now = RunsFront all count old steps new now

  -- The whole text of the run was put, with the line of the digits that wait in the end, and it stands so.
  pub record PlaysTo (all : Chain → Run) (count : Chain → ℕ) (old : PinCable C O) (steps : ℕ) (ending : Option Ending) (s : State) (new : PinCable C O) (now : ℕ) : Type 0 where
    pub events : List Event
    pub clocks : List Clock
    pub made : cable.made (cable_of old) (signals_of events) (cable_of new)
    pub clocks_are : clocks_in (signals_of events) ≡ clocks
    pub put : Puts paper.shown (lines_of old) (events_text (writes_pins old) (digits_of old) events) (lines_of new)
    pub runs : (more : List Bool) → (all (chain_before old clocks more)).events ≡ events
    pub ended : (more : List Bool) → ending_of (all (chain_before old clocks more)).outcome ≡ ending
    pub leaves : (more : List Bool) → LeavesSo (all (chain_before old clocks more)) ending s (port_chain cable.board new more)
    pub ticked : (more : List Bool) → now ≡ steps + count (chain_before old clocks more)

  -- The signals among its first events were made, and a front of the text of these was put.
  pub record PlaysFront (all : Chain → Run) (count : Chain → ℕ) (old : PinCable C O) (steps : ℕ) (new : PinCable C O) (now : ℕ) : Type 0 where
    pub events : List Event
    pub clocks : List Clock
    pub made : cable.made (cable_of old) (signals_of events) (cable_of new)
    pub clocks_are : clocks_in (signals_of events) ≡ clocks
    pub rest : List Bool → List Event
    pub runs : (more : List Bool) → (all (chain_before old clocks more)).events ≡ events ++ rest more
    pub driven : PutsFront paper.shown (lines_of old) (events_text (writes_pins old) (digits_of old) events) (lines_of new)
    pub front : (more : List Bool) → PutsFront paper.shown (lines_of old) (events_text (writes_pins old) (digits_of old) (all (chain_before old clocks more)).events) (lines_of new)
    pub most : (more : List Bool) → now ≤ steps + count (chain_before old clocks more)

  -- what a call does that plays a run to its end, by its result
  abbrev pub IsPlayedOut : (Chain → Run) → (Chain → ℕ) → PinCable C O → ℕ → Result (Option Ending) Trouble → State → PinCable C O → ℕ → Type 0
  IsPlayedOut all count old steps (Ok ending) s new now = PlaysTo all count old steps ending s new now
  IsPlayedOut all count old steps (Err e) s new now = PlaysFront all count old steps new now

-- What a call keeps of a port, with its answer: the port is open after `Ok`, and a failure has its cause.
pub record Keeps {C O A : Type 0} (cable : CableOf C) (paper : PaperOf O) (old new : PinCable C O) (result : Result A Trouble) : Type 0 where
  pub kept : IsKept cable paper old new
  pub open_now : OnOk result (IsOpenPort cable paper new)
  pub broke : IfErr result (λ e. BrokeSo e (broken_part cable paper new))

-- What a play keeps of the cable and the paper of a port, with its answer: their counts never fall, nothing is broken
-- after `Ok`, and a trouble has its cause.
pub record KeepsParts {C O A : Type 0} (cable : CableOf C) (paper : PaperOf O) (old : C) (old_paper : O) (new : C) (new_paper : O) (result : Result A Trouble) : Type 0 where
  pub same_paper : IsOverSame paper.shown old_paper new_paper
  pub whole_paper : OnOk result (paper.failed new_paper ≡ false)
  pub whole_cable : OnOk result (cable.breakage new ≡ whole)
  pub cable_kept : NeverFalls (cable_faults cable.line_faults cable.pin_faults) (IsCableLast cable.is_line_last cable.is_pin_last) old new
  pub paper_kept : NeverFalls paper.faults paper.is_last old_paper new_paper
  pub fault : IfErr result (λ trouble. IfFault trouble
      (HasRisen (cable_faults cable.line_faults cable.pin_faults) (IsCableLast cable.is_line_last cable.is_pin_last) old new) (HasRisen paper.faults paper.is_last old_paper new_paper))
