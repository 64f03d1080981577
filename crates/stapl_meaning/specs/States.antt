-- What a run keeps from one turn to the next, what a statement does, and what a turn leads to.
use Rattle.std.specs.Prelude.{ℕ, pos, Bool, if◌then◌else◌, List, [], ◌∷◌, ◌++◌, Option, Some, None}
use Rattle.tap_states.specs.declared.Tap.{Tap}
use Rattle.tap_states.specs.Tap.{is_stable_state}
use Rattle.dev_card.specs.Scans.{BoardScan}
use Rattle.stapl_meaning.specs.declared.events.Event.{Event}
use Rattle.stapl_meaning.specs.Deeds.{Deed, Scans, Chain, deed_events, deed_chain, deeds_events, deeds_chain, captured_on}
use Rattle.stapl_meaning.specs.declared.events.RunFault.{RunFault}
use Rattle.stapl_meaning.specs.declared.events.Ending.{Ending}
use Rattle.stapl_meaning.specs.declared.events.Ending.TheVariants.{Exit, Fault}
use Rattle.stapl_meaning.specs.declared.records.Record.{Record}
use Rattle.stapl_meaning.specs.declared.values.Held.{Held}
use Rattle.stapl_meaning.specs.Values.{Got, Known, Faults, Stuck}

-- the variables, in the order of their declarations
pub record Store : Type 0 where
  pub variables : List Held

-- how scans of the instruction registers go, or of the data registers: the bits that the program shifts before their
-- data and after it, and the state in which they end
pub record ScanSettings : Type 0 where
  pub pre : List Bool
  pub post : List Bool
  pub stop : Tap

-- the procedures still to run, by number, the records, the topmost first, the store, and how scans go
pub record State : Type 0 where
  pub chosen : List ℕ
  pub records : List Record
  pub store : Store
  pub ir : ScanSettings
  pub dr : ScanSettings

-- What a statement does: with its deeds it goes on to what follows, it scans and goes on in a state that the captured
-- bits decide, it jumps to its target, it goes on at the place that a record kept, it ends its procedure, or it ends
-- the run.
pub data Did : Type 0 where
  Falls : (deeds : List Deed) (state : State) → Did
  Captures : (scan : BoardScan) (lands : List Bool → State) → Did
  Jumps : (state : State) → Did
  Resumes : (place : ℕ) (state : State) → Did
  Returns : (state : State) → Did
  Ends : (ending : Ending) (state : State) → Did

-- What a turn does, whatever the chain is: with its deeds it leads to a place, it ends the run, or a fault breaks it;
-- or it scans after its deeds, and the bits that the scan captures decide the rest. A turn that no accepted program
-- meets finds nothing to do; it carries the deeds so far.
pub data Turned : Type 0 where
  Leads : (deeds : List Deed) (place : ℕ) (state : State) → Turned
  Over : (deeds : List Deed) (ending : Ending) (state : State) → Turned
  Broken : (deeds : List Deed) (fault : RunFault) (state : State) → Turned
  Scanning : (deeds : List Deed) (scan : BoardScan) (rest : List Bool → Turned) → Turned
  NoTurn : (deeds : List Deed) → Turned

-- goes on with what was asked for; a fault leaves the state as it is
abbrev pub with_got : {A : Type 0} → Got A → State → (A → Turned) → Turned
with_got (Known x) s go = go x
with_got (Faults k) s go = Broken [] k s
with_got Stuck s go = NoTurn []

-- deeds before those of a turn
abbrev pub preceded : List Deed → Turned → Turned
preceded before (Leads deeds place s) = Leads (before ++ deeds) place s
preceded before (Over deeds ending s) = Over (before ++ deeds) ending s
preceded before (Broken deeds k s) = Broken (before ++ deeds) k s
preceded before (Scanning deeds scan rest) = Scanning (before ++ deeds) scan rest
preceded before (NoTurn deeds) = NoTurn (before ++ deeds)

-- the turn of a piece: a fault ends the run, and names the piece
abbrev pub turn_of_piece : ℕ → Turned → Turned
turn_of_piece piece (Leads deeds place s) = Leads deeds place s
turn_of_piece piece (Over deeds ending s) = Over deeds ending s
turn_of_piece piece (Broken deeds k s) = Over deeds (Fault k piece) s
turn_of_piece piece (Scanning deeds scan rest) = Scanning deeds scan (λ bits. turn_of_piece piece (rest bits))
turn_of_piece piece (NoTurn deeds) = NoTurn deeds

-- The next chosen procedure begins at its entry; where there is none, the run ends with code 0.
abbrev pub next_chosen : (ℕ → ℕ) → State → List ℕ → Turned
next_chosen entry s [] = Over [] (Exit (pos 0)) (record s { chosen = [] })
next_chosen entry s (p ∷ ps) = Leads [] (entry p) (record s { chosen = ps })

-- The first chosen procedure begins where what sets a play up has come to its end.
abbrev pub begun : (ℕ → ℕ) → Turned → Turned
begun entry (Leads deeds place s) = preceded deeds (next_chosen entry s s.chosen)
begun entry (Over deeds ending s) = NoTurn deeds
begun entry (Broken deeds k s) = NoTurn deeds
begun entry (Scanning deeds scan rest) = Scanning deeds scan (λ bits. begun entry (rest bits))
begun entry (NoTurn deeds) = NoTurn deeds

-- a jump to a target, if there is one
abbrev pub jumps_to : Option ℕ → State → Turned
jumps_to None s = NoTurn []
jumps_to (Some place) s = Leads [] place s

-- what a statement with a target does, and then what follows it
abbrev pub led : (ℕ → ℕ) → Option ℕ → Did → (State → Turned) → Turned
led entry to (Falls deeds s) go = preceded deeds (go s)
led entry to (Captures scan lands) go = Scanning [] scan (λ bits. go (lands bits))
led entry to (Jumps s) go = jumps_to to s
led entry to (Resumes place s) go = Leads [] place s
led entry to (Returns s) go = next_chosen entry s s.chosen
led entry to (Ends ending s) go = Over [] ending s

-- What a turn comes to on a chain: with its events it leads to a place, it ends the run, a fault breaks it, or it finds
-- nothing to do.
pub data Happened : Type 0 where
  Led : (events : List Event) (place : ℕ) (state : State) (chain : Chain) → Happened
  Finished : (events : List Event) (ending : Ending) (state : State) (chain : Chain) → Happened
  Broke : (events : List Event) (fault : RunFault) (state : State) (chain : Chain) → Happened
  Lacks : (events : List Event) → Happened

-- events before those of what happened
abbrev pub with_events : List Event → Happened → Happened
with_events before (Led events place s k) = Led (before ++ events) place s k
with_events before (Finished events ending s k) = Finished (before ++ events) ending s k
with_events before (Broke events f s k) = Broke (before ++ events) f s k
with_events before (Lacks events) = Lacks (before ++ events)

-- A scan on a chain, and what follows from the bits that it captures. It begins in a stable state; no accepted program
-- scans from another one.
abbrev pub scanned_on : Chain → BoardScan → (List Bool → Chain → Happened) → Happened
scanned_on k scan go =
    if is_stable_state k.tap then with_events (deed_events k (Scans scan)) (go (captured_on k scan) (deed_chain k (Scans scan)))
    else Lacks []

abbrev pub happens : Chain → Turned → Happened
happens k (Leads deeds place s) = Led (deeds_events k deeds) place s (deeds_chain k deeds)
happens k (Over deeds ending s) = Finished (deeds_events k deeds) ending s (deeds_chain k deeds)
happens k (Broken deeds f s) = Broke (deeds_events k deeds) f s (deeds_chain k deeds)
happens k (Scanning deeds scan rest) =
    with_events (deeds_events k deeds) (scanned_on (deeds_chain k deeds) scan (λ bits l. happens l (rest bits)))
happens k (NoTurn deeds) = Lacks (deeds_events k deeds)

-- what happened in the turn of a piece: a fault ends the run, and names the piece
abbrev pub happened_in_piece : ℕ → Happened → Happened
happened_in_piece piece (Led events place s k) = Led events place s k
happened_in_piece piece (Finished events ending s k) = Finished events ending s k
happened_in_piece piece (Broke events f s k) = Finished events (Fault f piece) s k
happened_in_piece piece (Lacks events) = Lacks events
