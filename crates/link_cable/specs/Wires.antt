-- What a wire to a link tells, and what its calls do. The link is the one of the protocol remote bitbang; the rules of
-- wires are this profile's.
use Rattle.std.specs.Prelude.{◌≡◌, ℕ, ◌+◌, ◌<◌, ◌≤◌, ◌&&◌, Bool, true, false, List, [], ◌∷◌, ◌++◌, length, take, drop, map, Option, None, Some, Result, Ok, Err, if◌then◌else◌, slice_get}
use Rattle.std.specs.Option.{option_map}
use Rattle.base.specs.Bits.{number_of}
use Rattle.dev_card.specs.Card.{Card}
use Rattle.dev_card.specs.Board.{Input, Clock, board_tdo, board_step, board_after, clocks_of, tdos}
use Rattle.scan_paths.specs.Cables.{input_of}
use Rattle.link_server.specs.Runs.{LinkAt, link_run, is_open, digit_of}
use Rattle.link_server.specs.Clients.{bytes_of_input, bytes_of_inputs}
use Rattle.link_server.specs.Counts.{CountsExactly}
use Rattle.link_server.specs.Drives.{Carrying}

-- the link at the other end, and the answers that wait, the oldest first
pub record WireState : Type 0 where
  pub at : LinkAt
  pub waiting : List ℕ

-- the most answers that wait, with the bytes that are sent
abbrev pub most_waiting : ℕ
most_waiting = 64

-- after these bytes were taken: the run of the link over them, and its answers after those that wait
abbrev pub sent : WireState → List ℕ → WireState
sent s bytes = record { at = (link_run s.at bytes).end; waiting = s.waiting ++ (link_run s.at bytes).answers }

abbrev pub told_sent : Option WireState → List ℕ → Option WireState
told_sent told bytes = option_map (λ s. sent s bytes) told

-- after so many answers were received
abbrev pub received : WireState → ℕ → WireState
received s n = record { at = s.at; waiting = drop n s.waiting }

abbrev pub told_received : Option WireState → ℕ → Option WireState
told_received told n = option_map (λ s. received s n) told

-- a send took so many of the bytes: where the wire tells, none only if there are none
pub record HasSent (old : Option WireState) (bytes : List ℕ) (n : ℕ) (new : Option WireState) : Type 0 where
  pub within : n ≤ length bytes
  pub some : (s : WireState) → old ≡ Some s → 0 < length bytes → 0 < n
  pub state : new ≡ told_sent old (take n bytes)

-- a send that failed took a front of the bytes: a wire that told nothing tells nothing, and one that tells still is as
-- after this front
pub record HasSentFront (old : Option WireState) (bytes : List ℕ) (new : Option WireState) : Type 0 where
  pub count : ℕ
  pub within : count ≤ length bytes
  pub untold : old ≡ None → new ≡ None
  pub state : (s now : WireState) → old ≡ Some s → new ≡ Some now → now ≡ sent s (take count bytes)

-- What a send does, by its result: it took so many of the bytes, or a front of them if it failed.
abbrev pub SendAnswer : {E : Type 0} → Option WireState → List ℕ → Result ℕ E → Option WireState → Type 0
SendAnswer old bytes (Ok n) new = HasSent old bytes n new
SendAnswer old bytes (Err e) new = HasSentFront old bytes new

-- What bytes and answers lead from one state of a told link to another, however sends and receives take turns: the link
-- has run over the bytes, and the answers are the oldest that waited or came of it.
pub record IsCarriedTo (s : WireState) (bytes answers : List ℕ) (new : Option WireState) : Type 0 where
  pub now : WireState
  pub now_is : new ≡ Some now
  pub end : now.at ≡ (link_run s.at bytes).end
  pub answers_are : s.waiting ++ (link_run s.at bytes).answers ≡ answers ++ now.waiting

-- the same of a wire that may tell its link
pub record CarriesTold (old : Option WireState) (bytes answers : List ℕ) (new : Option WireState) : Type 0 where
  pub untold : old ≡ None → new ≡ None
  pub told : (s : WireState) → old ≡ Some s → IsCarriedTo s bytes answers new

-- A front of the bytes was taken, and this is left of them.
pub record HasTaken {W : Type 0} (carried : Carrying W) (old : W) (bytes rest : List ℕ) (new : W) : Type 0 where
  pub front : List ℕ
  pub parts : bytes ≡ front ++ rest
  pub went : carried old front [] new

pub record HasTakenFront {W : Type 0} (carried : Carrying W) (old : W) (bytes : List ℕ) (new : W) : Type 0 where
  pub rest : List ℕ
  pub taken : HasTaken carried old bytes rest new

-- What a send carries, by its result: so many of the bytes, or a front of them if it failed.
abbrev pub SendCarries : {W E : Type 0} → Carrying W → W → List ℕ → Result ℕ E → W → Type 0
SendCarries carried old bytes (Ok n) new = carried old (take n bytes) [] new
SendCarries carried old bytes (Err e) new = HasTakenFront carried old bytes new

-- What sends carry until all bytes are through.
abbrev pub AllCarried : {W T E : Type 0} → Carrying W → W → List ℕ → Result T E → W → Type 0
AllCarried carried old bytes (Ok x) new = carried old bytes [] new
AllCarried carried old bytes (Err e) new = HasTakenFront carried old bytes new

-- What a receive carries, by its result: so many answers, or nothing if it failed.
abbrev pub ReceiveCarries : {W E : Type 0} → Carrying W → W → List ℕ → Result ℕ E → W → Type 0
ReceiveCarries carried old buffer (Ok n) new = carried old [] (take n buffer) new
ReceiveCarries carried old buffer (Err e) new = carried old [] [] new

-- What the receive of one answer carries.
abbrev pub OneCarried : {W E : Type 0} → Carrying W → W → Result ℕ E → W → Type 0
OneCarried carried old (Ok answer) new = carried old [] (answer ∷ []) new
OneCarried carried old (Err e) new = carried old [] [] new

-- A call that failed among these bytes and the answers to them: a front of the bytes was taken, and perhaps answers came.
pub record HasBrokenAmong {W : Type 0} (carried : Carrying W) (old : W) (bytes : List ℕ) (new : W) : Type 0 where
  pub more : List ℕ
  pub rest : List ℕ
  pub parts : bytes ≡ more ++ rest
  pub uncounted : List ℕ
  pub went : carried old more uncounted new

-- The wire is ready after a call, and a count of faults was kept, which rises exactly with a failure.
pub record WireKept {T E : Type 0} (is_ready : Bool) (before now : ℕ) (last_before last_now : Type 0)
    (result : Result T E) : Type 0 where
  pub ready : is_ready ≡ true
  pub counts : CountsExactly before now last_before last_now result

-- the same of a wire before and after the call
abbrev pub IsWireKept : {W T E : Type 0} → (W → Bool) → (W → ℕ) → (W → Type 0) → W → W → Result T E → Type 0
IsWireKept is_ready faults is_last old new result =
    WireKept (is_ready new) (faults old) (faults new) (is_last old) (is_last new) result

-- so many of the waiting answers were received, the oldest first: none only if none waits
pub record HasReceived (old : Option WireState) (n : ℕ) (buffer : List ℕ) (new : Option WireState) : Type 0 where
  pub within : n ≤ length buffer
  pub answers : (s : WireState) → old ≡ Some s → take n buffer ≡ take n s.waiting
  pub most : (s : WireState) → old ≡ Some s → n ≤ length s.waiting
  pub some : (s : WireState) → old ≡ Some s → 0 < length s.waiting → 0 < n
  pub state : new ≡ told_received old n

-- whatever a receive answers, a wire that told nothing tells nothing, and the link is as it was
pub record KeepsLink (old new : Option WireState) : Type 0 where
  pub untold : old ≡ None → new ≡ None
  pub link : (s now : WireState) → old ≡ Some s → new ≡ Some now → now.at ≡ s.at

-- a steady wire that tells has room for so many bytes
pub record HasRoom (told : Option WireState) (steady : Bool) (n : ℕ) : Type 0 where
  pub state : WireState
  pub told_is : told ≡ Some state
  pub is_steady : steady ≡ true
  pub room : length state.waiting + n ≤ most_waiting

-- a steady wire that tells has an answer
pub record AnswerWaits (told : Option WireState) (steady : Bool) : Type 0 where
  pub state : WireState
  pub told_is : told ≡ Some state
  pub is_steady : steady ≡ true
  pub waits : 0 < length state.waiting

-- the board that a cable over a wire tells: the session is open, and no answer waits
abbrev pub is_none : List ℕ → Bool
is_none [] = true
is_none (a ∷ more) = false

abbrev pub is_in_step : WireState → Bool
is_in_step s = is_open s.at.link.state && is_none s.waiting

abbrev pub board_in : WireState → Option (List Card)
board_in s = if is_in_step s then Some s.at.board else None

abbrev pub told_board : Option WireState → Option (List Card)
told_board None = None
told_board (Some s) = board_in s

-- a wire over which a cable never fails: it tells, it is steady, the session is open, and no answer waits
pub record IsGoodWire (told : Option WireState) (steady : Bool) : Type 0 where
  pub state : WireState
  pub told_is : told ≡ Some state
  pub is_steady : steady ≡ true
  pub in_step : is_in_step state ≡ true

-- the first waiting answer was received
pub record HasGiven (old : Option WireState) (answer : ℕ) (new : Option WireState) : Type 0 where
  pub oldest : (s : WireState) → old ≡ Some s → slice_get s.waiting 0 ≡ Some answer
  pub state : new ≡ told_received old 1

-- the bytes of one clock with these values at TMS and TDI
abbrev pub bytes_of_clock : Bool → Bool → List ℕ
bytes_of_clock tms tdi = bytes_of_input (record { tms = tms; tdi = tdi })

-- one clock over a wire, with this TDO
pub record IsClockedOver (old : Option WireState) (tms tdi tdo : Bool) (new : Option WireState) : Type 0 where
  pub seen : (cs : List Card) → told_board old ≡ Some cs → tdo ≡ board_tdo cs tdi
  pub cards : told_board new ≡ option_map (λ cs. board_step cs tms tdi) (told_board old)

-- clocks over a wire, with exactly these inputs
pub record IsShiftedOver (old : Option WireState) (inputs : List Input) (clocks : List Clock) (new : Option WireState) : Type 0 where
  pub went_in : map input_of clocks ≡ inputs
  pub seen : (cs : List Card) → told_board old ≡ Some cs → clocks ≡ clocks_of cs inputs
  pub cards : told_board new ≡ option_map (λ cs. board_after cs inputs) (told_board old)

-- What a clock over a wire does, by its result: it was made with this TDO, its bytes went and its digit came; or a call
-- among these failed.
pub record HasClocked {W : Type 0} (told : W → Option WireState) (carried : Carrying W) (old : W) (tms tdi tdo : Bool)
    (new : W) : Type 0 where
  pub over : IsClockedOver (told old) tms tdi tdo (told new)
  pub went : carried old (bytes_of_clock tms tdi) (digit_of tdo ∷ []) new

abbrev pub ClockOver : {W E : Type 0} → (W → Option WireState) → Carrying W → W → Bool → Bool → Result Bool E → W → Type 0
ClockOver told carried old tms tdi (Ok tdo) new = HasClocked told carried old tms tdi tdo new
ClockOver told carried old tms tdi (Err e) new = HasBrokenAmong carried old (bytes_of_clock tms tdi) new

-- What clocks over a wire do: this is the number of their TDO bits, their bytes went and their digits came; or a call
-- among these failed.
pub record HasShiftedOver {W : Type 0} (told : W → Option WireState) (carried : Carrying W) (old : W) (inputs : List Input)
    (tdo : ℕ) (new : W) : Type 0 where
  pub clocks : List Clock
  pub over : IsShiftedOver (told old) inputs clocks (told new)
  pub bits : tdo ≡ number_of (tdos clocks)
  pub went : carried old (bytes_of_inputs inputs) (map digit_of (tdos clocks)) new

abbrev pub ShiftOver : {W E : Type 0} → (W → Option WireState) → Carrying W → W → List Input → Result ℕ E → W → Type 0
ShiftOver told carried old inputs (Ok tdo) new = HasShiftedOver told carried old inputs tdo new
ShiftOver told carried old inputs (Err e) new = HasBrokenAmong carried old (bytes_of_inputs inputs) new
