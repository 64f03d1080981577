-- What a call does to a cable: the signals that were made, the board that the cable tells, its counts of faults, and
-- what is broken of it. A cable that tells its board is clocked as the board is (IEEE 1149.1, test access port); counts
-- and breakages are this profile's.
use Rattle.std.specs.Prelude.{◌≡◌, ◌+◌, ◌++◌, ◌⊎◌, ℕ, Bool, true, false, List, [], ◌∷◌, map, Option, None, Some, Result, Ok, Err, OnOk, OnErr, ◌≢◌}
use Rattle.std.specs.Option.{option_map}
use Rattle.tool_io.specs.Causes.{CountKept, CountRose}
use Rattle.dev_card.specs.Card.{Card}
use Rattle.base.specs.Bits.{number_of}
use Rattle.dev_card.specs.Board.{board_tdo, board_step, board_after, clocks_of, tdos, Clock, Input}

-- what is broken of a cable: nothing, the line to the devices, or the lines in which its signals are written
pub data Breakage : Type 0 where
  whole : Breakage
  line : Breakage
  pins : Breakage

-- nothing is broken where a test holds, and the line elsewhere
abbrev pub whole_if : Bool → Breakage
whole_if true = whole
whole_if false = line

-- the count of one part was kept, and where this part is broken now, the count rose or stands at its last value
pub record PartCause (part : Breakage) (before now : ℕ) (last_before last_now : Type 0)
    (broken_now : Breakage) : Type 0 where
  pub kept : CountKept before now last_before last_now
  pub broke : broken_now ≡ part → CountRose before now last_now

-- the same of a cable before and after a call
abbrev pub HasPartCause : {C : Type 0} → Breakage → (C → ℕ) → (C → Type 0) → (C → Breakage) → C → C → Type 0
HasPartCause part faults is_last breakage before now =
    PartCause part (faults before) (faults now) (is_last before) (is_last now) (breakage now)

-- What a call keeps of a cable, by its result: the cable is whole after it, or broken if the call failed, and the
-- counts of both parts are kept, each with its cause.
pub record CableKept {T E : Type 0} (line_before line_now : ℕ) (line_last_before line_last_now : Type 0)
    (pins_before pins_now : ℕ) (pins_last_before pins_last_now : Type 0) (broken_now : Breakage)
    (result : Result T E) : Type 0 where
  pub unbroken : OnOk result (broken_now ≡ whole)
  pub broken : OnErr result (broken_now ≢ whole)
  pub line_cause : PartCause line line_before line_now line_last_before line_last_now broken_now
  pub pins_cause : PartCause pins pins_before pins_now pins_last_before pins_last_now broken_now

-- the same of a cable before and after the call
abbrev pub IsCableKept : {C T E : Type 0} → (C → ℕ) → (C → Type 0) → (C → ℕ) → (C → Type 0) → (C → Breakage) → C → C →
    Result T E → Type 0
IsCableKept line_faults is_line_last pin_faults is_pin_last breakage old new result =
    CableKept (line_faults old) (line_faults new) (is_line_last old) (is_line_last new) (pin_faults old)
    (pin_faults new) (is_pin_last old) (is_pin_last new) (breakage new) result

-- the count of a cable without more is the sum of its two, which stands at its last value where one of them does
abbrev pub cable_faults : {C : Type 0} → (C → ℕ) → (C → ℕ) → C → ℕ
cable_faults line_faults pin_faults cable = line_faults cable + pin_faults cable

abbrev pub IsCableLast : {C : Type 0} → (C → Type 0) → (C → Type 0) → C → Type 0
IsCableLast is_line_last is_pin_last cable = is_line_last cable ⊎ is_pin_last cable

-- what went in at a clock
abbrev pub input_of : Clock → Input
input_of k = record { tms = k.tms; tdi = k.tdi }

-- What goes over a cable: a clock, a wait of so many microseconds, or the frequency of the clocks that follow, in
-- hertz, where 0 states none (this profile's rule).
pub data Signal : Type 0 where
  Pulses : (clock : Clock) → Signal
  Waits : (usec : ℕ) → Signal
  Tunes : (hertz : ℕ) → Signal

-- clocks as signals, and the clocks among signals
abbrev pub pulsed : List Clock → List Signal
pulsed clocks = map Pulses clocks

abbrev pub clocks_in : List Signal → List Clock
clocks_in [] = []
clocks_in (Pulses k ∷ signals) = k ∷ clocks_in signals
clocks_in (Waits n ∷ signals) = clocks_in signals
clocks_in (Tunes n ∷ signals) = clocks_in signals

-- One clock was made, with this TDO: where the board is told, it is the board's TDO before the clock, and the board is
-- stepped.
pub record IsClocked {C : Type 0} (board : C → Option (List Card)) (makes : C → List Signal → C → Type 0) (old new : C)
    (tms tdi tdo : Bool) : Type 0 where
  pub made : makes old (Pulses (record { tms = tms; tdi = tdi; tdo = tdo }) ∷ []) new
  pub seen : (cs : List Card) → board old ≡ Some cs → tdo ≡ board_tdo cs tdi
  pub cards : board new ≡ option_map (λ cs. board_step cs tms tdi) (board old)

-- One signal that is no clock was made, and the board is as it was.
pub record IsSignalled {C : Type 0} (board : C → Option (List Card)) (makes : C → List Signal → C → Type 0)
    (old new : C) (signal : Signal) : Type 0 where
  pub made : makes old (signal ∷ []) new
  pub cards : board new ≡ board old

-- It was made or not, and the board is as it was.
pub record IsSignalledOrNot {C : Type 0} (board : C → Option (List Card)) (makes : C → List Signal → C → Type 0)
    (old new : C) (signal : Signal) : Type 0 where
  pub made : makes old [] new ⊎ makes old (signal ∷ []) new
  pub cards : board new ≡ board old

-- A call that failed made clocks with these inputs. If the board was told, they are its clocks; if it is told still, it
-- is the one after them. After a failure a cable need not tell its board any more, but one that told nothing tells
-- nothing.
pub record HasBrokenOff {C : Type 0} (board : C → Option (List Card)) (makes : C → List Signal → C → Type 0)
    (old new : C) (inputs : List Input) : Type 0 where
  pub clocks : List Clock
  pub made : makes old (pulsed clocks) new
  pub went_in : map input_of clocks ≡ inputs
  pub seen : (cs : List Card) → board old ≡ Some cs → clocks ≡ clocks_of cs inputs
  pub cards : (cs after : List Card) → board old ≡ Some cs → board new ≡ Some after → after ≡ board_after cs inputs
  pub untold : board old ≡ None → board new ≡ None

-- No clock was made, or this one.
abbrev pub IsClockedOrNot : {C : Type 0} → (C → Option (List Card)) → (C → List Signal → C → Type 0) → C → C →
    Bool → Bool → Type 0
IsClockedOrNot board makes old new tms tdi =
    HasBrokenOff board makes old new []
    ⊎ HasBrokenOff board makes old new (record { tms = tms; tdi = tdi } ∷ [])

-- These clocks were made, with exactly these inputs. Where the board is told, they are the board's clocks, and the
-- board is the one after them.
pub record HasMadeClocks {C : Type 0} (board : C → Option (List Card)) (makes : C → List Signal → C → Type 0)
    (old new : C) (inputs : List Input) (clocks : List Clock) : Type 0 where
  pub made : makes old (pulsed clocks) new
  pub went_in : map input_of clocks ≡ inputs
  pub seen : (cs : List Card) → board old ≡ Some cs → clocks ≡ clocks_of cs inputs
  pub cards : board new ≡ option_map (λ cs. board_after cs inputs) (board old)

-- Some clocks were made, with exactly these inputs.
pub record HasMade {C : Type 0} (board : C → Option (List Card)) (makes : C → List Signal → C → Type 0) (old new : C)
    (inputs : List Input) : Type 0 where
  pub clocks : List Clock
  pub made : HasMadeClocks board makes old new inputs clocks

-- Clocks were made with exactly these inputs, and this is the number of the TDO bits before them.
pub record HasShifted {C : Type 0} (board : C → Option (List Card)) (makes : C → List Signal → C → Type 0) (old new : C)
    (inputs : List Input) (tdo : ℕ) : Type 0 where
  pub clocks : List Clock
  pub made : HasMadeClocks board makes old new inputs clocks
  pub bits : tdo ≡ number_of (tdos clocks)

-- Clocks were made with exactly a front of these inputs, and then a call failed.
pub record HasMadeFront {C : Type 0} (board : C → Option (List Card)) (makes : C → List Signal → C → Type 0)
    (old new : C) (inputs : List Input) : Type 0 where
  pub front : List Input
  pub rest : List Input
  pub parts : inputs ≡ front ++ rest
  pub made : HasBrokenOff board makes old new front

-- What a call does that makes one clock, by its result: it was made, with this TDO, or it was made or not.
abbrev pub ClockAnswer : {C E : Type 0} → (C → Option (List Card)) → (C → List Signal → C → Type 0) → C → C →
    Bool → Bool → Result Bool E → Type 0
ClockAnswer board makes old new tms tdi (Ok tdo) = IsClocked board makes old new tms tdi tdo
ClockAnswer board makes old new tms tdi (Err e) = IsClockedOrNot board makes old new tms tdi

-- What a call does that makes a block of clocks, by its result: they were made, with the number of their TDO bits, or
-- a front of them was made.
abbrev pub BlockAnswer : {C E : Type 0} → (C → Option (List Card)) → (C → List Signal → C → Type 0) → C → C →
    List Input → Result ℕ E → Type 0
BlockAnswer board makes old new inputs (Ok tdo) = HasShifted board makes old new inputs tdo
BlockAnswer board makes old new inputs (Err e) = HasMadeFront board makes old new inputs

-- What a call does that makes one signal that is no clock, by its result: it was made, or it was made or not.
abbrev pub SignalAnswer : {C T E : Type 0} → (C → Option (List Card)) → (C → List Signal → C → Type 0) → C → C →
    Signal → Result T E → Type 0
SignalAnswer board makes old new signal (Ok x) = IsSignalled board makes old new signal
SignalAnswer board makes old new signal (Err e) = IsSignalledOrNot board makes old new signal

-- what holds of the board, where it is told
abbrev pub WhereTold : Option (List Card) → (List Card → Type 0) → Type 0
WhereTold board P = (cs : List Card) → board ≡ Some cs → P cs
