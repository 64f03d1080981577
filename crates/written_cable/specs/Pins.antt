-- What a cable whose clocks are written stands over, and what calls do to it.
use Rattle.std.specs.Prelude.{◌≡◌, ◌≢◌, ℕ, Bool, true, false, List, Option}
use Rattle.std.specs.Borrow.{MutBor}
use Rattle.tap_states.specs.declared.Tap.{Tap}
use Rattle.dev_card.specs.Card.{Card}
use Rattle.dev_card.specs.FarEnds.{far_end}
use Rattle.dev_card.specs.Padding.{BaseLengths}
use Rattle.scan_paths.specs.Cables.{Signal, Breakage, whole, line, pins, cable_faults, IsCableLast}
use Rattle.scan_paths.specs.Scans.{lengths_of}
use Rattle.stapl_meaning.specs.declared.events.Event.{Event}
use Rattle.stapl_meaning.specs.Deeds.{Chain}
use Rattle.stapl_meaning.specs.Texts.{bytes_of, waiting}
use Rattle.written_cable.specs.Signals.{events_in}
use Rattle.written_cable.specs.Papers.{Shown, Puts, PutsFront, IsOverSame}
use Rattle.written_cable.specs.declared.pin_cable.PinCable.{PinCable}

abbrev pub cable_of : {C O : Type 0} → PinCable C O → C
cable_of port = port.cable.now

abbrev pub lines_of : {C O : Type 0} → PinCable C O → O
lines_of port = port.out.now

-- the state of the controllers
abbrev pub tap_of : {C O : Type 0} → PinCable C O → Tap
tap_of port = port.tap

-- the base padding of its scans
abbrev pub base_of : {C O : Type 0} → PinCable C O → BaseLengths
base_of port = lengths_of port.base

-- the digits that wait for their line
abbrev pub digits_of : {C O : Type 0} → PinCable C O → List ℕ
digits_of port = port.digits

abbrev pub writes_pins : {C O : Type 0} → PinCable C O → Bool
writes_pins port = port.pins

-- The line is broken where the cable under it is, and the pins where a line of text was torn off.
abbrev pub line_if : Bool → Breakage
line_if false = whole
line_if true = line

abbrev pub broken_line : Breakage → Bool → Breakage
broken_line whole failed = line_if failed
broken_line line failed = line
broken_line pins failed = line

abbrev pub broken_as : Bool → Breakage → Bool → Breakage
broken_as true inner failed = pins
broken_as false inner failed = broken_line inner failed

abbrev pub is_torn : {C O : Type 0} → PinCable C O → Bool
is_torn port = port.torn

abbrev pub port_breakage : {C O : Type 0} → (C → Breakage) → (O → Bool) → PinCable C O → Breakage
port_breakage breakage failed port = broken_as port.torn (breakage (cable_of port)) (failed (lines_of port))

-- the count of the line is that of the cable, and the count of the pins that of the lines
abbrev pub port_line_faults : {C O : Type 0} → (C → ℕ) → (C → ℕ) → PinCable C O → ℕ
port_line_faults line_faults pin_faults port = cable_faults line_faults pin_faults (cable_of port)

abbrev pub IsPortLineLast : {C O : Type 0} → (C → Type 0) → (C → Type 0) → PinCable C O → Type 0
IsPortLineLast is_line_last is_pin_last port = IsCableLast is_line_last is_pin_last (cable_of port)

abbrev pub port_pin_faults : {C O : Type 0} → (O → ℕ) → PinCable C O → ℕ
port_pin_faults faults port = faults (lines_of port)

abbrev pub IsPortPinLast : {C O : Type 0} → (O → Type 0) → PinCable C O → Type 0
IsPortPinLast is_last port = is_last (lines_of port)

-- it stands over the cable, and the lines, that a reference points to
abbrev pub IsOverCable : {C O R : Type 0} → PinCable C O → MutBor R → Type 0
IsOverCable port cable = port.cable.ghost_name ≡ cable.ghost_name

abbrev pub IsOverLines : {C O R : Type 0} → PinCable C O → MutBor R → Type 0
IsOverLines port out = port.out.ghost_name ≡ out.ghost_name

abbrev pub IsSameCable : {C O : Type 0} → PinCable C O → PinCable C O → Type 0
IsSameCable old new = new.cable.ghost_name ≡ old.cable.ghost_name

abbrev pub IsSameOut : {C O : Type 0} → PinCable C O → PinCable C O → Type 0
IsSameOut old new = new.out.ghost_name ≡ old.out.ghost_name

-- it stands over the same cable and the same lines, writes the same, and has the same base padding
pub record IsSamePort {C O : Type 0} (old new : PinCable C O) : Type 0 where
  pub cable : new.cable.ghost_name ≡ old.cable.ghost_name
  pub out : new.out.ghost_name ≡ old.out.ghost_name
  pub pins : writes_pins new ≡ writes_pins old
  pub base : base_of new ≡ base_of old

-- the chain at its end, with TDO bits that are still to be heard where no board is told
abbrev pub port_chain : {C O : Type 0} → (C → Option (List Card)) → PinCable C O → List Bool → Chain
port_chain board port heard = record { tap = tap_of port; base = base_of port; far = far_end (board (cable_of port)) heard }

-- Events are put wholly where nothing is broken afterwards, and else in part. A clock that the line answers with a
-- failure may be made, and has no digit.
module _ {C O : Type 0} (breakage : PinCable C O → Breakage) (shown : O → Shown) where
  -- The text of these events was put, but for the digits that wait.
  pub record PutsEvents (old : PinCable C O) (events : List Event) (new : PinCable C O) : Type 0 where
    pub was_whole : breakage old ≡ whole
    pub put : Puts shown (lines_of old) (bytes_of (writes_pins old) (digits_of old) events) (lines_of new)
    pub digits : digits_of new ≡ waiting (writes_pins old) (digits_of old) events

  -- A front of it was put; where something was broken before, nothing was.
  pub record PutsEventsFront (old : PinCable C O) (events : List Event) (new : PinCable C O) : Type 0 where
    pub front : PutsFront shown (lines_of old) (bytes_of (writes_pins old) (digits_of old) events) (lines_of new)
    pub still : breakage old ≢ whole → lines_of new ≡ lines_of old

  pub record HasPutEvents (old : PinCable C O) (events : List Event) (new : PinCable C O) : Type 0 where
    pub all : breakage new ≡ whole → PutsEvents old events new
    pub some : breakage new ≢ whole → PutsEventsFront old events new

  -- Signals were made on the cable, and their text was put.
  pub record HasMadePins (makes : C → List Signal → C → Type 0) (old : PinCable C O) (signals : List Signal)
      (new : PinCable C O) : Type 0 where
    pub same : IsSamePort old new
    pub tap : tap_of new ≡ tap_of old
    pub over : IsOverSame shown (lines_of old) (lines_of new)
    pub made : makes (cable_of old) signals (cable_of new)
    pub put : HasPutEvents old (events_in signals) new
