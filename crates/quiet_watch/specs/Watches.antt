-- A watch over a board: what it knows, and what a clock does to it. It is clocked by plays whose scans have one bit of
-- base padding before all else, a 1, which no walk has; by that bit it tells a scan from a walk through the shift
-- state, and it takes the bit off again before it clocks the board. So the board is clocked as by the play without base
-- padding. The watch is this profile's.
use Rattle.std.specs.Prelude.{◌≡◌, ◌==◌, ◌&&◌, ◌||◌, ◌+◌, ℕ, Bool, true, false, if◌then◌else◌, List, [], ◌∷◌, Option, Some, None}
use Rattle.tap_states.specs.declared.Tap.{Tap}
use Rattle.tap_states.specs.declared.Tap.TheVariants.{DrShift, IrShift, IrCapture}
use Rattle.tap_states.specs.Tap.{next_of}
use Rattle.dev_card.specs.declared.desc.Desc.{Desc}
use Rattle.dev_card.specs.Card.{Card, selected_by, selected_length}
use Rattle.dev_card.specs.Board.{Input, board_tdo, board_step}
use Rattle.dev_card.specs.Padding.{BaseLengths}
use Rattle.scan_paths.specs.Cables.{Signal, Pulses, Waits, Tunes}
use Rattle.padded_plays.specs.QuietClocks.{is_scan_state, loaded_at}
use Rattle.padded_plays.specs.declared.unquiet.Unquiet.{Unquiet}
use Rattle.padded_plays.specs.declared.unquiet.Unquiet.TheVariants.{NotLoaded, ScanState}
use Rattle.padded_plays.specs.Reasons.{length_reason}
use Rattle.quiet_watch.specs.declared.counting.Counting.{Counting}

-- the base padding by which a scan is told
abbrev pub marks : BaseLengths
marks = record { ir_pre = 1; ir_post = 0; dr_pre = 1; dr_post = 0 }

-- What a watch knows: the descriptions of the devices, their cards, the state of their controllers, whether an
-- instruction was loaded, the scan that is shifted, if one is, and the first that it saw that is not quiet.
pub record Watched : Type 0 where
  pub descs : List Desc
  pub cards : List Card
  pub tap : Tap
  pub loaded : Bool
  pub scan : Option Counting
  pub seen : Option Unquiet

abbrev pub is_instruction_shift : Tap → Bool
is_instruction_shift IrShift = true
is_instruction_shift _ = false

abbrev pub is_shift_state : Tap → Bool
is_shift_state IrShift = true
is_shift_state DrShift = true
is_shift_state _ = false

-- the length of the register of a device that scans go through, true for the instruction register, by its description
abbrev pub length_by : Bool → Desc → Card → ℕ
length_by true d c = d.ir_len
length_by false d c = selected_length (selected_by d c.instruction)

abbrev pub lengths_by : Bool → List Desc → List Card → ℕ
lengths_by ir [] cs = 0
lengths_by ir (d ∷ ds) [] = 0
lengths_by ir (d ∷ ds) (c ∷ cs) = length_by ir d c + lengths_by ir ds cs

-- the first of two that is there
abbrev pub or_else : Option Unquiet → Option Unquiet → Option Unquiet
or_else (Some why) later = Some why
or_else None later = later

-- a clock of a walk from a state into which only scans lead shows that a walk has led there
abbrev pub walk_seen : Tap → Bool → Option Unquiet
walk_seen DrShift tms = Some ScanState
walk_seen IrShift tms = Some ScanState
walk_seen IrCapture true = Some ScanState
walk_seen _ tms = None

-- what a scan of so many bits shows, true for the instruction registers
abbrev pub scan_seen : Bool → Bool → ℕ → ℕ → Option Unquiet
scan_seen ir loaded shifted registers =
    if shifted == registers then (if ir || loaded then None else Some NotLoaded)
    else Some (length_reason ir shifted registers)

-- a clock outside scans
abbrev pub walked : Watched → Bool → Bool → Watched
walked w tms tdi = record {
  descs = w.descs;
  cards = board_step w.cards tms tdi;
  tap = next_of w.tap tms;
  loaded = loaded_at (next_of w.tap tms) w.loaded;
  scan = None;
  seen = or_else w.seen (walk_seen w.tap tms);
}

-- the bit by which a scan is told: the board is not clocked
abbrev pub marked : Watched → Watched
marked w =
    record w { scan = Some (record { shifted = 0; registers = lengths_by (is_instruction_shift w.tap) w.descs w.cards }) }

-- a shift clock of a scan of which so many bits have gone in with it, true for the last one
abbrev pub shifted_by : Watched → Counting → Bool → Bool → Watched
shifted_by w c false tdi = record {
  descs = w.descs;
  cards = board_step w.cards false tdi;
  tap = next_of w.tap false;
  loaded = w.loaded;
  scan = Some c;
  seen = w.seen;
}
shifted_by w c true tdi = record {
  descs = w.descs;
  cards = board_step w.cards true tdi;
  tap = next_of w.tap true;
  loaded = is_instruction_shift w.tap || w.loaded;
  scan = None;
  seen = or_else w.seen (scan_seen (is_instruction_shift w.tap) w.loaded c.shifted c.registers);
}

-- one clock of the watch, by the scan that is shifted, if one is
abbrev pub step_by : Option Counting → Watched → Bool → Bool → Watched
step_by None w tms tdi = if tdi && is_shift_state w.tap then marked w else walked w tms tdi
step_by (Some c) w tms tdi = shifted_by w (record { shifted = c.shifted + 1; registers = c.registers }) tms tdi

abbrev pub tdo_by : Option Counting → Watched → Bool → Bool
tdo_by None w tdi = if tdi && is_shift_state w.tap then false else board_tdo w.cards tdi
tdo_by (Some c) w tdi = board_tdo w.cards tdi

abbrev pub watch_step : Watched → Bool → Bool → Watched
watch_step w tms tdi = step_by w.scan w tms tdi

-- TDO before the clock
abbrev pub watch_tdo : Watched → Bool → Bool
watch_tdo w tdi = tdo_by w.scan w tdi

-- the watch after clocks with these inputs, and what it answers at them
abbrev pub watch_after : Watched → List Input → Watched
watch_after w [] = w
watch_after w (i ∷ is) = watch_after (watch_step w i.tms i.tdi) is

abbrev pub watch_answers : Watched → List Input → List Bool
watch_answers w [] = []
watch_answers w (i ∷ is) = watch_tdo w i.tdi ∷ watch_answers (watch_step w i.tms i.tdi) is

-- These signals lead from what one watch knows to what another knows: each clock has the TDO that the watch answers.
abbrev pub WatchFollows : Watched → List Signal → Watched → Type 0
WatchFollows w [] v = v ≡ w
WatchFollows w (Pulses k ∷ signals) v = (k.tdo ≡ watch_tdo w k.tdi) × WatchFollows (watch_step w k.tms k.tdi) signals v
WatchFollows w (Waits n ∷ signals) v = WatchFollows w signals v
WatchFollows w (Tunes n ∷ signals) v = WatchFollows w signals v

-- a walk that ends in a state into which only scans lead
abbrev pub ends_in : Tap → Option Unquiet
ends_in at = if is_scan_state at then Some ScanState else None

-- what a watch has seen after whole deeds
abbrev pub seen_by : Watched → Option Unquiet
seen_by w = or_else w.seen (ends_in w.tap)
