-- What is asked of a clock and of a scan.
use Rattle.std.proofs.Common.{◌≡◌, ◌≢◌, Bool, true, false, List, ◌∷◌, length, refl, sym, ◌∙◌, subst}
use Rattle.std.proofs.lemmas.Bool.{false≢true}
use Rattle.tap_states.specs.declared.Tap.{Tap}
use Rattle.tap_states.specs.declared.Tap.TheVariants as taps
use Rattle.tap_states.specs.declared.Tap.TheVariants.{DrShift, IrCapture, IrShift}
use Rattle.tap_states.specs.Tap.{next_of}
use Rattle.tap_states.specs.Path.{path_of}
use Rattle.dev_card.specs.Card.{Card}
use Rattle.dev_card.specs.Line.{pause_state}
use Rattle.dev_card.specs.Padding.{program_bits}
use Rattle.dev_card.specs.Clocks.{at_shift}
use Rattle.dev_card.specs.Scans.{BoardScan}
use Rattle.dev_card.specs.Sound.{register_lengths}
use Rattle.padded_plays.specs.QuietClocks.{is_scan_state, IsQuietWalk, IsQuietScan}

other_state : (to : Tap) → to ≢ DrShift → to ≢ IrCapture → to ≢ IrShift → is_scan_state to ≡ false
other_state taps.Reset a b c = refl
other_state taps.Idle a b c = refl
other_state taps.DrSelect a b c = refl
other_state taps.DrCapture a b c = refl
other_state taps.DrShift a b c = absurd (a refl)
other_state taps.DrExit1 a b c = refl
other_state taps.DrPause a b c = refl
other_state taps.DrExit2 a b c = refl
other_state taps.DrUpdate a b c = refl
other_state taps.IrSelect a b c = refl
other_state taps.IrCapture a b c = absurd (b refl)
other_state taps.IrShift a b c = absurd (c refl)
other_state taps.IrExit1 a b c = refl
other_state taps.IrPause a b c = refl
other_state taps.IrExit2 a b c = refl
other_state taps.IrUpdate a b c = refl

pub clock_is_quiet : (at : Tap) (tms : Bool) (rest : List Bool) → next_of at tms ≢ DrShift → next_of at tms ≢ IrCapture → next_of at tms ≢ IrShift →
    IsQuietWalk (next_of at tms) rest → IsQuietWalk at (tms ∷ rest)
clock_is_quiet at tms rest a b c quiet = (other_state (next_of at tms) a b c, quiet)

pub instruction_is_quiet : (loaded : Bool) (at : Tap) (alone : List Card) (s : BoardScan) → s.ir ≡ true →
    length (program_bits s.paddings s.bits) ≡ register_lengths true (at_shift at true alone) →
    IsQuietWalk (pause_state true) (path_of (pause_state true) s.stop) → IsQuietScan loaded at alone s
instruction_is_quiet loaded at alone s ir long quiet = record {
  as_long = subst (λ (b : Bool). length (program_bits s.paddings s.bits) ≡ register_lengths b (at_shift at b alone)) (sym ir) long;
  loaded_before = λ e. absurd (false≢true (sym e ∙ ir));
  quiet_stop = subst (λ (b : Bool). IsQuietWalk (pause_state b) (path_of (pause_state b) s.stop)) (sym ir) quiet;
}

pub data_is_quiet : (at : Tap) (alone : List Card) (s : BoardScan) → s.ir ≡ false →
    length (program_bits s.paddings s.bits) ≡ register_lengths false (at_shift at false alone) →
    IsQuietWalk (pause_state false) (path_of (pause_state false) s.stop) → IsQuietScan true at alone s
data_is_quiet at alone s dr long quiet = record {
  as_long = subst (λ (b : Bool). length (program_bits s.paddings s.bits) ≡ register_lengths b (at_shift at b alone)) (sym dr) long;
  loaded_before = λ e. refl;
  quiet_stop = subst (λ (b : Bool). IsQuietWalk (pause_state b) (path_of (pause_state b) s.stop)) (sym dr) quiet;
}
