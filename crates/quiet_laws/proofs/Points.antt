-- The points at which the examples are not quiet.
use Rattle.std.proofs.Common.{Bool, true, false, List, [], ◌∷◌, replicate, refl, sym, arith}
use Rattle.std.proofs.lemmas.Bool.{false≢true}
use Rattle.tap_states.specs.declared.Tap.{Tap}
use Rattle.tap_states.specs.declared.Tap.TheVariants.{Reset, Idle, DrShift, DrPause, IrShift, IrPause}
use Rattle.dev_card.specs.Scans.{BoardScan}
use Rattle.stapl_meaning.specs.Deeds.{Goes, Scans, Chain}
use Rattle.padded_plays.specs.declared.unquiet.Unquiet.TheVariants.{Instruction, Data, NotLoaded, ScanState}
use Rattle.padded_plays.specs.Reasons.{wrong_instruction, wrong_data, not_loaded, way_to_stop, move}
use Rattle.padded_plays.specs.QuietPlays.{first_chain, deeds_of_play, IsQuietDeed}
use Rattle.quiet_laws.specs.Needs.{FailAtOnePoint, only_procedure}
use Rattle.quiet_laws.specs.Examples.{part, enough, too_long_instruction, too_long_data, without_instruction, instruction_reset}
use Rattle.quiet_laws.specs.Examples.{through_capture, through_instruction_shift, through_data_shift, stop_behind_capture}
use Rattle.quiet_laws.proofs.Alone.{instruction_alone, data_alone, loading_alone, way_alone, move_alone}

abbrev pub chain : Chain
chain = first_chain (part ∷ [])

abbrev scan_of : Bool → List Bool → Tap → BoardScan
scan_of ir bits stop =
    record { ir = ir; paddings = record { base_pre = 0; pre = []; post = []; base_post = 0 }; bits = bits; stop = stop }

abbrev ones : BoardScan
ones = scan_of true (replicate 4 true) Idle

abbrev zero_bit : BoardScan
zero_bit = scan_of false (false ∷ []) Idle

ones_are_quiet : (loaded : Bool) → IsQuietDeed loaded chain (Scans ones)
ones_are_quiet loaded = record {
  as_long = refl;
  loaded_before = λ e. absurd (false≢true (sym e));
  quiet_stop = (refl, (refl, (refl, tt)));
}

pub instruction_point : FailAtOnePoint chain (deeds_of_play too_long_instruction only_procedure enough chain) (Instruction 5 4)
instruction_point =
    let s : BoardScan = scan_of true (false ∷ replicate 4 true) Idle in
    record {
      front = [];
      deed = Scans s;
      back = Scans zero_bit ∷ [];
      whole = refl;
      before = tt;
      fails = wrong_instruction s refl (λ e. absurd (omega arith));
      alone = instruction_alone _ _ s refl (refl, (refl, (refl, tt)));
      after = (record { as_long = refl; loaded_before = λ e. refl; quiet_stop = (refl, (refl, (refl, tt))) }, tt);
    }

pub data_point : FailAtOnePoint chain (deeds_of_play too_long_data only_procedure enough chain) (Data 2 1)
data_point =
    let s : BoardScan = scan_of false (false ∷ false ∷ []) Idle in
    record {
      front = Scans ones ∷ [];
      deed = Scans s;
      back = [];
      whole = refl;
      before = (ones_are_quiet false, tt);
      fails = wrong_data s refl (λ e. absurd (omega arith));
      alone = data_alone _ _ s refl refl (refl, (refl, (refl, tt)));
      after = tt;
    }

pub first_point : FailAtOnePoint chain (deeds_of_play without_instruction only_procedure enough chain) NotLoaded
first_point = record {
  front = [];
  deed = Scans zero_bit;
  back = [];
  whole = refl;
  before = tt;
  fails = not_loaded zero_bit refl refl;
  alone = loading_alone _ _ zero_bit refl refl (refl, (refl, (refl, tt)));
  after = tt;
}

pub reset_point : FailAtOnePoint chain (deeds_of_play instruction_reset only_procedure enough chain) NotLoaded
reset_point = record {
  front = Scans ones ∷ Goes Reset ∷ [];
  deed = Scans zero_bit;
  back = [];
  whole = refl;
  before = (ones_are_quiet false, ((refl, (refl, (refl, (refl, (refl, tt))))), tt));
  fails = not_loaded zero_bit refl refl;
  alone = loading_alone _ _ zero_bit refl refl (refl, (refl, (refl, tt)));
  after = tt;
}

-- No clock of these moves is quiet that leads into a state of scans.

pub capture_point : FailAtOnePoint chain (deeds_of_play through_capture only_procedure enough chain) ScanState
capture_point = record {
  front = Scans ones ∷ [];
  deed = Goes IrPause;
  back = Scans zero_bit ∷ [];
  whole = refl;
  before = (ones_are_quiet false, tt);
  fails = move IrPause (λ q. absurd (false≢true (sym q.1.1.0)));
  alone = move_alone _ _ IrPause;
  after = (record { as_long = refl; loaded_before = λ e. refl; quiet_stop = (refl, (refl, (refl, tt))) }, tt);
}

pub instruction_shift_point : FailAtOnePoint chain (deeds_of_play through_instruction_shift only_procedure enough chain) ScanState
instruction_shift_point = record {
  front = Scans (scan_of true (replicate 4 true) IrPause) ∷ [];
  deed = Goes IrShift;
  back = Goes IrPause ∷ Scans zero_bit ∷ [];
  whole = refl;
  before = (record { as_long = refl; loaded_before = λ e. absurd (false≢true (sym e)); quiet_stop = tt }, tt);
  fails = move IrShift (λ q. absurd (false≢true (sym q.1.0)));
  alone = move_alone _ _ IrShift;
  after = (
    (refl, (refl, tt)),
    (record { as_long = refl; loaded_before = λ e. refl; quiet_stop = (refl, (refl, (refl, tt))) }, tt),
  );
}

pub data_shift_point : FailAtOnePoint chain (deeds_of_play through_data_shift only_procedure enough chain) ScanState
data_shift_point = record {
  front = Scans (scan_of true (true ∷ false ∷ true ∷ false ∷ []) Idle) ∷ Scans (scan_of false (true ∷ true ∷ []) DrPause) ∷ [];
  deed = Goes DrShift;
  back = Goes DrPause ∷ Scans (scan_of false (false ∷ false ∷ []) DrPause) ∷ [];
  whole = refl;
  before = (
    record { as_long = refl; loaded_before = λ e. absurd (false≢true (sym e)); quiet_stop = (refl, (refl, (refl, tt))) },
    (record { as_long = refl; loaded_before = λ e. refl; quiet_stop = tt }, tt),
  );
  fails = move DrShift (λ q. absurd (false≢true (sym q.1.0)));
  alone = move_alone _ _ DrShift;
  after = ((refl, (refl, tt)), (record { as_long = refl; loaded_before = λ e. refl; quiet_stop = tt }, tt));
}

pub stop_point : FailAtOnePoint chain (deeds_of_play stop_behind_capture only_procedure enough chain) ScanState
stop_point =
    let s : BoardScan = scan_of false (false ∷ []) IrPause in
    record {
      front = Scans ones ∷ [];
      deed = Scans s;
      back = Scans zero_bit ∷ [];
      whole = refl;
      before = (ones_are_quiet false, tt);
      fails = way_to_stop s (λ q. absurd (false≢true (sym q.1.1.1.1.0)));
      alone = way_alone _ _ s refl (λ e. refl);
      after = (record { as_long = refl; loaded_before = λ e. refl; quiet_stop = (refl, (refl, (refl, tt))) }, tt);
    }
