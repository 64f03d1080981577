-- Each example is needed: it fails at one point, and its codes differ.
use Rattle.std.proofs.Common.{◌≡◌, ℤ, pos, [], ◌∷◌, true, false, refl}
use Rattle.stapl_meaning.specs.Scopes.{Played}
use Rattle.stapl_meaning.specs.Plays.{ending_of}
use Rattle.padded_plays.specs.declared.unquiet.Unquiet.{Unquiet}
use Rattle.padded_plays.specs.declared.unquiet.Unquiet.TheVariants.{Instruction, Data, NotLoaded, ScanState}
use Rattle.padded_plays.specs.QuietPlays.{deeds_of_play, play_alone, padded_play}
use Rattle.quiet_laws.specs.Needs.{IsNeeded, FailAtOnePoint, only_procedure}
use Rattle.quiet_laws.specs.Examples.{part, neighbour, enough, too_long_instruction, too_long_data, without_instruction, instruction_reset}
use Rattle.quiet_laws.specs.Examples.{through_capture, through_instruction_shift, through_data_shift, stop_behind_capture}
use Rattle.quiet_laws.proofs.Endings.{has_code, codes_differ}
use Rattle.quiet_laws.proofs.Good.{good_before, good_after}
use Rattle.quiet_laws.proofs.Points.{chain, instruction_point, data_point, first_point, reset_point, capture_point, instruction_shift_point, data_shift_point, stop_point}

module _ (program : Played) (why : Unquiet) (point : FailAtOnePoint chain (deeds_of_play program only_procedure enough chain) why) (code : ℤ) where
  -- with the neighbour nearer TDO
  pub needed_before : has_code code (ending_of (padded_play program only_procedure enough (neighbour ∷ []) (part ∷ []) []).outcome) ≡ true →
      has_code code (ending_of (play_alone program only_procedure enough (part ∷ [])).outcome) ≡ false →
      IsNeeded program enough (neighbour ∷ []) (part ∷ []) [] why
  needed_before is not = record { good = good_before; point = point; differs = codes_differ code _ _ is not }

  -- with the neighbour nearer TDI
  pub needed_after : has_code code (ending_of (padded_play program only_procedure enough [] (part ∷ []) (neighbour ∷ [])).outcome) ≡ true →
      has_code code (ending_of (play_alone program only_procedure enough (part ∷ [])).outcome) ≡ false →
      IsNeeded program enough [] (part ∷ []) (neighbour ∷ []) why
  needed_after is not = record { good = good_after; point = point; differs = codes_differ code _ _ is not }

pub long_instruction_needed : IsNeeded too_long_instruction enough (neighbour ∷ []) (part ∷ []) [] (Instruction 5 4)
long_instruction_needed = needed_before too_long_instruction (Instruction 5 4) instruction_point (pos 1) refl refl

pub long_data_needed : IsNeeded too_long_data enough (neighbour ∷ []) (part ∷ []) [] (Data 2 1)
long_data_needed = needed_before too_long_data (Data 2 1) data_point (pos 2) refl refl

pub first_needed : IsNeeded without_instruction enough (neighbour ∷ []) (part ∷ []) [] NotLoaded
first_needed = needed_before without_instruction NotLoaded first_point (pos 1) refl refl

pub reset_needed : IsNeeded instruction_reset enough (neighbour ∷ []) (part ∷ []) [] NotLoaded
reset_needed = needed_before instruction_reset NotLoaded reset_point (pos 1) refl refl

pub capture_needed : IsNeeded through_capture enough (neighbour ∷ []) (part ∷ []) [] ScanState
capture_needed = needed_before through_capture ScanState capture_point (pos 1) refl refl

pub instruction_shift_needed : IsNeeded through_instruction_shift enough [] (part ∷ []) (neighbour ∷ []) ScanState
instruction_shift_needed = needed_after through_instruction_shift ScanState instruction_shift_point (pos 0) refl refl

pub data_shift_needed : IsNeeded through_data_shift enough [] (part ∷ []) (neighbour ∷ []) ScanState
data_shift_needed = needed_after through_data_shift ScanState data_shift_point (pos 3) refl refl

pub stop_needed : IsNeeded stop_behind_capture enough (neighbour ∷ []) (part ∷ []) [] ScanState
stop_needed = needed_before stop_behind_capture ScanState stop_point (pos 1) refl refl
