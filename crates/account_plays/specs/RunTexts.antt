-- The text of the runs of a turn, and where the bits stand that are said of a run.
use Rattle.std.specs.Prelude.{◌≡◌, ◌≤◌, ◌+◌, ℕ, Bool, List, flat_map, length}
use Rattle.dev_card.specs.Padding.{BaseLengths}
use Rattle.scan_accounts.specs.ShiftRuns.{ShiftRun}
use Rattle.scan_accounts.specs.Accounts.{inner_bits, said_run}
use Rattle.account_lines.specs.declared.lines.TurnPlace.{TurnPlace}
use Rattle.account_lines.specs.RunLines.{turn_run_line}
use Rattle.bit_list.specs.Ranges.{taken}
use Rattle.run_cable.specs.declared.run_place.RunPlace.{RunPlace}
use Rattle.run_cable.specs.KeptRuns.{run_at}

-- the lines of the runs of a turn, of a turn that scans without base padding
abbrev pub runs_text : TurnPlace → BaseLengths → List ShiftRun → List ℕ
runs_text turn base runs = flat_map (λ run. turn_run_line turn (said_run base turn.scans run)) runs

-- the same of a run that is kept at a place of two lists
abbrev pub place_text : TurnPlace → BaseLengths → List Bool → List Bool → RunPlace → List ℕ
place_text turn base bits_in bits_out at = turn_run_line turn (said_run base turn.scans (run_at bits_in bits_out at))

-- A place lies within another one, and in each list that has this, its bits are those of the other one but for so many
-- at its beginning and at its end.
pub record IsTrimmed (at : RunPlace) (before after : ℕ) (said : RunPlace) : Type 0 where
  pub within : said.low + said.count ≤ at.low + at.count
  pub same : said.ir ≡ at.ir
  pub bits : (xs : List Bool) → at.low + at.count ≤ length xs →
      taken said.low said.count xs ≡ inner_bits before after (taken at.low at.count xs)

-- A place lies within that of a run, and in lists that have this, its run is what is said of that run.
pub record IsSaidAt (base : BaseLengths) (scans : Bool) (at said : RunPlace) : Type 0 where
  pub inside : said.low + said.count ≤ at.low + at.count
  pub is : (bits_in bits_out : List Bool) → at.low + at.count ≤ length bits_in → at.low + at.count ≤ length bits_out →
      run_at bits_in bits_out said ≡ said_run base scans (run_at bits_in bits_out at)
