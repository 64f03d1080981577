-- The lines of an account, of values that a program has. The format is this profile's.
use Rattle.std.specs.Prelude.{ℕ, List}
use Rattle.scan_accounts.specs.ShiftRuns.{ShiftRun}
use Rattle.scan_accounts.specs.Accounts.{Account}
use Rattle.scan_accounts.specs.AccountTexts.{run_line}
use Rattle.account_lines.specs.declared.lines.TurnPlace.{TurnPlace}
use Rattle.account_lines.specs.declared.lines.Sums.{Sums}

-- the line of a run of the turn of a piece
abbrev pub turn_run_line : TurnPlace → ShiftRun → List ℕ
turn_run_line turn run = run_line turn.piece turn.line turn.scans run

-- the sums as an account
abbrev pub account_in : Sums → Account
account_in sums = record {
  turns = sums.turns;
  clocks = sums.clocks;
  usec = sums.usec;
  ir_scans = sums.ir_scans;
  dr_scans = sums.dr_scans;
}
