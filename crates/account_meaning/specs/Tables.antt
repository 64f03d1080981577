-- What a table of turns tells of a program.
use Rattle.std.specs.Prelude.{◌≡◌, ℕ, List}
use Rattle.stapl_meaning.specs.Scopes.{Played}
use Rattle.scan_accounts.specs.MadeTurns.{scans_at}
use Rattle.account_lines.specs.declared.lines.TurnPlace.{TurnPlace}
use Rattle.account_plays.specs.AccountedRuns.{said_in}

-- it tells of each piece whether its statement scans
abbrev pub TellsScans : Played → List TurnPlace → Type 0
TellsScans program table = (i : ℕ) → (said_in table i).scans ≡ scans_at program i
