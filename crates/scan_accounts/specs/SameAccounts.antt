-- What the accounts of two plays have in common, of which one is on a run of devices alone, and the other at its place
-- in a board.
use Rattle.std.specs.Prelude.{◌≡◌, false, [], map}
use Rattle.stapl_meaning.specs.Texts.{events_text}
use Rattle.scan_accounts.specs.MadeTurns.{MadePlay}
use Rattle.scan_accounts.specs.Accounts.{account_of}
use Rattle.scan_accounts.specs.AccountTexts.{CutText, turn_lines}

-- The lines of both are the same, turn by turn, and so are their sums, but for the count of clocks.
pub record IsSameAccount (padded alone : MadePlay) : Type 0 where
  pub first : events_text false [] padded.first ≡ events_text false [] alone.first
  pub lines : (cut : CutText) → map (turn_lines cut padded.base) padded.turns ≡ map (turn_lines cut alone.base) alone.turns
  pub sums : record (account_of padded) { clocks = (account_of alone).clocks } ≡ account_of alone
