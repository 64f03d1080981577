-- Counts of faults that rise exactly if a call fails. The rules are this profile's.
use Rattle.std.specs.Prelude.{◌≡◌, ℕ, Result, OnOk}
use Rattle.tool_io.specs.Causes.{CountCause}

-- a count stands as it stood
pub record CountStill (before now : ℕ) (last_before last_now : Type 0) : Type 0 where
  pub same : now ≡ before
  pub last : last_now → last_before

-- A failure has its cause in the count, and the count rises with nothing else.
pub record CountsExactly {T E : Type 0} (before now : ℕ) (last_before last_now : Type 0) (result : Result T E) : Type 0 where
  pub cause : CountCause before now last_before last_now result
  pub calm : OnOk result (CountStill before now last_before last_now)
