-- What has its room from the beginning: the record stack, and the bits of scans.
use Rattle.std.specs.Prelude.{ℕ, Bool, List, ◌≤◌, length}
use Rattle.stapl_meaning.specs.declared.records.Record.{Record}
use Rattle.stapl_meaning.specs.Scans.{scan_limit}

-- the records of a stack, the topmost last
pub record Stacked : Type 0 where
  pub items : List Record

-- so many bits of a list are in use, which has room for the longest scan
pub record IsScanRoom (count : ℕ) (bits : List Bool) : Type 0 where
  pub inside : count ≤ scan_limit
  pub room : scan_limit ≤ length bits
