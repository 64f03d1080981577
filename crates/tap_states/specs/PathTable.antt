-- The code's table of paths. No definition of the path stands on it: that what it holds are the paths is a law, and the
-- contract of `Tap::path`.
use Rattle.std.specs.Prelude.{◌+◌, ◌*◌, Bool, List, slice_index_or}
use Rattle.tap_states.specs.declared.Tap.{Tap}
use Rattle.tap_states.specs.declared.Path.{Path}
use Rattle.tap_states.specs.declared.paths.TheConstants.{PATHS}
use Rattle.tap_states.specs.Tap.{tap_number}
use Rattle.tap_states.specs.Path.{path_bits}

-- the row of the table for two states
abbrev pub path_row : Tap → Tap → Path
path_row from to = slice_index_or PATHS (tap_number from * 16 + tap_number to) (record { len = 0; bits = 0 })

-- the TMS values of that row
abbrev pub path_in_table : Tap → Tap → List Bool
path_in_table from to = path_bits (path_row from to)
