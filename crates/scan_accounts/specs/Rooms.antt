-- The room that the runs of one turn need: how many bits they have together, and how many runs there are. Source:
-- JESD71, statements, IRSCAN, DRSCAN and STATE.
use Rattle.std.specs.Prelude.{ℕ, ◌+◌, ◌≤◌, max, true, List, [], ◌∷◌, length}
use Rattle.dev_card.specs.Padding.{BaseLengths}
use Rattle.stapl_syntax.specs.Trees.{BodyTree, if_then, state_list, StmtTree}
use Rattle.scan_accounts.specs.ShiftRuns.{ShiftRun}
use Rattle.scan_accounts.specs.Accounts.{most_bits}

-- how many bits in these runs have together
abbrev pub bits_of : List ShiftRun → ℕ
bits_of [] = 0
bits_of (run ∷ runs) = length run.bits_in + bits_of runs

-- these runs fit into a room for so many bits together, and for so many runs
pub record FitIn (most_together most_runs : ℕ) (runs : List ShiftRun) : Type 0 where
  pub together : bits_of runs ≤ most_together
  pub few : length runs ≤ most_runs

-- how many states a STATE lists, or an IF over one; no other statement lists any
abbrev pub states_in : BodyTree → ℕ
states_in (state_list states) = length states
states_in (if_then e body) = states_in body
states_in _ = 0

-- the most of these in any statement
abbrev pub most_states : List StmtTree → ℕ
most_states [] = 0
most_states (st ∷ rest) = max (states_in st.body) (most_states rest)

-- The most bits of the runs of one turn together, with base padding, of a program whose statements list at most so many
-- states; and the most runs. A scan has one run, and a STATE has one bit for each of its states at most.
abbrev pub turn_bits : BaseLengths → ℕ → ℕ
turn_bits base states = most_bits true + (base.ir_pre + base.ir_post + (base.dr_pre + base.dr_post)) + states

abbrev pub turn_runs : ℕ → ℕ
turn_runs states = states + 1
