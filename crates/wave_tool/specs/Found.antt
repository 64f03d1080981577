-- Waits, states and waves as the code has them.
use Rattle.std.specs.Prelude.{ℕ, List, [], ◌∷◌, map, Option, None, Some}
use Rattle.tap_states.specs.declared.Tap.{Tap}
use Rattle.wave_tool.specs.declared.possible.Possible.{Possible}
use Rattle.wave_tool.specs.declared.possible.Possible.TheVariants.{Each, One}
use Rattle.wave_tool.specs.declared.wave.Progress.{Progress}
use Rattle.wave_tool.specs.Items.{Item, Waited}
use Rattle.wave_tool.specs.States.{all_states}
use Rattle.wave_tool.specs.Waves.{Wave}

abbrev pub waits_found : Option ℕ → List Item
waits_found None = []
waits_found (Some usec) = Waited usec ∷ []

-- the states to which the clocks have led, one for each state before them
abbrev pub states_held : Possible → List Tap
states_held (Each states) = states
states_held (One state) = map (λ _. state) all_states

abbrev pub wave_held : Progress → Wave
wave_held held = record { time = held.time; levels = held.levels; states = states_held held.possible }
