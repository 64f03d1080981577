-- To which state clocks lead, whatever state the controllers were in before the first. Source: IEEE 1149.1, TAP
-- controller state diagram.
use Rattle.std.specs.Prelude.{◌≡◌, ℕ, Bool, List, [], ◌∷◌, ◌++◌}
use Rattle.tap_states.specs.declared.Tap.{Tap}
use Rattle.tap_states.specs.declared.Tap.TheVariants.{Reset}
use Rattle.tap_states.specs.Path.{Leads, five_ones}
use Rattle.pin_lines.specs.PinLines.{input_of_pin}
use Rattle.wave_tool.specs.Items.{Item, Clocked, Waited}
use Rattle.wave_tool.specs.Waves.{first_wave, after_items}

-- TMS of each clock, in their order
abbrev pub tms_values : List Item → List Bool
tms_values [] = []
tms_values (Clocked digit ∷ items) = (input_of_pin digit).tms ∷ tms_values items
tms_values (Waited usec ∷ items) = tms_values items

-- the number of the state that the wave shows after clocks and waits
abbrev pub shown_after : List Item → ℕ
shown_after items = (after_items first_wave items).levels.state

-- from each state the values lead to this one
abbrev pub LeadFromEach : List Bool → Tap → Type 0
LeadFromEach values tap = (from : Tap) → Leads from values tap

-- five ones stand in a row among the values, and what follows them leads from Test-Logic-Reset to this state
pub record LeadsFromReset (values : List Bool) (tap : Tap) : Type 0 where
  pub front : List Bool
  pub rest : List Bool
  pub parts : values ≡ front ++ (five_ones ++ rest)
  pub leads : Leads Reset rest tap
