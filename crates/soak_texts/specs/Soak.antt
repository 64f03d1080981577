-- The program of a seed, which is for one device of its board. The rule is this profile's.
use Rattle.std.specs.Prelude.{ℕ, ◌+◌, List}
use Rattle.soak_texts.specs.Draws.{state_after}
use Rattle.soak_texts.specs.Boards.{soak_devices, place_length}
use Rattle.soak_texts.specs.Programs.{program_text}

-- the program: 2,000 steps, drawn after the place, for the register of the device at the place
unfoldable pub soak_program : ℕ → List ℕ
soak_program seed = program_text 2000 (place_length seed) (state_after (2 + soak_devices seed) seed)
