-- The board of a seed: its devices with their registers. The rules are this profile's.
use Rattle.std.specs.Prelude.{ℕ, ◌+◌, List, ◌++◌, codes}
use Rattle.std.specs.List.{flat_map, range_with_len}
use Rattle.soak_texts.specs.Draws.{nth_draw}
use Rattle.soak_texts.specs.Lines.{numbered_line}

-- how many devices the board has, 1 to 16: the first draw
unfoldable pub soak_devices : ℕ → ℕ
soak_devices seed = 1 + nth_draw 1 16 seed

-- how many bits the register of the i-th device has, counted from 1, 8 to 64: each device has one draw, in their order,
-- after the first draw
unfoldable pub register_length : ℕ → ℕ → ℕ
register_length seed i = 8 + nth_draw (1 + i) 57 seed

-- the lines of the i-th device with a register of so many bits
unfoldable pub device_lines : ℕ → ℕ → List ℕ
device_lines i bits =
    numbered_line (codes "regs U") i (codes " 8") ++ numbered_line (codes "reg R 2 ") bits (codes " keep")

-- the lines of the first so many devices, in their order
unfoldable pub lines_of_devices : ℕ → ℕ → List ℕ
lines_of_devices devices seed = flat_map (λ i. device_lines i (register_length seed i)) (range_with_len 1 devices)

-- the board: the lines of all its devices
unfoldable pub soak_board : ℕ → List ℕ
soak_board seed = lines_of_devices (soak_devices seed) seed

-- the place of the device that the program is for, counted from 1: the draw after those of the board
unfoldable pub soak_place : ℕ → ℕ
soak_place seed = 1 + nth_draw (2 + soak_devices seed) (soak_devices seed) seed

-- how many bits its register has
unfoldable pub place_length : ℕ → ℕ
place_length seed = register_length seed (soak_place seed)
