-- The bits of a scan (JESD71, PRE and POST padding): program paddings around the data, and base paddings around both.
-- Base padding is this profile's: all ones, which brings the neighbours of a device into BYPASS and passes them there.
use Rattle.std.specs.Prelude.{◌+◌, ◌-◌, ℕ, suc, Bool, true, false, List, ◌++◌, length, take, drop, replicate, map, sum, Option, Some, None}
use Rattle.dev_card.specs.declared.desc.Desc.{Desc}

-- the paddings of a scan: the lengths of base PRE and base POST, and the bits of program PRE and program POST
pub record Paddings : Type 0 where
  pub base_pre : ℕ
  pub pre : List Bool
  pub post : List Bool
  pub base_post : ℕ

-- what the program shifts
abbrev pub program_bits : Paddings → List Bool → List Bool
program_bits p bits = p.pre ++ (bits ++ p.post)

-- bits between so many ones before and after
abbrev pub between_ones : ℕ → List Bool → ℕ → List Bool
between_ones before bits after = replicate before true ++ (bits ++ replicate after true)

-- all bits of a scan, in the order of shifting
abbrev pub padded : Paddings → List Bool → List Bool
padded p bits = between_ones p.base_pre (program_bits p bits) p.base_post

-- of the bits that came out of a scan of n data bits, those that stand at the data's places: what is captured
abbrev pub at_data : Paddings → ℕ → List Bool → List Bool
at_data p n out = take n (drop (p.base_pre + length p.pre) out)

-- the lengths of base padding, for scans of the instruction and of the data registers
pub record BaseLengths : Type 0 where
  pub ir_pre : ℕ
  pub ir_post : ℕ
  pub dr_pre : ℕ
  pub dr_post : ℕ

-- the sum of the instruction lengths
abbrev pub instruction_lengths : List Desc → ℕ
instruction_lengths ds = sum (map (λ (d : Desc). d.ir_len) ds)

-- base padding around a run of devices, of those before it and those after it: one bit for each device in scans of the
-- data registers
abbrev pub base_around : List Desc → List Desc → BaseLengths
base_around before after = record {
  ir_pre = instruction_lengths before;
  ir_post = instruction_lengths after;
  dr_pre = length before;
  dr_post = length after;
}

-- a run of neighbours of a board, by the places of its first and its last device, which are counted from 1
pub record Neighbours : Type 0 where
  pub first : ℕ
  pub last : ℕ

-- the run of a single place
abbrev pub only : ℕ → Neighbours
only place = record { first = place; last = place }

-- what stands in a run, before it, and after it
abbrev pub in_run : {A : Type 0} → Neighbours → List A → List A
in_run run xs = take (suc run.last - run.first) (drop (run.first - 1) xs)

abbrev pub before_run : {A : Type 0} → Neighbours → List A → List A
before_run run xs = take (run.first - 1) xs

abbrev pub after_run : {A : Type 0} → Neighbours → List A → List A
after_run run xs = drop run.last xs

-- base padding for a run of neighbours of a board, and none where no run is meant
abbrev pub base_lengths : List Desc → Option Neighbours → BaseLengths
base_lengths ds (Some run) = base_around (before_run run ds) (after_run run ds)
base_lengths ds None = record { ir_pre = 0; ir_post = 0; dr_pre = 0; dr_post = 0 }

-- base PRE and base POST of one scan, true for the instruction registers
abbrev pub base_pre_of : Bool → BaseLengths → ℕ
base_pre_of true b = b.ir_pre
base_pre_of false b = b.dr_pre

abbrev pub base_post_of : Bool → BaseLengths → ℕ
base_post_of true b = b.ir_post
base_post_of false b = b.dr_post
