-- How scans go, as the machine keeps it.
use Rattle.std.specs.Prelude.{◌≤◌, length, take}
use Rattle.tap_states.specs.declared.Tap.{Tap}
use Rattle.scan_paths.specs.declared.pads.Pads.{Pads}
use Rattle.stapl_meaning.specs.States.{ScanSettings}
use Rattle.stapl_meaning.specs.Scans.{padding_limit}

-- the paddings of the program, and the state in which scans end
abbrev pub settings_seen : Pads → Tap → ScanSettings
settings_seen pads stop = record { pre = take pads.pre pads.pre_bits; post = take pads.post pads.post_bits; stop = stop }

-- the paddings are inside their lists, which have room for the longest ones
pub record HasPadRoom (p : Pads) : Type 0 where
  pub pre : p.pre ≤ length p.pre_bits
  pub post : p.post ≤ length p.post_bits
  pub pre_room : padding_limit ≤ length p.pre_bits
  pub post_room : padding_limit ≤ length p.post_bits
