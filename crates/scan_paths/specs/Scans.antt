-- Scans over a cable (JESD71, IRSCAN and DRSCAN, PRE and POST padding): what they are asked, and what they do to it.
use Rattle.std.specs.Prelude.{◌≡◌, ◌≤◌, ℕ, Bool, List, ◌++◌, length, take, Option, Some}
use Rattle.std.specs.Option.{option_map}
use Rattle.tap_states.specs.declared.Tap.{Tap}
use Rattle.dev_card.specs.Card.{Card}
use Rattle.dev_card.specs.Board.{Clock, Input, tdos}
use Rattle.dev_card.specs.Padding.{Paddings, BaseLengths, base_pre_of, base_post_of}
use Rattle.dev_card.specs.Scans.{BoardScan, inputs_of_scan, clocks_of_scan, board_after_scan, captured_from}
use Rattle.scan_paths.specs.declared.pads.BasePads.{BasePads}
use Rattle.scan_paths.specs.declared.pads.Pads.{Pads}
use Rattle.scan_paths.specs.declared.scans.ScanPlan.{ScanPlan}
use Rattle.scan_paths.specs.Cables.{Signal, HasMadeClocks, HasMadeFront}

-- each program padding lies inside its list
pub record AreInside (p : Pads) : Type 0 where
  pub pre : p.pre ≤ length p.pre_bits
  pub post : p.post ≤ length p.post_bits

-- base padding as its lengths
abbrev pub lengths_of : BasePads → BaseLengths
lengths_of base = record { ir_pre = base.pre_ir; ir_post = base.post_ir; dr_pre = base.pre_dr; dr_post = base.post_dr }

-- base PRE and base POST of a planned scan
abbrev pub planned_pre : ScanPlan → ℕ
planned_pre plan = base_pre_of plan.ir (lengths_of plan.base)

abbrev pub planned_post : ScanPlan → ℕ
planned_post plan = base_post_of plan.ir (lengths_of plan.base)

-- the paddings of a planned scan, of which these are the program's
abbrev pub paddings_of : ScanPlan → Pads → Paddings
paddings_of plan p = record {
  base_pre = planned_pre plan;
  pre = take p.pre p.pre_bits;
  post = take p.post p.post_bits;
  base_post = planned_post plan;
}

-- the scan that is asked of a board: by its plan, the list with its data, and the program's paddings
abbrev pub scan_of : ScanPlan → List Bool → Pads → BoardScan
scan_of plan bits pads =
    record { ir = plan.ir; paddings = paddings_of plan pads; bits = take plan.len bits; stop = plan.stop }

-- Clocks were made with exactly these inputs, and these are the TDO bits that were seen from this place on.
pub record HasSeen {C : Type 0} (board : C → Option (List Card)) (makes : C → List Signal → C → Type 0) (old new : C)
    (inputs : List Input) (place : ℕ) (captured : List Bool) : Type 0 where
  pub clocks : List Clock
  pub made : HasMadeClocks board makes old new inputs clocks
  pub front : List Bool
  pub back : List Bool
  pub parts : tdos clocks ≡ front ++ (captured ++ back)
  pub at_place : length front ≡ place

-- The clocks of a scan were made, and these bits were captured from them. If the board is told, they are the clocks of
-- the scan of its line, and the board is the one after it.
pub record HasScanned {C : Type 0} (board : C → Option (List Card)) (makes : C → List Signal → C → Type 0) (old new : C)
    (at : Tap) (s : BoardScan) (captured : List Bool) : Type 0 where
  pub clocks : List Clock
  pub made : HasMadeClocks board makes old new (inputs_of_scan at s) clocks
  pub captured_is : captured ≡ captured_from at s clocks
  pub seen : (cs : List Card) → board old ≡ Some cs → clocks ≡ clocks_of_scan at s cs
  pub cards : board new ≡ option_map (board_after_scan at s) (board old)

-- these clocks are the first of a list
pub record AreFirst (clocks all : List Clock) : Type 0 where
  pub rest : List Clock
  pub parts : all ≡ clocks ++ rest

-- Clocks were made with exactly a front of the inputs of a scan, and then a call failed. If the board was told, they
-- are the first clocks of the scan of its line.
pub record HasScannedFront {C : Type 0} (board : C → Option (List Card)) (makes : C → List Signal → C → Type 0)
    (old new : C) (at : Tap) (s : BoardScan) : Type 0 where
  pub front : HasMadeFront board makes old new (inputs_of_scan at s)
  pub seen : (cs : List Card) → board old ≡ Some cs → AreFirst front.made.clocks (clocks_of_scan at s cs)
