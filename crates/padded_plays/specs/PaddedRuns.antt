-- A run of neighbours in a board whose other devices only pass bits on: what holds of the board, and of the run that
-- stands alone, before and after each move, each stay and each scan.
use Rattle.std.specs.Prelude.{◌≡◌, ◌-◌, ◌^◌, Bool, true, false, List, ◌++◌, map, replicate}
use Rattle.tap_states.specs.declared.Tap.{Tap}
use Rattle.tap_states.specs.declared.Tap.TheVariants.{DrShift, IrCapture, IrShift, IrExit1, IrPause, IrExit2}
use Rattle.dev_card.specs.declared.desc.Desc.{Desc}
use Rattle.dev_card.specs.Card.{Card, fresh}
use Rattle.dev_card.specs.Board.{EachCard, AllIn, board_after, clocks_of}
use Rattle.dev_card.specs.PaddedScan.{descriptions_of}
use Rattle.dev_card.specs.Padding.{base_around, base_pre_of, base_post_of}
use Rattle.dev_card.specs.Scans.{BoardScan, inputs_of_scan, captured_from, scan_alone}
use Rattle.dev_card.specs.Sound.{AllSound}
use Rattle.padded_plays.specs.QuietClocks.{loaded_by_scan}

-- the states in which a board stands between scans: none into which only a scan leads, and not Exit1-IR after them
abbrev pub is_between_scans : Tap → Bool
is_between_scans DrShift = false
is_between_scans IrCapture = false
is_between_scans IrShift = false
is_between_scans IrExit1 = false
is_between_scans _ = true

-- the states in which an instruction was shifted in and is not yet in force
abbrev pub waits_for_update : Tap → Bool
waits_for_update IrPause = true
waits_for_update IrExit2 = true
waits_for_update _ = false

-- A device outside the run. Its controller is where all are. An instruction that waits for its update is all ones. If
-- an instruction was loaded and is in force, it is that of all ones, which selects BYPASS (IEEE 1149.1, clause 8,
-- BYPASS instruction).
pub record IsPassing (loaded : Bool) (at : Tap) (c : Card) : Type 0 where
  pub state : c.tap ≡ at
  pub waiting : waits_for_update at ≡ true → c.ir_list ≡ replicate c.desc.ir_len true
  pub in_force : loaded ≡ true → waits_for_update at ≡ false → c.instruction ≡ 2 ^ c.desc.ir_len - 1

-- A board, and the run of its devices that stands alone. The cards of the run are the same in both, between devices
-- that pass bits on. The descriptions are those of the devices before the run, of the run, and after it.
pub record IsPaddedRun (before run after : List Desc) (loaded : Bool) (at : Tap) (board alone : List Card)
    : Type 0 where
  pub front : List Card
  pub back : List Card
  pub whole : board ≡ front ++ (alone ++ back)
  pub front_is : descriptions_of front ≡ before
  pub alone_is : descriptions_of alone ≡ run
  pub back_is : descriptions_of back ≡ after
  pub between : is_between_scans at ≡ true
  pub states : AllIn at alone
  pub sound : AllSound board
  pub front_passes : EachCard (IsPassing loaded at) front
  pub back_passes : EachCard (IsPassing loaded at) back

-- a scan has the base padding for a run of neighbours between devices of these descriptions
pub record IsPaddedFor (before after : List Desc) (s : BoardScan) : Type 0 where
  pub pre : s.paddings.base_pre ≡ base_pre_of s.ir (base_around before after)
  pub post : s.paddings.base_post ≡ base_post_of s.ir (base_around before after)

-- A scan keeps a padded run, and captures of the board what the same scan without base padding captures of the run
-- alone.
pub record KeepsPaddedRun (before run after : List Desc) (loaded : Bool) (at : Tap) (board alone : List Card)
    (s : BoardScan) : Type 0 where
  pub kept : IsPaddedRun before run after (loaded_by_scan loaded s) s.stop (board_after board (inputs_of_scan at s))
      (board_after alone (inputs_of_scan at (scan_alone s)))
  pub same_captured : captured_from at s (clocks_of board (inputs_of_scan at s))
      ≡ captured_from at (scan_alone s) (clocks_of alone (inputs_of_scan at (scan_alone s)))

-- the board of new devices
abbrev pub fresh_board : List Desc → List Card
fresh_board ds = map fresh ds
