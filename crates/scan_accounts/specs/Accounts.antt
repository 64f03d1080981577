-- The account of a play: what each of its turns did at the pins, and how much the play did in all. What it says is this
-- profile's.
use Rattle.std.specs.Prelude.{◌≡◌, ℕ, ◌+◌, ◌-◌, ◌&&◌, Bool, true, false, List, [], ◌∷◌, length, map, take, drop, count_by, flat_map}
use Rattle.std.specs.Bool.{beq}
use Rattle.dev_card.specs.Padding.{BaseLengths, base_pre_of, base_post_of, program_bits}
use Rattle.dev_card.specs.Scans.{BoardScan}
use Rattle.stapl_meaning.specs.Scans.{scan_limit, padding_limit}
use Rattle.stapl_meaning.specs.Deeds.{Scans, Chain, deed_events, captured_on}
use Rattle.scan_accounts.specs.ShiftRuns.{ShiftRun, shift_runs}
use Rattle.scan_accounts.specs.MadeTurns.{MadeTurn, MadePlay, made_events, clocks_among, usec_among}

-- the bits between so many at both ends
abbrev pub inner_bits : ℕ → ℕ → List Bool → List Bool
inner_bits before after bits = take (length bits - (before + after)) (drop before bits)

-- a run without the base padding at both its ends
abbrev pub unpadded : BaseLengths → ShiftRun → ShiftRun
unpadded base run = record {
  ir = run.ir;
  bits_in = inner_bits (base_pre_of run.ir base) (base_post_of run.ir base) run.bits_in;
  bits_out = inner_bits (base_pre_of run.ir base) (base_post_of run.ir base) run.bits_out;
}

-- What is said of a run: the place of the piece whose turn made it, whether that is a scan, and the run, of a scan
-- without base padding.
pub record Passage : Type 0 where
  pub place : ℕ
  pub scan : Bool
  pub run : ShiftRun

-- the run of a turn as it is said, true if the statement of the turn scans
abbrev pub said_run : BaseLengths → Bool → ShiftRun → ShiftRun
said_run base true run = unpadded base run
said_run base false run = run

-- what is said of the runs of a turn, by the clocks of that turn alone
abbrev pub passages_of : BaseLengths → MadeTurn → List Passage
passages_of base t =
    map (λ run. record { place = t.place; scan = t.scans; run = said_run base t.scans run })
    (shift_runs t.from (clocks_among t.events))

-- the same of all turns of a play
abbrev pub passages : MadePlay → List Passage
passages play = flat_map (passages_of play.base) play.turns

-- The most bits of a run as it is said: true for a scan, which has its data and the paddings of the program around it.
-- A walk leaves a shift state at its next clock.
abbrev pub most_bits : Bool → ℕ
most_bits true = scan_limit + (padding_limit + padding_limit)
most_bits false = 1

-- The scans of the instruction registers among passages, or of the data registers.
abbrev pub scans_among : Bool → List Passage → ℕ
scans_among ir said = count_by (λ (p : Passage). p.scan && beq p.run.ir ir) said

-- The sums: the turns that were made, also one that faults, all clocks, also the five first ones, the microseconds that
-- were waited, and the scans of both kinds.
pub record Account : Type 0 where
  pub turns : ℕ
  pub clocks : ℕ
  pub usec : ℕ
  pub ir_scans : ℕ
  pub dr_scans : ℕ

abbrev pub account_of : MadePlay → Account
account_of play = record {
  turns = length play.turns;
  clocks = length (clocks_among (made_events play));
  usec = usec_among (made_events play);
  ir_scans = scans_among true (passages play);
  dr_scans = scans_among false (passages play);
}

-- A scan on a chain has one run: true for the instruction registers as the scan is. Without base padding its bits in
-- are those that the program shifts, and the bits out at the places of the data are what the scan captures.
pub record HasScanRun (k : Chain) (scan : BoardScan) : Type 0 where
  pub run : ShiftRun
  pub only : shift_runs k.tap (clocks_among (deed_events k (Scans scan))) ≡ run ∷ []
  pub register : run.ir ≡ scan.ir
  pub shifted : (unpadded k.base run).bits_in ≡ program_bits scan.paddings scan.bits
  pub captured : take (length scan.bits) (drop (length scan.paddings.pre) (unpadded k.base run).bits_out)
      ≡ captured_on k scan
