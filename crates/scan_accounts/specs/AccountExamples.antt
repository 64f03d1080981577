-- A play of three turns as an example: a scan of three bits with a bit of base padding at both its ends, a walk through
-- DRSHIFT in a turn that also prints, and a wait.
use Rattle.std.specs.Prelude.{ℕ, true, false, List, [], ◌∷◌, ◌++◌, codes}
use Rattle.tap_states.specs.declared.Tap.TheVariants.{Idle}
use Rattle.stapl_meaning.specs.declared.events.Event.{Event}
use Rattle.stapl_meaning.specs.declared.events.Event.TheVariants.{Print, Usec}
use Rattle.stapl_meaning.specs.Deeds.{pulses}
use Rattle.pin_lines.specs.PinLines.{clocks_of_pins}
use Rattle.scan_accounts.specs.ShiftRuns.{ShiftRun}
use Rattle.scan_accounts.specs.MadeTurns.{MadeTurn, MadePlay}
use Rattle.scan_accounts.specs.Accounts.{Account}
use Rattle.scan_accounts.specs.AccountTexts.{CutText}

-- clocks by their digits: 4 for TMS, 2 for TDI, 1 for TDO
abbrev pub clock_events : List ℕ → List Event
clock_events digits = pulses (clocks_of_pins digits)

-- the bits 1, 0, 0 that go in, with 0, 1, 0 that come out; an instruction; and one clock of a walk
abbrev pub example_run : ShiftRun
example_run = record { ir = false; bits_in = true ∷ false ∷ false ∷ []; bits_out = false ∷ true ∷ false ∷ [] }

abbrev pub instruction_run : ShiftRun
instruction_run =
    record { ir = true; bits_in = false ∷ true ∷ true ∷ false ∷ []; bits_out = true ∷ false ∷ false ∷ false ∷ [] }

abbrev pub one_clock_run : ShiftRun
one_clock_run = record { ir = false; bits_in = false ∷ []; bits_out = false ∷ [] }

-- all five shift clocks of the scan
abbrev pub padded_run : ShiftRun
padded_run = record {
  ir = false;
  bits_in = true ∷ true ∷ false ∷ false ∷ true ∷ [];
  bits_out = false ∷ false ∷ true ∷ false ∷ true ∷ [];
}

-- pieces that begin in the lines 7, 8 and 8
abbrev pub example_text : CutText
example_text = record {
  text = [];
  pieces = record { start = 0; end = 9; line = 7; closed = true }
      ∷ record { start = 10; end = 19; line = 8; closed = true }
      ∷ record { start = 20; end = 29; line = 8; closed = true } ∷ [];
}

abbrev pub scanning_turn : MadeTurn
scanning_turn = record { place = 0; scans = true; from = Idle; events = clock_events (codes "511221071551") }

abbrev pub walking_turn : MadeTurn
walking_turn =
    record { place = 1; scans = false; from = Idle; events = Print (codes "A") ∷ clock_events (codes "511451") }

abbrev pub waiting_turn : MadeTurn
waiting_turn = record { place = 2; scans = false; from = Idle; events = clock_events (codes "11") ++ Usec 7 ∷ [] }

abbrev pub example_play : MadePlay
example_play = record {
  base = record { ir_pre = 4; ir_post = 5; dr_pre = 1; dr_post = 1 };
  first = clock_events (codes "555551");
  turns = scanning_turn ∷ walking_turn ∷ waiting_turn ∷ [];
}

-- sums of which one is the largest number that is written, and one is larger
abbrev pub full_account : Account
full_account =
    record { turns = 1; clocks = 9223372036854775807; usec = 9223372036854775808; ir_scans = 0; dr_scans = 2 }
