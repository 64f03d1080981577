-- What is known of the runs of clocks after each signal that was made: the runs that are over, the one that goes on, and
-- sums (IEEE 1149.1, controller states Shift-IR and Shift-DR).
use Rattle.std.specs.Prelude.{◌≡◌, ℕ, suc, ◌+◌, Bool, true, false, List, count_by, [], ◌∷◌, ◌++◌, Option, Some, None}
use Rattle.std.specs.Bool.{beq}
use Rattle.tap_states.specs.declared.Tap.{Tap}
use Rattle.tap_states.specs.Tap.{next_of}
use Rattle.dev_card.specs.Board.{Clock}
use Rattle.scan_paths.specs.Cables.{Signal, Pulses, Waits, Tunes}
use Rattle.scan_accounts.specs.ShiftRuns.{ShiftRun, shifting}
use Rattle.scan_accounts.specs.AccountTexts.{counted}

-- The state of the controllers, the runs that are over, the run that goes on, if one does, how many clocks were made and
-- microseconds waited in all, and how many runs of both kinds of registers were counted as scans. Each sum ends at the
-- largest one that is written.
pub record Heard : Type 0 where
  pub tap : Tap
  pub ended : List ShiftRun
  pub going : Option ShiftRun
  pub clocks : ℕ
  pub usec : ℕ
  pub ir_scans : ℕ
  pub dr_scans : ℕ

-- the run that goes on with more bits, in and out, at its end, or a run of these registers that begins with them
abbrev pub grown : Bool → List Bool → List Bool → Option ShiftRun → ShiftRun
grown ir bits_in bits_out None = record { ir = ir; bits_in = bits_in; bits_out = bits_out }
grown ir bits_in bits_out (Some run) =
    record { ir = ir; bits_in = run.bits_in ++ bits_in; bits_out = run.bits_out ++ bits_out }

-- all runs, that which goes on as the last one; and the same after the run that goes on is over
abbrev pub last_run : Option ShiftRun → List ShiftRun
last_run None = []
last_run (Some run) = run ∷ []

abbrev pub all_runs : Heard → List ShiftRun
all_runs h = h.ended ++ last_run h.going

abbrev pub closed : Heard → Heard
closed h = record h { ended = all_runs h; going = None }

-- the runs that are over are counted as scans, if they are such
abbrev pub scans_counted : Bool → Heard → Heard
scans_counted false h = h
scans_counted true h = record h {
  ir_scans = counted (h.ir_scans + count_by (λ (r : ShiftRun). beq r.ir true) h.ended);
  dr_scans = counted (h.dr_scans + count_by (λ (r : ShiftRun). beq r.ir false) h.ended);
}

-- a run that goes on is over if no register shifts at the next clock
abbrev pub over_if : Option Bool → Heard → Heard
over_if (Some ir) h = h
over_if None h = closed h

-- the run that goes on has these bits more, in and out, or one of these registers begins with them
abbrev pub grown_by : Bool → List Bool → List Bool → Heard → Heard
grown_by ir bits_in bits_out h = record h { going = Some (grown ir bits_in bits_out h.going) }

-- with the bits of a clock at which these registers shift, if any do, and after which these do
abbrev pub shifted_on : Option Bool → Option Bool → Bool → Bool → Heard → Heard
shifted_on None next tdi tdo h = h
shifted_on (Some ir) next tdi tdo h = over_if next (grown_by ir (tdi ∷ []) (tdo ∷ []) h)

-- with bits of so many clocks with TMS 0 in a state in which these registers shift, if any do
abbrev pub stilled : Option Bool → List Bool → List Bool → Heard → Heard
stilled None bits_in bits_out h = h
stilled (Some ir) [] bits_out h = h
stilled (Some ir) (b ∷ bits_in) bits_out h = grown_by ir (b ∷ bits_in) bits_out h

-- after a clock
abbrev pub heard_clock : Heard → Clock → Heard
heard_clock h k =
    record (shifted_on (shifting h.tap) (shifting (next_of h.tap k.tms)) k.tdi k.tdo h) {
      tap = next_of h.tap k.tms;
      clocks = counted (h.clocks + 1);
    }

-- after a signal, and after signals, one after another
abbrev pub heard_signal : Heard → Signal → Heard
heard_signal h (Pulses k) = heard_clock h k
heard_signal h (Waits n) = record h { usec = counted (h.usec + n) }
heard_signal h (Tunes n) = h

abbrev pub heard_all : Heard → List Signal → Heard
heard_all h [] = h
heard_all h (signal ∷ signals) = heard_all (heard_signal h signal) signals
