-- On what was heard of a turn.
use Rattle.std.proofs.Common.{◌≡◌, ℕ, suc, ◌+◌, List, [], ◌∷◌, ◌++◌, length, refl, ap, ◌∙◌, arith}
use Rattle.tap_states.specs.declared.Tap.{Tap}
use Rattle.dev_card.specs.Board.{Clock}
use Rattle.scan_paths.specs.Cables.{clocks_in, Waits}
use Rattle.stapl_meaning.specs.declared.events.Event.{Event}
use Rattle.stapl_meaning.specs.declared.events.Event.TheVariants.{Print, Export, Usec, Hertz}
use Rattle.stapl_meaning.specs.declared.events.Event.TheVariants as events
use Rattle.stapl_meaning.specs.States.{Happened, Led, Finished, Broke, Lacks, with_events}
use Rattle.written_cable.specs.Signals.{signals_of}
use Rattle.scan_accounts.specs.ShiftRuns.{shift_runs}
use Rattle.scan_accounts.specs.MadeTurns.{clocks_among, usec_among, happened_events}
use Rattle.scan_accounts.specs.AccountTexts.{counted}
use Rattle.run_cable.specs.HeardRuns.{Heard, all_runs, heard_clock, heard_signal, heard_all}
use Rattle.run_cable.specs.KeptRuns.{begun}
use Rattle.run_cable.proofs.HeardLemmas.{runs_are, usec_stays}

-- the clocks among events are those of the signals among them
pub clocks_same : (es : List Event) → clocks_in (signals_of es) ≡ clocks_among es
clocks_same [] = refl
clocks_same (events.Clock tms tdi tdo ∷ es) = ap (λ ks. record { tms = tms; tdi = tdi; tdo = tdo } ∷ ks) (clocks_same es)
clocks_same (Print bytes ∷ es) = clocks_same es
clocks_same (Export key value ∷ es) = clocks_same es
clocks_same (Usec n ∷ es) = clocks_same es
clocks_same (Hertz n ∷ es) = clocks_same es

-- the runs that were heard of a turn are those of its clocks
pub turn_runs : (at : Tap) (h : Heard) (es : List Event) → all_runs (heard_all (begun at h) (signals_of es)) ≡ shift_runs at (clocks_among es)
turn_runs at h es = runs_are (signals_of es) (begun at h) refl refl ∙ ap (shift_runs at) (clocks_same es)

-- sums, as they are written
pub plus_none : (n : ℕ) → n ≡ n + 0
plus_none n = omega arith

pub counted_none : (n : ℕ) → counted n ≡ counted (n + 0)
counted_none n = omega arith

pub counted_once : (n : ℕ) → counted (counted n) ≡ counted n
counted_once n = omega arith

pub counted_twice : (a b c : ℕ) → counted (counted (a + b) + c) ≡ counted (a + (b + c))
counted_twice a b c = omega arith

pub counted_next : (a n : ℕ) → counted (counted (a + 1) + n) ≡ counted (a + suc n)
counted_next a n = omega arith

-- a sum that goes on by a number and then by another one goes on by both
pub sum_on : (old mid new n m both : ℕ) → counted mid ≡ counted (old + n) → counted new ≡ counted (mid + m) → both ≡ n + m →
    counted new ≡ counted (old + both)
sum_on old mid new n m both e f g = omega (arith, e, f, g)

-- the clocks and the microseconds that were heard of events
pub clocks_go_on : (es : List Event) (h : Heard) → counted (heard_all h (signals_of es)).clocks ≡ counted (h.clocks + length (clocks_among es))
clocks_go_on [] h = counted_none h.clocks
clocks_go_on (events.Clock tms tdi tdo ∷ es) h =
    clocks_go_on es (heard_clock h (record { tms = tms; tdi = tdi; tdo = tdo })) ∙ counted_next h.clocks (length (clocks_among es))
clocks_go_on (Print bytes ∷ es) h = clocks_go_on es h
clocks_go_on (Export key value ∷ es) h = clocks_go_on es h
clocks_go_on (Usec n ∷ es) h = clocks_go_on es (heard_signal h (Waits n))
clocks_go_on (Hertz n ∷ es) h = clocks_go_on es h

pub usec_goes_on : (es : List Event) (h : Heard) → counted (heard_all h (signals_of es)).usec ≡ counted (h.usec + usec_among es)
usec_goes_on [] h = counted_none h.usec
usec_goes_on (events.Clock tms tdi tdo ∷ es) h =
    usec_goes_on es (heard_clock h k) ∙ ap (λ n. counted (n + usec_among es)) (usec_stays h k)
  where
    k : Clock
    k = record { tms = tms; tdi = tdi; tdo = tdo }
usec_goes_on (Print bytes ∷ es) h = usec_goes_on es h
usec_goes_on (Export key value ∷ es) h = usec_goes_on es h
usec_goes_on (Usec n ∷ es) h = usec_goes_on es (heard_signal h (Waits n)) ∙ counted_twice h.usec n (usec_among es)
usec_goes_on (Hertz n ∷ es) h = usec_goes_on es h

-- events in front of what happened
pub happened_after : (es : List Event) (h : Happened) → happened_events (with_events es h) ≡ es ++ happened_events h
happened_after es (Led events place s k) = refl
happened_after es (Finished events ending s k) = refl
happened_after es (Broke events fault s k) = refl
happened_after es (Lacks events) = refl

-- clocks and microseconds of events in two parts
pub clocks_both : (es fs : List Event) → length (clocks_among (es ++ fs)) ≡ length (clocks_among es) + length (clocks_among fs)
clocks_both [] fs = omega arith
clocks_both (events.Clock tms tdi tdo ∷ es) fs = omega (arith, clocks_both es fs)
clocks_both (Print bytes ∷ es) fs = clocks_both es fs
clocks_both (Export key value ∷ es) fs = clocks_both es fs
clocks_both (Usec n ∷ es) fs = clocks_both es fs
clocks_both (Hertz n ∷ es) fs = clocks_both es fs

pub usec_both : (es fs : List Event) → usec_among (es ++ fs) ≡ usec_among es + usec_among fs
usec_both [] fs = omega arith
usec_both (events.Clock tms tdi tdo ∷ es) fs = usec_both es fs
usec_both (Print bytes ∷ es) fs = usec_both es fs
usec_both (Export key value ∷ es) fs = usec_both es fs
usec_both (Usec n ∷ es) fs = omega (arith, usec_both es fs)
usec_both (Hertz n ∷ es) fs = usec_both es fs
