-- What is known after signals were heard.
use Rattle.std.proofs.Common.{◌≡◌, ◌≤◌, ℕ, zero, suc, ◌+◌, ◌/◌, ◌%◌, ◌^◌, nat_eq, map, Bool, true, false, List, [], ◌∷◌, ◌++◌, length, Option, Some, None, refl, sym, ap, ap₂, ◌∙◌, append_assoc, arith}
use Rattle.std.proofs.lemmas.List.{length-map}
use Rattle.std.specs.Prelude.{is_some}
use Rattle.tap_states.specs.declared.Tap.{Tap}
use Rattle.tap_states.specs.Tap.{next_of}
use Rattle.base.specs.Bits.{low_bits, number_of}
use Rattle.base.proofs.NumberBits.{low_bits-number_of, low_bits_cut, length-low_bits}
use Rattle.dev_card.specs.Board.{Clock, Input, tdos}
use Rattle.dev_card.specs.Clocks.{clocks_with, still_inputs, part_inputs, is_nil}
use Rattle.scan_paths.specs.Cables.{Signal, Pulses, Waits, Tunes, pulsed, clocks_in, input_of}
use Rattle.scan_accounts.specs.ShiftRuns.{ShiftRun, shifting, runs_with, shift_runs}
use Rattle.scan_accounts.specs.AccountTexts.{counted}
use Rattle.run_cable.specs.HeardRuns.{Heard, grown, grown_by, last_run, all_runs, shifted_on, stilled, heard_clock, heard_signal, heard_all}
use Rattle.run_cable.specs.RunCableLaws.{heard_both}

-- ---- the runs are those of the clocks

-- runs of clocks that follow, the first of which goes on with a run that goes on
abbrev joined : Option ShiftRun → List ShiftRun → List ShiftRun
joined None runs = runs
joined (Some run) [] = run ∷ []
joined (Some run) (next ∷ runs) =
    record { ir = next.ir; bits_in = run.bits_in ++ next.bits_in; bits_out = run.bits_out ++ next.bits_out } ∷ runs

joined_none : (going : Option ShiftRun) → joined going [] ≡ last_run going
joined_none None = refl
joined_none (Some run) = refl

begun_with : (ir : Bool) (k : Clock) (going : Option ShiftRun) (rest : List ShiftRun) →
    grown ir (k.tdi ∷ []) (k.tdo ∷ []) going ∷ rest ≡ joined going (runs_with (Some ir) false k rest)
begun_with ir k None rest = refl
begun_with ir k (Some run) rest = refl

gone_on : (ir : Bool) (k : Clock) (going : Option ShiftRun) (rest : List ShiftRun) →
    joined (Some (grown ir (k.tdi ∷ []) (k.tdo ∷ []) going)) rest ≡ joined going (runs_with (Some ir) true k rest)
gone_on ir k None [] = refl
gone_on ir k (Some run) [] = refl
gone_on ir k None (next ∷ rest) = refl
gone_on ir k (Some run) (next ∷ rest) =
    ap₂ (λ (x y : List Bool). let r : ShiftRun = record { ir = next.ir; bits_in = x; bits_out = y } in r ∷ rest)
    (append_assoc run.bits_in (k.tdi ∷ []) next.bits_in) (append_assoc run.bits_out (k.tdo ∷ []) next.bits_out)

-- no run goes on where no register shifts
abbrev StandsStill : Option Bool → Option ShiftRun → Type 0
StandsStill now going = now ≡ None → going ≡ None

one_clock_on : (now next : Option Bool) (k : Clock) (h : Heard) (rest : List ShiftRun) → StandsStill now h.going →
    (shifted_on now next k.tdi k.tdo h).ended ++ joined (shifted_on now next k.tdi k.tdo h).going rest
    ≡ h.ended ++ joined h.going (runs_with now (is_some next) k rest)
one_clock_on None next k h rest still = refl
one_clock_on (Some ir) None k h rest still =
    append_assoc h.ended (grown ir (k.tdi ∷ []) (k.tdo ∷ []) h.going ∷ []) rest ∙ ap (λ rs. h.ended ++ rs) (begun_with ir k h.going rest)
one_clock_on (Some ir) (Some on) k h rest still = ap (λ rs. h.ended ++ rs) (gone_on ir k h.going rest)

still_then : (now next : Option Bool) (b c : Bool) (h : Heard) → StandsStill now h.going → StandsStill next (shifted_on now next b c h).going
still_then None next b c h still = λ e. still refl
still_then (Some ir) None b c h still = λ e. refl
still_then (Some ir) (Some on) b c h still = λ e. absurd cc

runs_from : (signals : List Signal) (h : Heard) → StandsStill (shifting h.tap) h.going →
    all_runs (heard_all h signals) ≡ h.ended ++ joined h.going (shift_runs h.tap (clocks_in signals))
runs_from [] h still = ap (λ rs. h.ended ++ rs) (sym (joined_none h.going))
runs_from (Waits n ∷ signals) h still = runs_from signals (heard_signal h (Waits n)) still
runs_from (Tunes n ∷ signals) h still = runs_from signals h still
runs_from (Pulses k ∷ signals) h still =
    let now : Option Bool = shifting h.tap in let next : Option Bool = shifting (next_of h.tap k.tms) in
    runs_from signals (heard_clock h k) (still_then now next k.tdi k.tdo h still)
    ∙ one_clock_on now next k h (shift_runs (next_of h.tap k.tms) (clocks_in signals)) still

-- from a state on, with no run yet
pub runs_are : (signals : List Signal) (h : Heard) → h.ended ≡ [] → h.going ≡ None →
    all_runs (heard_all h signals) ≡ shift_runs h.tap (clocks_in signals)
runs_are signals h none still =
    runs_from signals h (λ e. still) ∙ ap₂ (λ rs going. rs ++ joined going (shift_runs h.tap (clocks_in signals))) none still

-- ---- clocks with TMS 0 that keep the controllers in their state

-- a sum of clocks after so many clocks more, one after another, and at once
abbrev ticked : ℕ → ℕ → ℕ
ticked zero c = c
ticked (suc n) c = ticked n (counted (c + 1))

ticked_at_once : (n c : ℕ) → ticked (suc n) c ≡ counted (c + suc n)
ticked_at_once zero c = refl
ticked_at_once (suc n) c = ticked_at_once n (counted (c + 1)) ∙ counted_twice c (suc n)
  where
    counted_twice : (c m : ℕ) → counted (counted (c + 1) + m) ≡ counted (c + suc m)
    counted_twice c m = omega arith

-- so many clocks more
abbrev clocked : ℕ → Heard → Heard
clocked n h = record h { clocks = ticked n h.clocks }

one_still : (h : Heard) (b c : Bool) → next_of h.tap false ≡ h.tap →
    heard_clock h (record { tms = false; tdi = b; tdo = c }) ≡ clocked 1 (shifted_on (shifting h.tap) (shifting h.tap) b c h)
one_still h b c e = by (next_of h.tap false) e
  where
    of : (o : Option Bool) → record (shifted_on o o b c h) { tap = h.tap; clocks = counted (h.clocks + 1) } ≡ clocked 1 (shifted_on o o b c h)
    of None = refl
    of (Some ir) = refl

    by : (t : Tap) → t ≡ h.tap → record (shifted_on (shifting h.tap) (shifting t) b c h) { tap = t; clocks = counted (h.clocks + 1) }
        ≡ clocked 1 (shifted_on (shifting h.tap) (shifting h.tap) b c h)
    by t e =
        ap (λ (t : Tap). let x : Heard = record (shifted_on (shifting h.tap) (shifting t) b c h) { tap = t; clocks = counted (h.clocks + 1) } in x) e
        ∙ of (shifting h.tap)

tap_stays : (now next : Option Bool) (b c : Bool) (h : Heard) → (shifted_on now next b c h).tap ≡ h.tap
tap_stays None next b c h = refl
tap_stays (Some ir) None b c h = refl
tap_stays (Some ir) (Some on) b c h = refl

grown_twice : (ir : Bool) (b c : Bool) (ins outs : List Bool) (going : Option ShiftRun) →
    grown ir ins outs (Some (grown ir (b ∷ []) (c ∷ []) going)) ≡ grown ir (b ∷ ins) (c ∷ outs) going
grown_twice ir b c ins outs None = refl
grown_twice ir b c ins outs (Some run) =
    ap₂ (λ (x y : List Bool). let r : ShiftRun = record { ir = ir; bits_in = x; bits_out = y } in r)
    (append_assoc run.bits_in (b ∷ []) ins) (append_assoc run.bits_out (c ∷ []) outs)

still_next : (o : Option Bool) (b c : Bool) (ins outs : List Bool) (h : Heard) → length ins ≡ length outs →
    clocked (length ins) (stilled o ins outs (clocked 1 (shifted_on o o b c h))) ≡ clocked (suc (length ins)) (stilled o (b ∷ ins) (c ∷ outs) h)
still_next None b c ins outs h e = refl
still_next (Some ir) b c [] [] h e = refl
still_next (Some ir) b c [] (x ∷ outs) h e = absurd cc
still_next (Some ir) b c (d ∷ ins) outs h e =
    ap (λ run. let x : Heard = record h { going = Some run; clocks = ticked (suc (suc (length ins))) h.clocks } in x)
    (grown_twice ir b c (d ∷ ins) outs h.going)

still_heard : (ins outs : List Bool) (h : Heard) → next_of h.tap false ≡ h.tap → length ins ≡ length outs →
    heard_all h (pulsed (clocks_with (still_inputs ins) outs)) ≡ clocked (length ins) (stilled (shifting h.tap) ins outs h)
still_heard [] outs h e len = by (shifting h.tap)
  where
    by : (o : Option Bool) → h ≡ clocked 0 (stilled o [] outs h)
    by None = refl
    by (Some ir) = refl
still_heard (b ∷ ins) [] h e len = absurd cc
still_heard (b ∷ ins) (c ∷ outs) h e len =
    let o : Option Bool = shifting h.tap in let once : Heard = clocked 1 (shifted_on o o b c h) in
    let same : once.tap ≡ h.tap = tap_stays o o b c h in
    ap (λ x. heard_all x (pulsed (clocks_with (still_inputs ins) outs))) (one_still h b c e)
    ∙ still_heard ins outs once (ap (λ t. next_of t false) same ∙ e ∙ sym same) (omega (arith, len))
    ∙ ap (λ t. clocked (length ins) (stilled (shifting t) ins outs once)) same
    ∙ still_next o b c ins outs h (omega (arith, len))

-- ---- what stays

pub clocks_stay : (now next : Option Bool) (b c : Bool) (h : Heard) → (shifted_on now next b c h).clocks ≡ h.clocks
clocks_stay None next b c h = refl
clocks_stay (Some ir) None b c h = refl
clocks_stay (Some ir) (Some on) b c h = refl

usec_shifted : (now next : Option Bool) (b c : Bool) (h : Heard) → (shifted_on now next b c h).usec ≡ h.usec
usec_shifted None next b c h = refl
usec_shifted (Some ir) None b c h = refl
usec_shifted (Some ir) (Some on) b c h = refl

pub usec_stays : (h : Heard) (k : Clock) → (heard_clock h k).usec ≡ h.usec
usec_stays h k = usec_shifted (shifting h.tap) (shifting (next_of h.tap k.tms)) k.tdi k.tdo h

-- the scans that were counted stay
abbrev pub ScansStay : Heard → Heard → Type 0
ScansStay h g = (g.ir_scans ≡ h.ir_scans) × (g.dr_scans ≡ h.dr_scans)

scans_shifted : (now next : Option Bool) (b c : Bool) (h : Heard) → ScansStay h (shifted_on now next b c h)
scans_shifted None next b c h = (refl, refl)
scans_shifted (Some ir) None b c h = (refl, refl)
scans_shifted (Some ir) (Some on) b c h = (refl, refl)

pub scans_stay : (signals : List Signal) (h : Heard) → ScansStay h (heard_all h signals)
scans_stay [] h = (refl, refl)
scans_stay (Waits n ∷ signals) h = scans_stay signals (heard_signal h (Waits n))
scans_stay (Tunes n ∷ signals) h = scans_stay signals h
scans_stay (Pulses k ∷ signals) h =
    let first = scans_shifted (shifting h.tap) (shifting (next_of h.tap k.tms)) k.tdi k.tdo h in
    let rest = scans_stay signals (heard_clock h k) in
    (rest.0 ∙ first.0, rest.1 ∙ first.1)

-- a clock is its shift and a step of the controllers
pub one_heard : (h mid new : Heard) (k : Clock) (to : Tap) → to ≡ next_of h.tap k.tms →
    mid ≡ shifted_on (shifting h.tap) (shifting to) k.tdi k.tdo h → new ≡ record mid { tap = to; clocks = counted (mid.clocks + 1) } →
    new ≡ heard_clock h k
one_heard h mid new k to e f g =
    let with : Tap → Heard → Heard = λ (t : Tap) (x : Heard). record x { tap = t; clocks = counted (x.clocks + 1) } in
    let shifted : Tap → Heard = λ (t : Tap). shifted_on (shifting h.tap) (shifting t) k.tdi k.tdo h in
    g ∙ ap (with to) f ∙ ap (λ (t : Tap). with t (shifted t)) e
    ∙ ap (λ n. let x : Heard = record (shifted (next_of h.tap k.tms)) { tap = next_of h.tap k.tms; clocks = n } in x)
    (ap (λ n. counted (n + 1)) (clocks_stay (shifting h.tap) (shifting (next_of h.tap k.tms)) k.tdi k.tdo h))

-- clocks with TMS 0 are the bits that are added and a step that leaves the controllers in their state
stays_still : (o : Option Bool) (ins outs : List Bool) (h : Heard) (n : ℕ) → 1 ≤ n → length ins ≡ n →
    record (stilled o ins outs h) { tap = h.tap; clocks = counted ((stilled o ins outs h).clocks + n) } ≡ clocked (length ins) (stilled o ins outs h)
stays_still o [] outs h n some e = absurd (omega (arith, some, e))
stays_still None (b ∷ ins) outs h n some e =
    ap (λ m. let x : Heard = record h { clocks = counted (h.clocks + m) } in x) (sym e)
    ∙ ap (λ m. let x : Heard = record h { clocks = m } in x) (sym (ticked_at_once (length ins) h.clocks))
stays_still (Some ir) (b ∷ ins) outs h n some e =
    ap (λ m. let x : Heard = record (grown_by ir (b ∷ ins) outs h) { clocks = counted (h.clocks + m) } in x) (sym e)
    ∙ ap (λ m. let x : Heard = record (grown_by ir (b ∷ ins) outs h) { clocks = m } in x) (sym (ticked_at_once (length ins) h.clocks))

pub stills_heard : (h mid new : Heard) (ins outs : List Bool) (n : ℕ) → 1 ≤ n → next_of h.tap false ≡ h.tap → length ins ≡ n → length outs ≡ n →
    mid ≡ stilled (shifting h.tap) ins outs h → new ≡ record mid { tap = h.tap; clocks = counted (mid.clocks + n) } →
    new ≡ heard_all h (pulsed (clocks_with (still_inputs ins) outs))
stills_heard h mid new ins outs n some e li lo f g =
    g ∙ ap (λ (x : Heard). let y : Heard = record x { tap = h.tap; clocks = counted (x.clocks + n) } in y) f
    ∙ stays_still (shifting h.tap) ins outs h n some li ∙ sym (still_heard ins outs h e (li ∙ sym lo))

-- all runs are then those with the bits that are added
pub still_runs : (h : Heard) (ins outs : List Bool) → next_of h.tap false ≡ h.tap → length ins ≡ length outs →
    all_runs (heard_all h (pulsed (clocks_with (still_inputs ins) outs))) ≡ all_runs (stilled (shifting h.tap) ins outs h)
still_runs h ins outs e len = ap all_runs (still_heard ins outs h e len)

-- bits that are added where registers shift
pub grown_still : (ir : Bool) (ins outs : List Bool) (h : Heard) → 1 ≤ length ins → grown_by ir ins outs h ≡ stilled (Some ir) ins outs h
grown_still ir [] outs h some = absurd (omega (arith, some))
grown_still ir (b ∷ ins) outs h some = refl

-- ---- a block of clocks

pub still_block : (ins : List Bool) → part_inputs false ins ≡ still_inputs ins
still_block [] = refl
still_block (b ∷ ins) = ap (λ is. record { tms = false; tdi = b } ∷ is) (still_block ins)

pub block_cut : (ins outs : List Bool) (b c : Bool) → length ins ≡ length outs →
    clocks_with (part_inputs true (ins ++ b ∷ [])) (outs ++ c ∷ [])
    ≡ clocks_with (still_inputs ins) outs ++ record { tms = true; tdi = b; tdo = c } ∷ []
block_cut [] [] b c e = refl
block_cut [] (y ∷ outs) b c e = absurd cc
block_cut (x ∷ ins) [] b c e = absurd cc
block_cut (x ∷ ins) (y ∷ outs) b c e =
    ap₂ (λ (t : Bool) (ks : List Clock). record { tms = t; tdi = x; tdo = y } ∷ ks) (not_last ins b) (block_cut ins outs b c (omega (arith, e)))
  where
    not_last : (ins : List Bool) (b : Bool) → is_nil (ins ++ b ∷ []) ≡ false
    not_last [] b = refl
    not_last (x ∷ ins) b = refl

still_cut : (ins outs : List Bool) (b c : Bool) → length ins ≡ length outs →
    clocks_with (still_inputs (ins ++ b ∷ [])) (outs ++ c ∷ [])
    ≡ clocks_with (still_inputs ins) outs ++ record { tms = false; tdi = b; tdo = c } ∷ []
still_cut [] [] b c e = refl
still_cut [] (y ∷ outs) b c e = absurd cc
still_cut (x ∷ ins) [] b c e = absurd cc
still_cut (x ∷ ins) (y ∷ outs) b c e =
    ap (λ (ks : List Clock). record { tms = false; tdi = x; tdo = y } ∷ ks) (still_cut ins outs b c (omega (arith, e)))

pub pulsed_both : (ks js : List Clock) → pulsed (ks ++ js) ≡ pulsed ks ++ pulsed js
pulsed_both [] js = refl
pulsed_both (k ∷ ks) js = ap (λ ss. Pulses k ∷ ss) (pulsed_both ks js)

-- the clocks that a call made, by what went in and the number of what came out
own_clocks : (ks : List Clock) → clocks_with (map input_of ks) (tdos ks) ≡ ks
own_clocks [] = refl
own_clocks (k ∷ ks) = ap (λ z. k ∷ z) (own_clocks ks)

pub clocks_are : (ks : List Clock) (is : List Input) (tdo n : ℕ) → map input_of ks ≡ is → length is ≡ n → tdo ≡ number_of (tdos ks) →
    clocks_with is (low_bits n tdo) ≡ ks
clocks_are ks is tdo n e len f =
    let count : length (tdos ks) ≡ n = length-map ks (λ (k : Clock). k.tdo) ∙ sym (length-map ks input_of) ∙ ap length e ∙ len in
    ap₂ clocks_with (sym e) (ap (low_bits n) f ∙ ap (λ m. low_bits m (number_of (tdos ks))) (sym count) ∙ low_bits-number_of (tdos ks)) ∙ own_clocks ks

pub count_of_inputs : (last : Bool) (bits : List Bool) → length (part_inputs last bits) ≡ length bits
count_of_inputs last [] = refl
count_of_inputs last (b ∷ bits) = ap suc (count_of_inputs last bits)

-- the lowest bits of a number and the next one
next_bit : (m z : ℕ) → low_bits (m + 1) z ≡ low_bits m z ++ nat_eq (z / 2 ^ m % 2) 1 ∷ []
next_bit m z = low_bits_cut m 1 z

-- the last clock of a block, and of clocks with TMS 0
pub last_of_block : (m tdi tdo : ℕ) →
    pulsed (clocks_with (still_inputs (low_bits m tdi)) (low_bits m tdo))
    ++ Pulses (record { tms = true; tdi = nat_eq (tdi / 2 ^ m % 2) 1; tdo = nat_eq (tdo / 2 ^ m % 2) 1 }) ∷ []
    ≡ pulsed (clocks_with (part_inputs true (low_bits (m + 1) tdi)) (low_bits (m + 1) tdo))
last_of_block m tdi tdo =
    let b : Bool = nat_eq (tdi / 2 ^ m % 2) 1 in let c : Bool = nat_eq (tdo / 2 ^ m % 2) 1 in
    let still : List Clock = clocks_with (still_inputs (low_bits m tdi)) (low_bits m tdo) in
    let last : List Clock = record { tms = true; tdi = b; tdo = c } ∷ [] in
    sym (pulsed_both still last)
    ∙ ap pulsed (sym (block_cut (low_bits m tdi) (low_bits m tdo) b c (length-low_bits m tdi ∙ sym (length-low_bits m tdo))))
    ∙ ap₂ (λ ins outs. pulsed (clocks_with (part_inputs true ins) outs)) (sym (next_bit m tdi)) (sym (next_bit m tdo))

pub last_of_still : (m tdi tdo : ℕ) →
    pulsed (clocks_with (still_inputs (low_bits m tdi)) (low_bits m tdo))
    ++ Pulses (record { tms = false; tdi = nat_eq (tdi / 2 ^ m % 2) 1; tdo = nat_eq (tdo / 2 ^ m % 2) 1 }) ∷ []
    ≡ pulsed (clocks_with (still_inputs (low_bits (m + 1) tdi)) (low_bits (m + 1) tdo))
last_of_still m tdi tdo =
    let b : Bool = nat_eq (tdi / 2 ^ m % 2) 1 in let c : Bool = nat_eq (tdo / 2 ^ m % 2) 1 in
    let still : List Clock = clocks_with (still_inputs (low_bits m tdi)) (low_bits m tdo) in
    let last : List Clock = record { tms = false; tdi = b; tdo = c } ∷ [] in
    sym (pulsed_both still last)
    ∙ ap pulsed (sym (still_cut (low_bits m tdi) (low_bits m tdo) b c (length-low_bits m tdi ∙ sym (length-low_bits m tdo))))
    ∙ ap₂ (λ ins outs. pulsed (clocks_with (still_inputs ins) outs)) (sym (next_bit m tdi)) (sym (next_bit m tdo))
