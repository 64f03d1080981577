-- The clocks of a scan have one run, which is the scan; those of a quiet walk have none.
use Rattle.std.proofs.Common.{◌≡◌, ◌<◌, ◌≤◌, ℕ, suc, ◌+◌, ◌-◌, Bool, true, false, List, [], ◌∷◌, ◌++◌, length, take, drop, replicate, Option, Some, None, refl, sym, ap, subst, ◌∙◌, arith, append-nil}
use Rattle.std.specs.Prelude.{is_some}
use Rattle.std.proofs.lemmas.List.{length-append, length-replicate, length-map, length-take, length-drop}
use Rattle.std.proofs.lemmas.Bool.{false≢true}
use Rattle.std.proofs.Math.Seq.{drop-append_seam, take-append_seam}
use Rattle.tap_states.specs.declared.Tap.{Tap}
use Rattle.tap_states.specs.declared.Tap.TheVariants.{Reset, Idle, DrShift, DrExit1, DrPause, IrShift, IrExit1, IrPause}
use Rattle.tap_states.specs.Tap.{next_of, is_stable_state}
use Rattle.tap_states.specs.Path.{walk, path_of}
use Rattle.dev_card.specs.Card.{Card}
use Rattle.dev_card.specs.Board.{Input, Clock, clock_with, clock_at, clocks_of, after_input, tdos}
use Rattle.dev_card.specs.Line.{shift_state, exit_state, pause_state}
use Rattle.dev_card.specs.Clocks.{entry_tms, entry_inputs, shift_inputs, pause_inputs, stop_inputs, clocks_with}
use Rattle.dev_card.specs.Scans.{BoardScan, scan_bits, inputs_of_scan}
use Rattle.dev_card.specs.FarEnds.{FarEnd, Told, Heard, far_clocks, heard_clocks, next_heard, then_heard}
use Rattle.dev_card.proofs.Reaching.{entry_leads}
use Rattle.dev_card.specs.Padding.{between_ones}
use Rattle.padded_plays.specs.QuietClocks.{is_scan_state, IsQuietWalk}
use Rattle.scan_accounts.specs.Accounts.{inner_bits}
use Rattle.scan_accounts.specs.ShiftRuns.{shifting, ShiftRun, runs_with, shift_runs}
use Rattle.scan_accounts.proofs.JoinedRuns.{tms_of, shifts, runs_joined}
use Rattle.scan_accounts.proofs.WalkedTurns.{input_tms, shifted, some_padded, tms_with_zero}

-- no register shifts at a clock of this walk
abbrev pub RunsNone : Tap → List Bool → Type 0
RunsNone at [] = Unit {0}
RunsNone at (m ∷ ms) = (shifts at ≡ false) × RunsNone (next_of at m) ms

none_in_front : (o : Option Bool) (goes_on : Bool) (k : Clock) (runs : List ShiftRun) → is_some o ≡ false → runs_with o goes_on k runs ≡ runs
none_in_front None goes_on k runs e = refl
none_in_front (Some ir) goes_on k runs e = absurd (false≢true (sym e))

-- clocks of such a walk in front of others
pub runs_after_none : (ks js : List Clock) (at : Tap) → RunsNone at (tms_of ks) → shift_runs at (ks ++ js) ≡ shift_runs (walk at (tms_of ks)) js
runs_after_none [] js at h = refl
runs_after_none (k ∷ ks) js at h =
    let next : Tap = next_of at k.tms in
    none_in_front (shifting at) (shifts next) k (shift_runs next (ks ++ js)) h.0 ∙ runs_after_none ks js next h.1

pub no_runs : (ks : List Clock) (at : Tap) → RunsNone at (tms_of ks) → shift_runs at ks ≡ []
no_runs ks at h = ap (shift_runs at) (sym (append-nil ks)) ∙ runs_after_none ks [] at h

-- a quiet walk from a state in which no register shifts

pub quiet_rests : (at : Tap) → is_scan_state at ≡ false → shifts at ≡ false
quiet_rests DrShift e = absurd (false≢true (sym e))
quiet_rests IrShift e = absurd (false≢true (sym e))
quiet_rests _ e = refl

pub quiet_has_none : (ms : List Bool) (at : Tap) → shifts at ≡ false → IsQuietWalk at ms → RunsNone at ms
quiet_has_none [] at e q = tt
quiet_has_none (m ∷ ms) at e q = (e, quiet_has_none ms (next_of at m) (quiet_rests (next_of at m) q.0) q.1)

-- clocks are their inputs with what is seen at them

clocks_are : (cs : List Card) (is : List Input) → clocks_with is (tdos (clocks_of cs is)) ≡ clocks_of cs is
clocks_are cs [] = refl
clocks_are cs (i ∷ is) = ap (λ t. clock_at cs i ∷ t) (clocks_are (after_input cs i) is)

heard_are : (bs : List Bool) (is : List Input) → clocks_with is (tdos (heard_clocks bs is)) ≡ heard_clocks bs is
heard_are bs [] = refl
heard_are bs (i ∷ is) = ap (λ t. clock_with i (next_heard bs) ∷ t) (heard_are (then_heard bs) is)

far_are : (far : FarEnd) (is : List Input) → clocks_with is (tdos (far_clocks far is)) ≡ far_clocks far is
far_are (Told cs) is = clocks_are cs is
far_are (Heard bs) is = heard_are bs is

clocks_counted : (cs : List Card) (is : List Input) → length (clocks_of cs is) ≡ length is
clocks_counted cs [] = refl
clocks_counted cs (i ∷ is) = ap suc (clocks_counted (after_input cs i) is)

heard_counted : (bs : List Bool) (is : List Input) → length (heard_clocks bs is) ≡ length is
heard_counted bs [] = refl
heard_counted bs (i ∷ is) = ap suc (heard_counted (then_heard bs) is)

pub far_counted : (far : FarEnd) (is : List Input) → length (far_clocks far is) ≡ length is
far_counted (Told cs) is = clocks_counted cs is
far_counted (Heard bs) is = heard_counted bs is

with_both : (is js : List Input) (out : List Bool) → length is ≤ length out
    → clocks_with (is ++ js) out ≡ clocks_with is (take (length is) out) ++ clocks_with js (drop (length is) out)
with_both [] js out le = refl
with_both (i ∷ is) js [] le = absurd (omega (arith, le))
with_both (i ∷ is) js (b ∷ out) le = ap (λ t. clock_with i b ∷ t) (with_both is js out (omega (arith, le)))

tms_with : (is : List Input) (out : List Bool) → length is ≤ length out → tms_of (clocks_with is out) ≡ input_tms is
tms_with [] out le = refl
tms_with (i ∷ is) [] le = absurd (omega (arith, le))
tms_with (i ∷ is) (b ∷ out) le = ap (λ t. i.tms ∷ t) (tms_with is out (omega (arith, le)))

-- the shift clocks of a scan

pub run_of_bits : (ir : Bool) (bits out : List Bool) → length out ≡ length bits → 0 < length bits →
    shift_runs (shift_state ir) (clocks_with (shift_inputs bits) out) ≡ record { ir = ir; bits_in = bits; bits_out = out } ∷ []
run_of_bits ir [] out e some = absurd (omega (arith, some))
run_of_bits ir (b ∷ bs) [] e some = absurd (omega (arith, e))
run_of_bits true (b ∷ []) (o ∷ []) e some = refl
run_of_bits false (b ∷ []) (o ∷ []) e some = refl
run_of_bits ir (b ∷ []) (o ∷ p ∷ out) e some = absurd (omega (arith, e))
run_of_bits true (b ∷ c ∷ bs) (o ∷ out) e some =
    ap (runs_with (Some true) true (record { tms = false; tdi = b; tdo = o })) (run_of_bits true (c ∷ bs) out (omega (arith, e)) (omega arith))
run_of_bits false (b ∷ c ∷ bs) (o ∷ out) e some =
    ap (runs_with (Some false) true (record { tms = false; tdi = b; tdo = o })) (run_of_bits false (c ∷ bs) out (omega (arith, e)) (omega arith))

-- the ways into a shift and from it to a stable state

entry_has_none : (at : Tap) (ir : Bool) → is_stable_state at ≡ true → RunsNone at (entry_tms at ir)
entry_has_none Reset false e = (refl, (refl, (refl, (refl, tt))))
entry_has_none Reset true e = (refl, (refl, (refl, (refl, (refl, tt)))))
entry_has_none Idle false e = (refl, (refl, (refl, tt)))
entry_has_none Idle true e = (refl, (refl, (refl, (refl, tt))))
entry_has_none DrPause false e = (refl, (refl, (refl, (refl, (refl, tt)))))
entry_has_none DrPause true e = (refl, (refl, (refl, (refl, (refl, (refl, tt))))))
entry_has_none IrPause false e = (refl, (refl, (refl, (refl, (refl, tt)))))
entry_has_none IrPause true e = (refl, (refl, (refl, (refl, (refl, (refl, tt))))))
entry_has_none _ ir e = absurd (false≢true e)

pub stop_has_none : (ir : Bool) (stop : Tap) → is_stable_state stop ≡ true →
    RunsNone (exit_state ir) (false ∷ path_of (pause_state ir) stop)
stop_has_none true Reset e = (refl, (refl, (refl, (refl, (refl, (refl, tt))))))
stop_has_none false Reset e = (refl, (refl, (refl, (refl, (refl, (refl, tt))))))
stop_has_none true Idle e = (refl, (refl, (refl, (refl, tt))))
stop_has_none false Idle e = (refl, (refl, (refl, (refl, tt))))
stop_has_none true IrPause e = (refl, tt)
stop_has_none false DrPause e = (refl, tt)
stop_has_none true DrPause e = by_quiet
  where
    by_quiet : RunsNone IrExit1 (false ∷ path_of IrPause DrPause)
    by_quiet = (refl, (refl, (refl, (refl, (refl, (refl, (refl, tt)))))))
stop_has_none false IrPause e = by_quiet
  where
    by_quiet : RunsNone DrExit1 (false ∷ path_of DrPause IrPause)
    by_quiet = (refl, (refl, (refl, (refl, (refl, (refl, (refl, (refl, tt))))))))
stop_has_none ir _ e = absurd (false≢true e)

-- ---- the run of a scan

-- what is seen at the shift clocks of a scan, of all that is seen at its clocks
abbrev pub seen_at_shift : Tap → BoardScan → List Bool → List Bool
seen_at_shift at s out = take (length (scan_bits s)) (drop (length (entry_tms at s.ir)) out)

inputs_counted : (bits : List Bool) → length (shift_inputs bits) ≡ length bits
inputs_counted [] = refl
inputs_counted (b ∷ []) = refl
inputs_counted (b ∷ c ∷ bs) = ap suc (inputs_counted (c ∷ bs))

module _ (at : Tap) (far : FarEnd) (s : BoardScan) (stable : is_stable_state at ≡ true) (stops : is_stable_state s.stop ≡ true) (some : 0 < length s.bits) where
  abbrev bits : List Bool
  bits = scan_bits s

  abbrev entry : List Input
  entry = entry_inputs at s.ir

  abbrev rest : List Input
  rest = pause_inputs ++ stop_inputs s.ir s.stop

  abbrev out : List Bool
  out = tdos (far_clocks far (inputs_of_scan at s))

  entry_counted : length entry ≡ length (entry_tms at s.ir)
  entry_counted = length-map (entry_tms at s.ir) _

  out_counted : length out ≡ length entry + (length (shift_inputs bits) + length rest)
  out_counted =
      length-map (far_clocks far (inputs_of_scan at s)) _ ∙ far_counted far (inputs_of_scan at s)
      ∙ length-append entry (shift_inputs bits ++ rest) ∙ ap (λ n. length entry + n) (length-append (shift_inputs bits) rest)

  -- the clocks on the way to the shift, those at it, and the others
  abbrev later : List Bool
  later = drop (length entry) out

  abbrev before_shift : List Clock
  before_shift = clocks_with entry (take (length entry) out)

  abbrev at_shift_clocks : List Clock
  at_shift_clocks = clocks_with (shift_inputs bits) (take (length (shift_inputs bits)) later)

  abbrev after_shift : List Clock
  after_shift = clocks_with rest (drop (length (shift_inputs bits)) later)

  pub seen_counted : length bits ≤ length (drop (length (entry_tms at s.ir)) out)
  seen_counted =
      let d = length-drop (length (entry_tms at s.ir)) out in
      let o = out_counted in
      let e = entry_counted in
      let n = inputs_counted bits in
      omega (arith, d, o, e, n)

  later_counted : length later ≡ length (shift_inputs bits) + length rest
  later_counted = let d = length-drop (length entry) out in let o = out_counted in omega (arith, d, o)

  in_three : far_clocks far (inputs_of_scan at s) ≡ before_shift ++ (at_shift_clocks ++ after_shift)
  in_three =
      let o = out_counted in
      let l = later_counted in
      sym (far_are far (inputs_of_scan at s)) ∙ with_both entry (shift_inputs bits ++ rest) out (omega (arith, o))
      ∙ ap (λ t. before_shift ++ t) (with_both (shift_inputs bits) rest later (omega (arith, l)))

  entry_tms_are : tms_of before_shift ≡ entry_tms at s.ir
  entry_tms_are =
      let o = out_counted in
      let l = length-take (length entry) out in
      tms_with entry (take (length entry) out) (omega (arith, o, l)) ∙ tms_with_zero (entry_tms at s.ir)

  to_shift : walk at (tms_of before_shift) ≡ shift_state s.ir
  to_shift = ap (walk at) entry_tms_are ∙ entry_leads at s.ir stable

  to_exit : walk (shift_state s.ir) (tms_of at_shift_clocks) ≡ exit_state s.ir
  to_exit =
      let o = later_counted in
      let l = length-take (length (shift_inputs bits)) later in
      ap (walk (shift_state s.ir)) (tms_with (shift_inputs bits) (take (length (shift_inputs bits)) later) (omega (arith, o, l)))
      ∙ shifted s.ir bits (some_padded s some)

  rest_tms_are : tms_of after_shift ≡ false ∷ path_of (pause_state s.ir) s.stop
  rest_tms_are =
      let o = later_counted in
      let l = length-drop (length (shift_inputs bits)) later in
      tms_with rest (drop (length (shift_inputs bits)) later) (omega (arith, o, l))
      ∙ ap (λ t. false ∷ t) (tms_with_zero (path_of (pause_state s.ir) s.stop))

  exit_rests : (ir : Bool) → shifts (exit_state ir) ≡ false
  exit_rests true = refl
  exit_rests false = refl

  -- the run of the scan
  pub scan_has_one_run : shift_runs at (far_clocks far (inputs_of_scan at s)) ≡ record { ir = s.ir; bits_in = bits; bits_out = seen_at_shift at s out } ∷ []
  scan_has_one_run =
      let seen : List Bool = take (length (shift_inputs bits)) later in
      let o = later_counted in
      let n = inputs_counted bits in
      let l = length-take (length (shift_inputs bits)) later in
      let long : length seen ≡ length bits = omega (arith, o, n, l) in
      let none : RunsNone at (tms_of before_shift) = subst (RunsNone at) (sym entry_tms_are) (entry_has_none at s.ir stable) in
      let last : RunsNone (exit_state s.ir) (tms_of after_shift) = subst (RunsNone (exit_state s.ir)) (sym rest_tms_are) (stop_has_none s.ir s.stop stops) in
      ap (shift_runs at) in_three ∙ runs_after_none before_shift (at_shift_clocks ++ after_shift) at none
      ∙ ap (λ t. shift_runs t (at_shift_clocks ++ after_shift)) to_shift
      ∙ runs_joined at_shift_clocks after_shift (shift_state s.ir) (ap shifts to_exit ∙ exit_rests s.ir)
      ∙ ap (λ t. shift_runs (shift_state s.ir) at_shift_clocks ++ shift_runs t after_shift) to_exit
      ∙ ap (λ t. shift_runs (shift_state s.ir) at_shift_clocks ++ t) (no_runs after_shift (exit_state s.ir) last)
      ∙ append-nil (shift_runs (shift_state s.ir) at_shift_clocks) ∙ run_of_bits s.ir bits seen long (some_padded s some)
      ∙ ap (λ m. record { ir = s.ir; bits_in = bits; bits_out = take m later } ∷ []) n
      ∙ ap (λ m. record { ir = s.ir; bits_in = bits; bits_out = take (length bits) (drop m out) } ∷ []) entry_counted

-- without its base padding the run has the bits that the program shifts, and what is seen at them

pub inner_padded : (pre post : ℕ) (bits : List Bool) → inner_bits pre post (between_ones pre bits post) ≡ bits
inner_padded pre post bits =
    let front : List Bool = replicate pre true in
    let back : List Bool = replicate post true in
    let a = length-append front (bits ++ back) in
    let b = length-append bits back in
    let c = length-replicate pre true in
    let d = length-replicate post true in
    let long : length (between_ones pre bits post) - (pre + post) ≡ length bits = omega (arith, a, b, c, d) in
    ap (λ n. take n (drop pre (between_ones pre bits post))) long ∙ ap (λ n. take (length bits) (drop n (front ++ (bits ++ back)))) (sym c)
    ∙ ap (take (length bits)) (drop-append_seam front (bits ++ back)) ∙ take-append_seam bits back
