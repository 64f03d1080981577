-- The runs of clocks in two parts are those of both parts, if the controllers stand in no shift state between them.
use Rattle.std.proofs.Common.{◌≡◌, Bool, true, false, List, [], ◌∷◌, ◌++◌, map, Option, Some, None, refl, sym, ap, ◌∙◌}
use Rattle.std.specs.Prelude.{is_some}
use Rattle.std.proofs.lemmas.Bool.{false≢true}
use Rattle.tap_states.specs.declared.Tap.{Tap}
use Rattle.tap_states.specs.Tap.{next_of}
use Rattle.tap_states.specs.Path.{walk}
use Rattle.dev_card.specs.Board.{Clock}
use Rattle.scan_accounts.specs.ShiftRuns.{shifting, ShiftRun, runs_with, shift_runs}

-- the TMS values of clocks
abbrev pub tms_of : List Clock → List Bool
tms_of ks = map (λ (k : Clock). k.tms) ks

-- registers shift in this state
abbrev pub shifts : Tap → Bool
shifts at = is_some (shifting at)

runs_follow : (o : Option Bool) (goes_on : Bool) (k : Clock) (runs more : List ShiftRun) → (goes_on ≡ true → runs ≡ [] → ⊥)
    → runs_with o goes_on k (runs ++ more) ≡ runs_with o goes_on k runs ++ more
runs_follow None goes_on k runs more h = refl
runs_follow (Some ir) false k runs more h = refl
runs_follow (Some ir) true k [] more h = absurd (h refl refl)
runs_follow (Some ir) true k (run ∷ runs) more h = refl

a_run_first : (o : Option Bool) (goes_on : Bool) (k : Clock) (runs : List ShiftRun) → is_some o ≡ true → runs_with o goes_on k runs ≡ [] → ⊥
a_run_first None goes_on k runs e n = absurd (false≢true e)
a_run_first (Some ir) false k runs e n = absurd cc
a_run_first (Some ir) true k [] e n = absurd cc
a_run_first (Some ir) true k (run ∷ runs) e n = absurd cc

-- clocks that begin in a shift state and end in none have a run
some_run : (at : Tap) (ks : List Clock) → shifts at ≡ true → shifts (walk at (tms_of ks)) ≡ false → shift_runs at ks ≡ [] → ⊥
some_run at [] e out n = absurd (false≢true (sym out ∙ e))
some_run at (k ∷ ks) e out n = a_run_first (shifting at) (shifts (next_of at k.tms)) k (shift_runs (next_of at k.tms) ks) e n

pub runs_joined : (ks js : List Clock) (at : Tap) → shifts (walk at (tms_of ks)) ≡ false
    → shift_runs at (ks ++ js) ≡ shift_runs at ks ++ shift_runs (walk at (tms_of ks)) js
runs_joined [] js at out = refl
runs_joined (k ∷ ks) js at out =
    let next : Tap = next_of at k.tms in
    let more : List ShiftRun = shift_runs (walk next (tms_of ks)) js in
    ap (runs_with (shifting at) (shifts next) k) (runs_joined ks js next out)
    ∙ runs_follow (shifting at) (shifts next) k (shift_runs next ks) more (λ e n. some_run next ks e out n)
