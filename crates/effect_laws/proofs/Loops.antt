-- How often a loop goes round
use Rattle.std.proofs.Common.{◌≡◌, ◌≢◌, ◌<◌, ◌≤◌, ◌⊎◌, inl, inr, ℕ, zero, suc, ◌+◌, ℤ, pos, ◌+ℤ◌, true, false, ◌&&◌, ◌||◌, ◌==◌, List, [], ◌∷◌, ◌++◌, Option, Some, None, refl, sym, ap, ◌∙◌, arith, slice_get, if◌then◌else◌}
use Rattle.std.specs.Prelude.{slice_set}
use Rattle.std.specs.Int.{int_wrap, w32}
use Rattle.std.specs.Int.RustNames.{int_lt, int_le, FitsSigned}
use Rattle.std.specs.Ordering.{int_eq}
use Rattle.std.proofs.lemmas.Int.{ints, int_wrap_fits}
use Rattle.std.proofs.lemmas.Bool.{eq-eqb}
use Rattle.std.proofs.lemmas.Bool.Decides.{eqb_tells}
use Rattle.stapl_syntax.specs.Trees.{ExprTree, for_loop, next}
use Rattle.stapl_meaning.specs.declared.events.RunFault.TheVariants.{ZeroStep}
use Rattle.stapl_meaning.specs.declared.records.Loop.{Loop}
use Rattle.stapl_meaning.specs.declared.records.Record.{Record}
use Rattle.stapl_meaning.specs.declared.records.Record.TheVariants.{Looped}
use Rattle.stapl_meaning.specs.declared.values.ValueKind.TheVariants as kinds
use Rattle.stapl_meaning.specs.declared.values.Value.TheVariants.{Int}
use Rattle.stapl_meaning.specs.declared.values.Held.{Held}
use Rattle.stapl_meaning.specs.declared.values.Held.TheVariants as held
use Rattle.stapl_meaning.specs.Values.{Got, Known, Faults, then_get, Lookup, value_of}
use Rattle.stapl_meaning.specs.Operands.{an_integer, values_of, step_or_one}
use Rattle.stapl_meaning.specs.States.{State, Did, Falls, Resumes, Leads}
use Rattle.stapl_meaning.specs.Effects.{scalar_written, with_variables, with_records, with_room, with_loop, looped, nearest_loop, is_over, integer_held, went_round, repeated}
use Rattle.stapl_meaning.specs.Scopes.{Played, scope_at}
use Rattle.stapl_meaning.specs.Turns.{turn}
use Rattle.effect_laws.specs.Given.{StandsAt, HasInteger, HasRoom, Holds, number_at}
use Rattle.effect_laws.specs.Loops.{StepIs, written, left_out, AreOtherLoops, none, other, IsShort, below, above, IsThere, upwards, downwards, FitsInteger, steps_from, MeetsLoop, GoesBack, AreRounds, GoesRound}
use Rattle.effect_laws.proofs.Singles.{plain_known, next_known, roomy, one_row}
use Rattle.effect_laws.proofs.Stacks.{new_item}

apart : (a b : ℕ) → a ≢ b → (a == b) ≡ false
apart a b different = by (eqb_tells a b)
  where
    by : (((a == b) ≡ true) × (a ≡ b)) ⊎ (((a == b) ≡ false) × (a ≢ b)) → (a == b) ≡ false
    by (inl same) = absurd (different same.1)
    by (inr differs) = differs.0

no_zero : (z : ℤ) → z ≢ pos 0 → int_eq z (pos 0) ≡ false
no_zero z some = grind (arith, ints)

-- the loop that is met
nearest : (n : ℕ) (others records : List Record) (l : Loop) → l.variable ≡ n → AreOtherLoops n others → nearest_loop n (others ++ Looped l ∷ records) ≡ Known (l, records)
nearest n _ records l same none = ap (λ c. if c then Known (l, records) else nearest_loop n records) (eq-eqb l.variable n same)
nearest n _ records l same (other {l = k} {records = rest} different more) =
    ap (λ c. if c then Known (k, rest ++ Looped l ∷ records) else nearest_loop n (rest ++ Looped l ∷ records)) (apart k.variable n different)
    ∙ nearest n rest records l same more

there_over : (l : Loop) (z : ℤ) → IsThere l.limit l.step z → is_over l z ≡ true
there_over l z (upwards p q) =
    let a : true ≡ int_lt (pos 0) l.step = omega (arith, ints) in
    let b : true ≡ int_le l.limit z = omega (arith, ints) in
    ap (λ c. (c && int_le l.limit z) || (int_lt l.step (pos 0) && int_le z l.limit)) (sym a)
    ∙ ap (λ c. c || (int_lt l.step (pos 0) && int_le z l.limit)) (sym b)
there_over l z (downwards p q) =
    let a : false ≡ int_lt (pos 0) l.step = omega (arith, ints) in
    let b : true ≡ int_lt l.step (pos 0) = omega (arith, ints) in
    let c : true ≡ int_le z l.limit = omega (arith, ints) in
    ap (λ c. (c && int_le l.limit z) || (int_lt l.step (pos 0) && int_le z l.limit)) (sym a) ∙ ap (λ d. d && int_le z l.limit) (sym b) ∙ sym c

short_goes : (l : Loop) (z : ℤ) → IsShort l.limit l.step z → is_over l z ≡ false
short_goes l z (below p q) =
    let a : true ≡ int_lt (pos 0) l.step = omega (arith, ints) in
    let b : false ≡ int_le l.limit z = omega (arith, ints) in
    let c : false ≡ int_lt l.step (pos 0) = omega (arith, ints) in
    ap (λ c. (c && int_le l.limit z) || (int_lt l.step (pos 0) && int_le z l.limit)) (sym a)
    ∙ ap (λ c. c || (int_lt l.step (pos 0) && int_le z l.limit)) (sym b)
    ∙ ap (λ d. d && int_le z l.limit) (sym c)
short_goes l z (above p q) =
    let a : false ≡ int_lt (pos 0) l.step = omega (arith, ints) in
    let b : true ≡ int_lt l.step (pos 0) = omega (arith, ints) in
    let c : false ≡ int_le z l.limit = omega (arith, ints) in
    ap (λ c. (c && int_le l.limit z) || (int_lt l.step (pos 0) && int_le z l.limit)) (sym a) ∙ ap (λ d. d && int_le z l.limit) (sym b) ∙ sym c

fits_from : (z : ℤ) → FitsInteger z → FitsSigned w32 z
fits_from z h = let l = h.low in let u = h.high in omega (arith, ints)

-- the state with a loop on top and its variable set
abbrev set_loop : Loop → List Record → ℤ → State → State
set_loop l records z u = with_variables (with_records u (Looped l ∷ records)) (slice_set u.store.variables l.variable (held.Int z))

loop_known : (l : Loop) (records : List Record) (z old : ℤ) (u : State) → Holds u l.variable (held.Int old) → with_loop l records z u ≡ Known (set_loop l records z u)
loop_known l records z old u there =
    ap (λ o. then_get (scalar_written u.store.variables l.variable o (Int z)) (λ variables. Known (with_variables (with_records u (Looped l ∷ records)) variables))) there

module _ (look : Lookup) (s : State) where
  step_known : (step : Option ExprTree) (by : ℤ) → StepIs look s step by → value_of look s.store.variables kinds.Int (step_or_one step) ≡ Known (Int by)
  step_known _ _ (written is) = is
  step_known _ _ left_out = refl

  three_known : (from to : ExprTree) (step : Option ExprTree) (first limit by : ℤ) → HasInteger look s from first → HasInteger look s to limit →
      StepIs look s step by →
      values_of look s.store.variables (an_integer from ∷ an_integer to ∷ an_integer (step_or_one step) ∷ []) ≡ Known (Int first ∷ Int limit ∷ Int by ∷ [])
  three_known from to step first limit by is_first is_limit is_step =
      let variables : List Held = s.store.variables in
      next_known look variables None (an_integer from) (an_integer to ∷ an_integer (step_or_one step) ∷ []) (Int first) (Int limit ∷ Int by ∷ [])
      (plain_known look variables None kinds.Int from (Int first) is_first)
      (next_known look variables (Some (Int first)) (an_integer to) (an_integer (step_or_one step) ∷ []) (Int limit) (Int by ∷ [])
      (plain_known look variables (Some (Int first)) kinds.Int to (Int limit) is_limit)
      (next_known look variables (Some (Int limit)) (an_integer (step_or_one step)) [] (Int by) []
      (plain_known look variables (Some (Int limit)) kinds.Int (step_or_one step) (Int by) (step_known step by is_step)) refl))

begins_known : (l : Loop) (s : State) (first old : ℤ) → l.step ≢ pos 0 → HasRoom s → Holds s l.variable (held.Int old) →
    looped l.variable l.place (Int first ∷ Int l.limit ∷ Int l.step ∷ []) s ≡ Known (Falls [] (set_loop l s.records first s))
begins_known l s first old some room there =
    let begins : Got Did = then_get (with_loop l s.records first s) (λ t. Known (Falls [] t)) in
    ap (λ c. if c then Faults ZeroStep else with_room s begins) (no_zero l.step some)
    ∙ roomy s begins room
    ∙ ap (λ g. then_get g (λ t. Known (Falls [] t))) (loop_known l s.records first old s there)

module _ (l : Loop) (records : List Record) (u : State) (z : ℤ) (meets : MeetsLoop l.variable (Looped l ∷ records) u z) where
  met : repeated l.variable [] u ≡ went_round l records z u
  met =
      ap (λ rs. then_get (nearest_loop l.variable rs) (λ top. then_get (integer_held (slice_get u.store.variables l.variable)) (λ y. went_round top.0 top.1 y u))) meets.stand
      ∙ ap (λ g. then_get g (λ top. then_get (integer_held (slice_get u.store.variables l.variable)) (λ y. went_round top.0 top.1 y u)))
      (nearest l.variable meets.above records l refl meets.others)
      ∙ ap (λ o. then_get (integer_held o) (λ y. went_round l records y u)) meets.holds

  is_done : IsThere l.limit l.step z → repeated l.variable [] u ≡ Known (Falls [] (with_records u records))
  is_done there =
      met
      ∙ ap (λ c. if c then Known (Falls [] (with_records u records)) else then_get (with_loop l records (int_wrap w32 (z +ℤ l.step)) u) (λ t. Known (Resumes l.place t)))
      (there_over l z there)

  goes_on : IsShort l.limit l.step z → FitsInteger (z +ℤ l.step) → repeated l.variable [] u ≡ Known (Resumes l.place (set_loop l records (z +ℤ l.step) u))
  goes_on short fits =
      met
      ∙ ap (λ c. if c then Known (Falls [] (with_records u records)) else then_get (with_loop l records (int_wrap w32 (z +ℤ l.step)) u) (λ t. Known (Resumes l.place t)))
      (short_goes l z short)
      ∙ ap (λ y. then_get (with_loop l records y u) (λ t. Known (Resumes l.place t))) (int_wrap_fits w32 (z +ℤ l.step) (fits_from (z +ℤ l.step) fits))
      ∙ ap (λ g. then_get g (λ t. Known (Resumes l.place t))) (loop_known l records (z +ℤ l.step) z u meets.holds)

module _ (program : Played) (i j : ℕ) (s : State) (name same : List ℕ) (from to : ExprTree) (step : Option ExprTree) (first limit by old : ℤ)
    (at_for : StandsAt program i (for_loop name from to step)) (is_first : HasInteger (scope_at program i).look s from first)
    (is_limit : HasInteger (scope_at program i).look s to limit) (is_step : StepIs (scope_at program i).look s step by) (some : by ≢ pos 0)
    (room : HasRoom s) (there : Holds s (number_at program i name) (held.Int old)) (at_next : StandsAt program j (next same))
    (one : number_at program j same ≡ number_at program i name) where
  abbrev loop : Loop
  loop = record { variable = number_at program i name; limit = limit; step = by; place = i + 1 }

  abbrev begun : State
  begun = set_loop loop s.records first s

  again : (u : State) (z : ℤ) → MeetsLoop loop.variable begun.records u z → IsShort limit by z → FitsInteger (z +ℤ by) →
      GoesBack program i j loop.variable begun.records u (z +ℤ by)
  again u z meets short fits = record {
    after = set_loop loop s.records (z +ℤ by) u;
    leads =
        one_row program j u (next same) [] (Resumes (i + 1) (set_loop loop s.records (z +ℤ by) u)) at_next refl refl
        (ap (λ n. repeated n [] u) one ∙ goes_on loop s.records u z meets short fits);
    holds = new_item u.store.variables loop.variable (held.Int z) (held.Int (z +ℤ by)) meets.holds;
    stand = refl;
  }

  over : (u : State) (z : ℤ) → MeetsLoop loop.variable begun.records u z → IsThere limit by z →
      turn program j u ≡ Leads [] (j + 1) (record u { records = s.records })
  over u z meets come =
      one_row program j u (next same) [] (Falls [] (with_records u s.records)) at_next refl refl
      (ap (λ n. repeated n [] u) one ∙ is_done loop s.records u z meets come)

  module _ (k : ℕ) (states : ℕ → State) (rounds : AreRounds program i j loop.variable begun.records first states)
      (short : (m : ℕ) → m < k → IsShort limit by (steps_from first by m) × FitsInteger (steps_from first by (suc m))) where
    meets_at : (m : ℕ) → m ≤ k → MeetsLoop loop.variable begun.records (states m) (steps_from first by m)
    meets_at zero most = rounds.begins
    meets_at (suc m) most =
        let less : m < k = omega (arith, most) in
        let before : m ≤ k = omega (arith, most) in
        rounds.goes_on m (steps_from first by (suc m))
        (again (states m) (steps_from first by m) (meets_at m before) (short m less).0 (short m less).1)

    all_back : (m : ℕ) → m < k → GoesBack program i j loop.variable begun.records (states m) (steps_from first by (suc m))
    all_back m less =
        let before : m ≤ k = omega (arith, less) in
        again (states m) (steps_from first by m) (meets_at m before) (short m less).0 (short m less).1

  pub goes_round : GoesRound program i j (number_at program i name) s first limit by
  goes_round = record {
    begun = begun;
    begins =
        one_row program i s (for_loop name from to step) (Int first ∷ Int limit ∷ Int by ∷ []) (Falls [] begun) at_for refl
        (three_known (scope_at program i).look s from to step first limit by is_first is_limit is_step)
        (begins_known loop s first old some room there);
    holds = new_item s.store.variables loop.variable (held.Int old) (held.Int first) there;
    again = again;
    over = over;
    times = λ k states rounds come short. (
      all_back k states rounds short,
      over (states k) (steps_from first by k) (meets_at k states rounds short k (let e : k ≤ k = omega arith in e)) come,
    );
  }
