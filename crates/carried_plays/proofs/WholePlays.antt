-- A play with base padding is, but for the five first turns, the play of the program that carries it.
use Rattle.std.proofs.Common.{◌≡◌, ◌≢◌, ℕ, suc, ◌+◌, ◌≤◌, Bool, true, false, List, [], ◌∷◌, ◌++◌, length, map, All, Some, None, slice_get, refl, sym, ap, subst, ◌∙◌, arith}
use Rattle.std.proofs.lemmas.Bool.{false≢true}
use Rattle.std.proofs.lemmas.List.Elements.{All-head, All-tail}
use Rattle.std.specs.List.{AllByRecursion}
use Rattle.std.specs.Prelude.{slice_set}
use Rattle.std.specs.Str.{bytes_eq}
use Rattle.stapl_lexer.specs.declared.terminal.Padding.TheVariants as paddings
use Rattle.stapl_syntax.specs.Trees.{BodyTree, boolean, boolean_array, integer, integer_array, end_procedure, StmtTree}
use Rattle.dev_card.specs.Padding.{BaseLengths}
use Rattle.dev_card.specs.FarEnds.{FarEnd}
use Rattle.stapl_meaning.specs.declared.values.Value.TheVariants.{Int, Bit}
use Rattle.stapl_meaning.specs.declared.values.Held.{Held}
use Rattle.stapl_meaning.specs.declared.values.Held.TheVariants as held
use Rattle.stapl_meaning.specs.Deeds.{Chain}
use Rattle.stapl_meaning.specs.Values.{Got, Known, Faults, Stuck, then_get, bits_held, padded, span_put, whole_span, Lookup}
use Rattle.stapl_meaning.specs.States.{State, Turned, Leads, Over, Broken, Scanning, NoTurn, with_got, preceded, next_chosen, begun, led, Falls, happens}
use Rattle.stapl_meaning.specs.Effects.{with_variables, scalar_written, replaced, with_integers}
use Rattle.stapl_meaning.specs.Scopes.{Scope, Played, Preset, has_initial_value, preset_scope, zeros_of, zero_of, lookup_from, procedures_in, entry_from}
use Rattle.stapl_meaning.specs.Turns.{carried}
use Rattle.stapl_meaning.specs.Typed.{IsTypedPreset, IsTyped}
use Rattle.stapl_meaning.specs.Plays.{Stopped, Run, after, goes_on, run, start, set_up, procedures_run, reset_events, chain_reset, play}
use Rattle.canonical_text.specs.Examples.{bare_statement}
use Rattle.carried_plays.specs.CarriedPrograms.{ones_padding, padding_procedure, with_item}
use Rattle.carried_plays.specs.OwnPaddings.{sets_padding}
use Rattle.padded_plays.specs.QuietPlays.{no_base}
use Rattle.carried_plays.specs.CarriedRuns.{padded_state, unbased, carried_run}
use Rattle.carried_plays.proofs.CarriedTurns.{AreBelow, Fits, chosen_same}
use Rattle.carried_plays.proofs.CarriedRuns.{turn_then_same, runs_same}
use Rattle.carried_plays.proofs.CarriedPieces.{EachBody, procedures_join, no_procedures, new_entry}
use Rattle.carried_plays.proofs.CarriedSteps.{IsCarried, same_entries, same_turns}
use Rattle.carried_plays.proofs.GivenValues.{given, all_given, given_set_up, set_up_given}
use Rattle.carried_plays.proofs.FirstTurns.{five_turns}

-- ---- initial values

preceded_none : (t : Turned) → preceded [] t ≡ t
preceded_none (Leads ds place s) = refl
preceded_none (Over ds ending s) = refl
preceded_none (Broken ds k s) = refl
preceded_none (Scanning ds job rest) = refl
preceded_none (NoTurn ds) = refl

-- the variables after a declaration with an initial value
abbrev declared_values : Lookup → BodyTree → List Held → Got (List Held)
declared_values look (boolean name (Some b)) vs = scalar_written vs (look.variable name) (slice_get vs (look.variable name)) (Bit b)
declared_values look (boolean_array name size (Some bits)) vs =
    then_get (bits_held (slice_get vs (look.variable name)))
    (λ old. Known (slice_set vs (look.variable name) (held.Bits (span_put (whole_span (length old)) (padded false (length old) bits) old))))
declared_values look (integer name (Some z)) vs = scalar_written vs (look.variable name) (slice_get vs (look.variable name)) (Int z)
declared_values look (integer_array name size (Some zs)) vs = replaced vs (look.variable name) (with_integers zs (slice_get vs (look.variable name)))
declared_values look _ vs = Stuck

written_then : (e : ℕ → ℕ) (s : State) (go : State → Turned) (g : Got (List Held))
    → with_got (then_get g (λ l. Known (Falls [] (with_variables s l)))) s (λ did. led e None did go) ≡ with_got g s (λ l. go (with_variables s l))
written_then e s go (Known l) = preceded_none (go (with_variables s l))
written_then e s go (Faults k) = refl
written_then e s go Stuck = refl

copied_then : (e : ℕ → ℕ) (s : State) (go : State → Turned) (put : List Bool → List Held) (g : Got (List Bool))
    → with_got (then_get g (λ old. Known (Falls [] (with_variables s (put old))))) s (λ did. led e None did go)
    ≡ with_got (then_get g (λ old. Known (put old))) s (λ l. go (with_variables s l))
copied_then e s go put (Known old) = preceded_none (go (with_variables s (put old)))
copied_then e s go put (Faults k) = refl
copied_then e s go put Stuck = refl

declared_then : (scope : Scope) (b : BodyTree) (s : State) (go : State → Turned) → has_initial_value b ≡ true
    → carried scope b s go ≡ with_got (declared_values scope.look b s.store.variables) s (λ l. go (with_variables s l))
declared_then scope (boolean name (Some true)) s go e =
    written_then scope.entry s go (scalar_written s.store.variables (scope.look.variable name) (slice_get s.store.variables (scope.look.variable name)) (Bit true))
declared_then scope (boolean name (Some false)) s go e =
    written_then scope.entry s go (scalar_written s.store.variables (scope.look.variable name) (slice_get s.store.variables (scope.look.variable name)) (Bit false))
declared_then scope (boolean_array name size (Some bits)) s go e =
    copied_then scope.entry s go (λ old. slice_set s.store.variables (scope.look.variable name) (held.Bits (span_put (whole_span (length old)) (padded false (length old) bits) old)))
    (bits_held (slice_get s.store.variables (scope.look.variable name)))
declared_then scope (integer name (Some z)) s go e =
    written_then scope.entry s go (scalar_written s.store.variables (scope.look.variable name) (slice_get s.store.variables (scope.look.variable name)) (Int z))
declared_then scope (integer_array name size (Some zs)) s go e =
    written_then scope.entry s go (replaced s.store.variables (scope.look.variable name) (with_integers zs (slice_get s.store.variables (scope.look.variable name))))
declared_then scope _ s go e = absurd (false≢true e)

-- what sets a play up comes to the same but for the procedures that are to run, and it changes variables alone
abbrev SetUpAlike : List ℕ → State → Turned → Turned → Type 0
SetUpAlike chosen s (Leads ds place a) u = (ds ≡ []) × (u ≡ Leads [] place (record a { chosen = chosen })) × (a ≡ with_variables s a.store.variables)
SetUpAlike chosen s (Over ds ending a) u = Unit {0}
SetUpAlike chosen s (Broken ds k a) u = Unit {0}
SetUpAlike chosen s (Scanning ds job rest) u = ⊥
SetUpAlike chosen s (NoTurn ds) u = Unit {0}

-- each block of an initial value is another one than the new one
abbrev pub AreOthers : List ℕ → List Preset → Type 0
AreOthers name presets = AllByRecursion (λ (p : Preset). bytes_eq name p.block ≡ false) presets

module _ (name : List ℕ) (base : BaseLengths) (old new : Played) (h : IsCarried name base old new) (chosen2 : List ℕ) where
  set_up_alike : (presets : List Preset) → All (IsTypedPreset old) presets → AreOthers name presets → (s : State)
      → SetUpAlike chosen2 s (given_set_up old presets s) (given_set_up new presets (record s { chosen = chosen2 }))
  set_up_alike [] typed others s = (refl, refl, refl)
  set_up_alike (p ∷ presets) typed others s =
      let t : State = record s { chosen = chosen2 } in
      let starts : has_initial_value p.body ≡ true = (All-head (IsTypedPreset old) p presets typed).starts in
      let same : lookup_from new.names (Some p.block) ≡ lookup_from old.names (Some p.block) = h.looks (Some p.block) others.0 in
      let g : Got (List Held) = declared_values (lookup_from old.names (Some p.block)) p.body s.store.variables in
      let old_is : given_set_up old (p ∷ presets) s ≡ with_got g s (λ l. given_set_up old presets (with_variables s l)) =
      declared_then (preset_scope old p) p.body s (given_set_up old presets) starts in
      let new_is : given_set_up new (p ∷ presets) t ≡ with_got g t (λ l. given_set_up new presets (with_variables t l)) =
      declared_then (preset_scope new p) p.body t (given_set_up new presets) starts
      ∙ ap (λ look. with_got (declared_values look p.body s.store.variables) t (λ l. given_set_up new presets (with_variables t l))) same in
      subst (λ x. SetUpAlike chosen2 s x (given_set_up new (p ∷ presets) t)) (sym old_is)
      (subst (λ y. SetUpAlike chosen2 s (with_got g s (λ l. given_set_up old presets (with_variables s l))) y) (sym new_is)
      (by g (λ l. set_up_alike presets (All-tail (IsTypedPreset old) p presets typed) others.1 (with_variables s l))))
    where
      again : (l : List Held) (x y : Turned) → SetUpAlike chosen2 (with_variables s l) x y → SetUpAlike chosen2 s x y
      again l (Leads ds place a) y k = k
      again l (Over ds ending a) y k = tt
      again l (Broken ds f a) y k = tt
      again l (Scanning ds job rest) y k = absurd k
      again l (NoTurn ds) y k = tt

      by : (g : Got (List Held))
          → ((l : List Held) → SetUpAlike chosen2 (with_variables s l) (given_set_up old presets (with_variables s l))
          (given_set_up new presets (with_variables (record s { chosen = chosen2 }) l)))
          → SetUpAlike chosen2 s (with_got g s (λ l. given_set_up old presets (with_variables s l)))
          (with_got g (record s { chosen = chosen2 }) (λ l. given_set_up new presets (with_variables (record s { chosen = chosen2 }) l)))
      by (Known l) k = again l (given_set_up old presets (with_variables s l)) (given_set_up new presets (with_variables (record s { chosen = chosen2 }) l)) (k l)
      by (Faults f) k = tt
      by Stuck k = tt

-- ---- the play

-- what a run does not look at where the first procedure begins
first_state : (e : ℕ → ℕ) (a s t : State) (ps : List ℕ) (k : Chain) (go : ℕ → State → Chain → Run)
    → goes_on (happens k (next_chosen e a ps)) s k go ≡ goes_on (happens k (next_chosen e a ps)) t k go
first_state e a s t [] k go = refl
first_state e a s t (p ∷ ps) k go = refl

module _ (name : List ℕ) (base : BaseLengths) (old new : Played) (h : IsCarried name base old new) (typed : IsTyped old)
    (bare : EachBody (λ b. sets_padding b ≡ false) old.pieces) (others : AreOthers name (given old.presets))
    (a : base.ir_pre ≤ 65536) (b : base.ir_post ≤ 65536) (c : base.dr_pre ≤ 65536) (d : base.dr_post ≤ 65536) where
  abbrev count : ℕ
  count = procedures_in old.pieces

  new_first : entry_from new.pieces count ≡ length h.front + 1
  new_first =
      let more : List StmtTree =
      ones_padding paddings.PreInstruction base.ir_pre ∷ ones_padding paddings.PostInstruction base.ir_post
      ∷ ones_padding paddings.PreData base.dr_pre ∷ ones_padding paddings.PostData base.dr_post ∷ bare_statement end_procedure ∷ [] in
      let n : count ≡ procedures_in h.front =
      ap procedures_in h.old_is ∙ procedures_join name h.front h.tail ∙ none_more (procedures_in h.front) (procedures_in h.tail) (no_procedures name h.tail h.apart) in
      ap (λ (ps : List StmtTree). entry_from ps count) h.new_is
      ∙ ap (λ m. entry_from (map (with_item name) h.front ++ (padding_procedure name base ++ h.end)) m) n
      ∙ new_entry name h.front (more ++ h.end)
    where
      none_more : (x y : ℕ) → y ≡ 0 → x + y ≡ x
      none_more x y e = omega arith

  module _ (chosen : List ℕ) (n : ℕ) (below : AreBelow count chosen) where
    abbrev s0 : State
    s0 = start chosen (zeros_of old)

    -- from where the first procedure begins
    begun_same : (vs : List Held) (k : Chain) → k.base ≡ base
        → (goes_on (happens k (next_chosen (entry_from old.pieces) (with_variables s0 vs) chosen)) s0 k (run old n)).outcome ≢ Stopped
        → run new (n + 5) (entry_from new.pieces count) (with_variables s0 vs) (unbased k)
        ≡ carried_run base (goes_on (happens k (next_chosen (entry_from old.pieces) (with_variables s0 vs) chosen)) s0 k (run old n))
    begun_same vs k own live =
        let first : State = with_variables s0 vs in
        let old_entry : ℕ → ℕ = entry_from old.pieces in
        let entry_in_new : ℕ → ℕ = entry_from new.pieces in
        let five : n + 5 ≡ suc (suc (suc (suc (suc n)))) = omega arith in
        let fits : Fits base count first = ((refl, refl), (refl, refl), below) in
        let same : goes_on (happens k (next_chosen old_entry first chosen)) s0 k (run old n) ≡ goes_on (happens k (next_chosen old_entry first chosen)) first k (run old n) =
        first_state old_entry first s0 first chosen k (run old n) in
        let live1 : (goes_on (happens k (next_chosen old_entry first chosen)) first k (run old n)).outcome ≢ Stopped = subst (λ (r : Run). r.outcome ≢ Stopped) same live in
        ap (λ m. run new m (entry_in_new count) first (unbased k)) five
        ∙ five_turns name base new h.front h.end h.new_is a b c d n (entry_in_new count) first (unbased k) new_first refl
        ∙ turn_then_same base count (next_chosen old_entry first chosen) (next_chosen entry_in_new (padded_state base first) chosen) first k (run old n) (run new n)
        (chosen_same base count old_entry entry_in_new (same_entries name base old new h typed bare) first fits chosen below) own live1
        (λ place t l p q r. runs_same base count old new (same_turns name base old new h typed bare) n place t l p q r)
        ∙ ap (carried_run base) (sym same)

    pub procedures_same : (k : Chain) → k.base ≡ base → (procedures_run old chosen n k).outcome ≢ Stopped
        → procedures_run new (count ∷ chosen) (n + 5) (unbased k) ≡ carried_run base (procedures_run old chosen n k)
    procedures_same k own live =
        let s1 : State = start (count ∷ chosen) (zeros_of old) in
        let same_zeros : zeros_of new ≡ zeros_of old = ap (map zero_of) h.variables in
        let os : List Preset = given old.presets in
        let u : Turned = given_set_up new os s1 in
        let new_is : set_up new new.presets s1 ≡ u = set_up_given new new.presets s1 ∙ ap (λ ps. given_set_up new ps s1) h.presets in
        let old_is : set_up old old.presets s0 ≡ given_set_up old os s0 = set_up_given old old.presets s0 in
        ap (λ zs. procedures_from (start (count ∷ chosen) zs) (set_up new new.presets (start (count ∷ chosen) zs))) same_zeros ∙ ap (procedures_from s1) new_is
        ∙ by (set_up old old.presets s0) u
        (subst (λ t. SetUpAlike (count ∷ chosen) s0 t u) (sym old_is)
        (set_up_alike name base old new h (count ∷ chosen) os (all_given (IsTypedPreset old) old.presets typed.presets) others s0)) live
      where
        procedures_from : State → Turned → Run
        procedures_from s t = goes_on (happens (unbased k) (begun (entry_from new.pieces) t)) s (unbased k) (run new (n + 5))

        by : (t u : Turned) → SetUpAlike (count ∷ chosen) s0 t u → (goes_on (happens k (begun (entry_from old.pieces) t)) s0 k (run old n)).outcome ≢ Stopped
            → goes_on (happens (unbased k) (begun (entry_from new.pieces) u)) (start (count ∷ chosen) (zeros_of old)) (unbased k) (run new (n + 5))
            ≡ carried_run base (goes_on (happens k (begun (entry_from old.pieces) t)) s0 k (run old n))
        by (Leads ds place x) u p live =
            let old_entry : ℕ → ℕ = entry_from old.pieces in
            let entry_in_new : ℕ → ℕ = entry_from new.pieces in
            let vs : List Held = x.store.variables in
            let first : State = with_variables s0 vs in
            let old_is : begun old_entry (Leads ds place x) ≡ next_chosen old_entry first chosen =
            ap (λ ds. preceded ds (next_chosen old_entry x x.chosen)) p.0
            ∙ ap (λ (x : State). preceded [] (next_chosen old_entry x x.chosen)) p.2 ∙ preceded_none (next_chosen old_entry first chosen) in
            let new_is : begun entry_in_new u ≡ Leads [] (entry_in_new count) first =
            ap (begun entry_in_new) p.1 ∙ ap (λ (x : State). begun entry_in_new (Leads [] place (record x { chosen = count ∷ chosen }))) p.2 in
            let live1 : (goes_on (happens k (next_chosen old_entry first chosen)) s0 k (run old n)).outcome ≢ Stopped =
            subst (λ t. (goes_on (happens k t) s0 k (run old n)).outcome ≢ Stopped) old_is live in
            ap (λ t. goes_on (happens (unbased k) t) (start (count ∷ chosen) (zeros_of old)) (unbased k) (run new (n + 5))) new_is
            ∙ begun_same vs k own live1
            ∙ ap (λ t. carried_run base (goes_on (happens k t) s0 k (run old n))) (sym old_is)
        by (Over ds ending x) u p live = absurd (live refl)
        by (Broken ds f x) u p live = absurd (live refl)
        by (Scanning ds job rest) u p live = absurd p
        by (NoTurn ds) u p live = absurd (live refl)

    pub plays_same : (far : FarEnd) → (play old chosen n base far).outcome ≢ Stopped
        → play new (count ∷ chosen) (n + 5) no_base far ≡ carried_run base (play old chosen n base far)
    plays_same far live = ap (after (reset_events far)) (procedures_same (chain_reset base far) refl live)
