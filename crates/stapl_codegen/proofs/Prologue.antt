-- The prologue of the code does what the initial values of DATA blocks do.
use Rattle.std.proofs.Common.{◌≡◌, ℕ, Bool, true, List, [], ◌∷◌, ◌++◌, Option, None, Some, ◌+◌, drop, add-one, refl, sym, ap, ◌∙◌, append_assoc}
use Rattle.std.proofs.lemmas.List.Elements.{All-head, All-tail}
use Rattle.stapl_syntax.specs.Trees.{BodyTree, end_data}
use Rattle.stapl_meaning.specs.declared.values.Value.{Value}
use Rattle.stapl_meaning.specs.Values.{Got, Known, Faults, Stuck}
use Rattle.stapl_meaning.specs.Operands.{values_of}
use Rattle.stapl_meaning.specs.Deeds.{Deed, Chain}
use Rattle.stapl_meaning.specs.States.{State, Did, Falls, Jumps, Resumes, Returns, Ends, Captures, Turned, Leads, Over, Broken, Scanning, NoTurn, with_got, preceded, next_chosen, begun, led, Led, happens}
use Rattle.stapl_meaning.specs.Scopes.{has_initial_value, Preset, Scope, Played, entry_from, preset_scope}
use Rattle.stapl_meaning.specs.Turns.{operands, effect, target, carried}
use Rattle.stapl_meaning.specs.Plays.{preset_done, set_up, beginning}
use Rattle.stapl_code.specs.declared.instr.Instr.{Instr}
use Rattle.stapl_code.specs.Machine.{Constants, entry_of, begins_chosen, stretch}
use Rattle.stapl_code.proofs.Heads.{drop_tail}
use Rattle.stapl_code.proofs.Preceded.{happens_begun}
use Rattle.stapl_codegen.specs.Emit.{program_constants, Firsts, row_texts, row_literals, preset_firsts, presets_code}
use Rattle.stapl_codegen.proofs.Constants.{HasConstants}
use Rattle.stapl_codegen.specs.Correct.{placed_state, Starts, AllStart}
use Rattle.stapl_codegen.proofs.Rows.{starts_no_call}
use Rattle.stapl_codegen.proofs.Bodies.{end_law, row_follows, row_tied}
use Rattle.stapl_codegen.proofs.Placed.{placed, preceded_placed}

-- deeds in front, and others in front of these
preceded_twice : (first second : List Deed) (t : Turned) → preceded first (preceded second t) ≡ preceded (first ++ second) t
preceded_twice first second (Leads deeds place s) = ap (λ l. let t : Turned = Leads l place s in t) (sym (append_assoc first second deeds))
preceded_twice first second (Over deeds ending s) = ap (λ l. let t : Turned = Over l ending s in t) (sym (append_assoc first second deeds))
preceded_twice first second (Broken deeds k s) = ap (λ l. let t : Turned = Broken l k s in t) (sym (append_assoc first second deeds))
preceded_twice first second (Scanning deeds job rest) = ap (λ l. let t : Turned = Scanning l job rest in t) (sym (append_assoc first second deeds))
preceded_twice first second (NoTurn deeds) = ap (λ l. let t : Turned = NoTurn l in t) (sym (append_assoc first second deeds))

-- deeds of the prologue stand in front of the run
begun_preceded : (entry : ℕ → ℕ) (deeds : List Deed) (t : Turned) → begun entry (preceded deeds t) ≡ preceded deeds (begun entry t)
begun_preceded entry deeds (Leads more place s) = sym (preceded_twice deeds more (next_chosen entry s s.chosen))
begun_preceded entry deeds (Over more ending s) = refl
begun_preceded entry deeds (Broken more k s) = refl
begun_preceded entry deeds (Scanning more job rest) = refl
begun_preceded entry deeds (NoTurn more) = refl

-- ---- where the last one leads is of no matter

-- initial values are set, and this place follows
abbrev set_up_to : Played → ℕ → List (Option Preset) → State → Turned
set_up_to program place [] s = Leads [] place s
set_up_to program place (preset ∷ presets) s = preset_done program preset s (set_up_to program place presets)

module _ (entry : ℕ → ℕ) (scope : Scope) where
  -- two ways to go on, after which the same begins
  abbrev BeginAlike : (State → Turned) → (State → Turned) → Type 0
  BeginAlike go go' = (s : State) → begun entry (go s) ≡ begun entry (go' s)

  module _ (go go' : State → Turned) (alike : BeginAlike go go') where
    led_alike : (b : BodyTree) (s : State) (did : Got Did) →
        begun entry (with_got did s (λ d. led scope.entry (target scope b) d go)) ≡ begun entry (with_got did s (λ d. led scope.entry (target scope b) d go'))
    led_alike b s (Known (Falls deeds t)) = begun_preceded entry deeds (go t) ∙ ap (preceded deeds) (alike t) ∙ sym (begun_preceded entry deeds (go' t))
    led_alike b s (Known (Captures job lands)) = λ j. Scanning [] job (λ bits. alike (lands bits) j)
    led_alike b s (Known (Jumps t)) = refl
    led_alike b s (Known (Resumes i t)) = refl
    led_alike b s (Known (Returns t)) = refl
    led_alike b s (Known (Ends ending t)) = refl
    led_alike b s (Faults k) = refl
    led_alike b s Stuck = refl

    values_alike : (b : BodyTree) (s : State) (values : Got (List Value)) →
        begun entry (with_got values s (λ vs. with_got (effect scope b vs s) s (λ d. led scope.entry (target scope b) d go)))
        ≡ begun entry (with_got values s (λ vs. with_got (effect scope b vs s) s (λ d. led scope.entry (target scope b) d go')))
    values_alike b s (Known vs) = led_alike b s (effect scope b vs s)
    values_alike b s (Faults k) = refl
    values_alike b s Stuck = refl

    carried_alike : (b : BodyTree) (s : State) → begun entry (carried scope b s go) ≡ begun entry (carried scope b s go')
    carried_alike b s = values_alike b s (values_of scope.look s.store.variables (operands scope b))

set_up_alike : (program : Played) (place : ℕ) (presets : List (Option Preset)) (s : State) →
    begun (entry_from program.pieces) (set_up_to program place presets s) ≡ begun (entry_from program.pieces) (set_up program presets s)
set_up_alike program place [] s = refl
set_up_alike program place (None ∷ presets) s = set_up_alike program place presets s
set_up_alike program place (Some preset ∷ presets) s =
    carried_alike (entry_from program.pieces) (preset_scope program preset) (set_up_to program place presets) (set_up program presets)
    (set_up_alike program place presets) preset.body s

-- ---- the prologue

module _ (program : Played) (place : ℕ → ℕ) (entries : List ℕ) (texts : List (List ℕ)) (literals : List (List Bool))
    (total : ℕ) (entry_is : (p : ℕ) → entry_of entries p ≡ place (entry_from program.pieces p)) where
  abbrev constants : Constants
  constants = program_constants texts literals

  -- what stands after the prologue leads to a place
  abbrev LeadsTo : ℕ → List Instr → Type 0
  LeadsTo first_place rest = (t : State) (k : Chain) → stretch entries constants total rest [] t k ≡ Led [] (place first_place) t k

  -- the constants have what an initial value at a place has
  abbrev AreKnown : Type 0
  AreKnown = (i : ℕ) (preset : Preset) (others : List (Option Preset)) → drop i program.presets ≡ Some preset ∷ others → has_initial_value preset.body ≡ true →
      HasConstants constants (preset_firsts program i) (row_texts preset.body) (row_literals preset.body)

  module _ (first_place : ℕ) (rest : List Instr) (known : AreKnown) where
    -- from a place on, the prologue does what the initial values do
    abbrev Follows : ℕ → List (Option Preset) → Type 0
    Follows i presets = (s : State) (k : Chain) →
        stretch entries constants total (presets_code program place i presets rest) [] (placed_state place s) k ≡ happens k (placed place (set_up_to program first_place presets s))

    preset_follows : (i : ℕ) (o : Option Preset) (presets : List (Option Preset)) → drop i program.presets ≡ o ∷ presets → Starts o → Follows (i + 1) presets → Follows i (o ∷ presets)
    preset_follows i None presets e starts others s k = others s k
    preset_follows i (Some preset) presets e starts others s k =
        let b : BodyTree = preset.body in
        let first : Firsts = preset_firsts program i in
        row_follows place entries texts literals total (preset_scope program preset) s k first b (presets_code program place (i + 1) presets rest)
        (set_up_to program first_place presets) (row_tied place entries texts literals total (preset_scope program preset) first b entry_is (known i preset presets e starts))
        (λ is. absurd (starts_no_call b starts is))
        others

    prologue_follows : LeadsTo first_place rest → (i : ℕ) (presets : List (Option Preset)) → drop i program.presets ≡ presets → AllStart presets → Follows i presets
    prologue_follows after i [] e start s k = after (placed_state place s) k
    prologue_follows after i (o ∷ presets) e start s k =
        let next : drop (i + 1) program.presets ≡ presets = rw add-one (drop_tail i program.presets ∙ ap (drop 1) e) in
        preset_follows i o presets e (All-head Starts o presets start) (prologue_follows after (i + 1) presets next (All-tail Starts o presets start)) s k

  begun_placed : (t : Turned) → begun (entry_of entries) (placed place t) ≡ placed place (begun (entry_from program.pieces) t)
  begun_placed (Leads deeds i s) =
      ap (preceded deeds) (end_law place entries texts literals total (preset_scope program (record { block = []; body = end_data })) s s.chosen entry_is)
      ∙ preceded_placed place deeds (next_chosen (entry_from program.pieces) s s.chosen)
  begun_placed (Over deeds ending s) = refl
  begun_placed (Broken deeds k s) = refl
  begun_placed (Scanning deeds job rest) = λ j. Scanning deeds job (λ bits. begun_placed (rest bits) j)
  begun_placed (NoTurn deeds) = refl

  -- the beginning of a run of chosen procedures
  pub begins_alike : (first_place : ℕ) (rest : List Instr) (s : State) (k : Chain) → AreKnown → AllStart program.presets → LeadsTo first_place rest →
      begins_chosen (entry_of entries) (stretch entries constants total (presets_code program place 0 program.presets rest) [] (placed_state place s) k)
      ≡ happens k (placed place (beginning program s))
  begins_alike first_place rest s k known start after =
      let front : Turned = set_up_to program first_place program.presets s in
      ap (begins_chosen (entry_of entries)) (prologue_follows first_place rest known after 0 program.presets refl start s k)
      ∙ sym (happens_begun (entry_of entries) k (placed place front))
      ∙ ap (happens k) (begun_placed front ∙ ap (placed place) (set_up_alike program first_place program.presets s))
