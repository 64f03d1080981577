-- The prologue of the code of an accepted program breaks no rule, and its instructions are in their ranges.
use Rattle.std.proofs.Common.{◌≡◌, ℕ, ◌+◌, ◌≤◌, Bool, true, false, ◌&&◌, List, [], ◌∷◌, length, drop, add-one, Option, Some, None, arith, refl, sym, ap, subst, ◌∙◌, true≢false}
use Rattle.std.specs.Prelude.{All, IfSome, map, nat_abs, slice_get}
use Rattle.std.specs.Option.{option_map}
use Rattle.std.proofs.lemmas.List.{append-nil}
use Rattle.std.proofs.lemmas.List.Elements.{All-head, All-tail}
use Rattle.std.proofs.lemmas.Option.{slice_get-map}
use Rattle.stapl_syntax.specs.declared.names.Declaration.{Declaration}
use Rattle.stapl_syntax.specs.Names.{declaration}
use Rattle.stapl_syntax.specs.Kinds.{is_bit_array, operands_suit}
use Rattle.stapl_syntax.specs.Trees.{BodyTree, boolean, boolean_array, integer, integer_array, call, if_then}
use Rattle.stapl_shapes.specs.Shapes.{is_inner_shape}
use Rattle.stapl_meaning.specs.declared.values.ValueKind.{ValueKind}
use Rattle.stapl_meaning.specs.declared.values.ValueKind.TheVariants as kinds
use Rattle.stapl_meaning.specs.Values.{Lookup}
use Rattle.stapl_meaning.specs.Scopes.{has_initial_value, Preset, Scope, Played, preset_scope}
use Rattle.stapl_meaning.specs.Typed.{IsDeclared, IsTypedPreset}
use Rattle.stapl_code.specs.declared.instr.Instr.{Instr}
use Rattle.stapl_code.specs.declared.instr.Instr.TheVariants.{Push, PushBit, Store, SetBits, SetInts}
use Rattle.stapl_code.specs.declared.raw.VarDef.{VarDef}
use Rattle.stapl_code.specs.Kinds.{kinds_after}
use Rattle.stapl_code.specs.Valid.{is_last, sets_up, kinds_kept, judged, prologue_break}
use Rattle.stapl_meaning.specs.Turns.{rows}
use Rattle.stapl_codegen.specs.Emit.{Firsts, row_texts, row_literals, rows_items, literals_of, preset_firsts, row_code, rows_code, preset_code, presets_code}
use Rattle.stapl_codegen.specs.Generated.{kind_number, variable_def}
use Rattle.stapl_code.proofs.Heads.{drop_tail}
use Rattle.stapl_codegen.proofs.Drafts.{one_row}
use Rattle.stapl_codegen.proofs.Texts.{no_texts, preset_below}
use Rattle.stapl_codegen.proofs.Ranges.{InRange, CallsThere, AreThere, agrees_from, body_range}
use Rattle.stapl_codegen.proofs.Sides.{held_kind}
use Rattle.stapl_codegen.proofs.WellKinded.{Agrees, scalar_agrees, bits_agree, integers_agree}
use Rattle.stapl_codegen.proofs.WellPlaced.{store_finds, wanted}

module _ (program : Played) where
  abbrev pub defs : List VarDef
  defs = map variable_def program.names.variables

  -- these instructions of the prologue break no rule, where the operands have these kinds
  abbrev Fine : List ValueKind → List Instr → Type 0
  Fine ks rest = (i : ℕ) → prologue_break defs i ks rest ≡ None

  -- an instruction that leaves operands, and is not the last, and one that leaves none
  one_more : (x y : Instr) (ks after : List ValueKind) (rest : List Instr) → kinds_after defs x ks ≡ Some after → sets_up x ≡ true → Fine after (y ∷ rest) → Fine ks (x ∷ y ∷ rest)
  one_more x y ks after rest finds sets more i =
      ap (λ o. judged o (sets_up x) i (λ ks. prologue_break defs (i + 1) ks (y ∷ rest))) finds
      ∙ ap (λ b. judged (Some after) b i (λ ks. prologue_break defs (i + 1) ks (y ∷ rest))) sets
      ∙ more (i + 1)

  none_left : (b : Bool) → kinds_kept b (Some []) ≡ Some []
  none_left true = refl
  none_left false = refl

  one_last : (x : Instr) (ks : List ValueKind) (rest : List Instr) → kinds_after defs x ks ≡ Some [] → sets_up x ≡ true → Fine [] rest → Fine ks (x ∷ rest)
  one_last x ks rest finds sets more i =
      ap (λ o. judged (kinds_kept (is_last rest) o) (sets_up x) i (λ ks. prologue_break defs (i + 1) ks rest)) finds
      ∙ ap (λ o. judged o (sets_up x) i (λ ks. prologue_break defs (i + 1) ks rest)) (none_left (is_last rest))
      ∙ ap (λ b. judged (Some []) b i (λ ks. prologue_break defs (i + 1) ks rest)) sets
      ∙ more (i + 1)

  module _ (scope : Scope) (agrees : Agrees defs scope.look) (place : ℕ → ℕ) where
    abbrev HasKind : BodyTree → Type 0
    HasKind b = IfSome (declaration b) (λ (d : Declaration). scope.look.kind d.name ≡ Some d.kind)

    preset_fine : (first : Firsts) (b : BodyTree) (rest : List Instr) → has_initial_value b ≡ true → HasKind b → Fine [] rest → Fine [] (row_code scope place first b rest)
    preset_fine first (boolean name (Some true)) rest starts is more =
        let n : ℕ = scope.look.variable name in
        one_more (PushBit 1) (Store n) [] (kinds.Bit ∷ []) rest refl refl
        (one_last (Store n) (kinds.Bit ∷ []) rest (store_finds defs n kinds.Bit (scalar_agrees defs scope.look agrees name kinds.Bit (ap held_kind is))) refl more)
    preset_fine first (boolean name (Some false)) rest starts is more =
        let n : ℕ = scope.look.variable name in
        one_more (PushBit 0) (Store n) [] (kinds.Bit ∷ []) rest refl refl
        (one_last (Store n) (kinds.Bit ∷ []) rest (store_finds defs n kinds.Bit (scalar_agrees defs scope.look agrees name kinds.Bit (ap held_kind is))) refl more)
    preset_fine first (boolean_array name size (Some bits)) rest starts is more =
        let set : Instr = SetBits (scope.look.variable name) first.literal in
        one_last set [] rest (wanted defs set [] [] (ap (λ b. b && true) (bits_agree defs scope.look agrees name (ap is_bit_array is))) refl) refl more
    preset_fine first (integer name (Some z)) rest starts is more =
        let n : ℕ = scope.look.variable name in
        one_more (Push z) (Store n) [] (kinds.Int ∷ []) rest refl refl
        (one_last (Store n) (kinds.Int ∷ []) rest (store_finds defs n kinds.Int (scalar_agrees defs scope.look agrees name kinds.Int (ap held_kind is))) refl more)
    preset_fine first (integer_array name size (Some zs)) rest starts is more =
        let set : Instr = SetInts (scope.look.variable name) zs in
        one_last set [] rest (wanted defs set [] [] (ap (λ b. b && true) (integers_agree defs scope.look agrees name is)) refl) refl more
    preset_fine first (boolean name None) rest starts is more = absurd (true≢false (sym starts))
    preset_fine first (boolean_array name size None) rest starts is more = absurd (true≢false (sym starts))
    preset_fine first (integer name None) rest starts is more = absurd (true≢false (sym starts))
    preset_fine first (integer_array name size None) rest starts is more = absurd (true≢false (sym starts))
    preset_fine first _ rest starts is more = absurd (true≢false (sym starts))

  kind_declared : (look : Lookup) (piece : ℕ) (block : List ℕ) (o : Option Declaration) → IfSome o (IsDeclared program look piece block) →
      IfSome o (λ (d : Declaration). look.kind d.name ≡ Some d.kind)
  kind_declared look piece block None is = tt
  kind_declared look piece block (Some d) is = is.kind

  agrees_in : (preset : Preset) → Agrees defs (preset_scope program preset).look
  agrees_in preset = agrees_from program.names (Some preset.block)

  pub prologue_fine : (place : ℕ → ℕ) (i : ℕ) (presets : List (Option Preset)) → All (λ o. IfSome o (IsTypedPreset program)) presets → Fine [] (presets_code program place i presets [])
  prologue_fine place i [] typed = λ i. refl
  prologue_fine place i (preset ∷ presets) typed =
      let Typed : Option Preset → Type 0 = λ o. IfSome o (IsTypedPreset program) in
      by preset (presets_code program place (i + 1) presets []) (All-head Typed preset presets typed) (prologue_fine place (i + 1) presets (All-tail Typed preset presets typed))
    where
      by : (o : Option Preset) (rest : List Instr) → IfSome o (IsTypedPreset program) → Fine [] rest → Fine [] (preset_code program place i o rest)
      by None rest own more = more
      by (Some preset) rest own more =
          preset_fine (preset_scope program preset) (agrees_in preset) place (preset_firsts program i) preset.body rest
          own.starts (kind_declared (preset_scope program preset).look own.piece preset.block (declaration preset.body) own.declares) more

  -- ---- ranges

  module _ (place : ℕ → ℕ) (literals texts procedures : ℕ) where
    defined : (look : Lookup) (piece : ℕ) (block : List ℕ) (o : Option Declaration) → IfSome o (IsDeclared program look piece block) →
        IfSome o (λ (d : Declaration). slice_get defs (look.variable d.name) ≡ Some (record { kind = kind_number d.kind; size = nat_abs d.size }))
    defined look piece block None is = tt
    defined look piece block (Some d) is =
        slice_get-map variable_def program.names.variables (look.variable d.name) ∙ ap (option_map variable_def) is.entry

    preset_suits : (look : Lookup) (b : BodyTree) → has_initial_value b ≡ true → operands_suit look.kind b ≡ true
    preset_suits look (boolean name start) starts = refl
    preset_suits look (boolean_array name size start) starts = refl
    preset_suits look (integer name start) starts = refl
    preset_suits look (integer_array name size start) starts = refl
    preset_suits look _ starts = absurd (true≢false (sym starts))

    -- the numbers of the constants of an initial value
    there : (first : Firsts) (preset : Preset) → has_initial_value preset.body ≡ true → rows preset.body ≡ preset.body ∷ [] →
        first.text ≤ texts → first.literal + length (row_literals preset.body) ≤ literals →
        AreThere defs literals texts procedures (preset_scope program preset) (agrees_in preset) place first preset.body
    there first preset starts one few_texts few_literals = record {
      few_texts = omega (
        arith,
        few_texts,
        ap length (no_texts preset.body starts),
        ap length (ap (rows_items row_texts) one ∙ append-nil (row_texts preset.body)),
      );
      few_literals = omega (arith, few_literals, ap length (ap (rows_items row_literals) one ∙ append-nil (row_literals preset.body)));
      calls = none_called preset.body starts;
    }
      where
        none_called : (b : BodyTree) → has_initial_value b ≡ true → CallsThere defs literals texts procedures (preset_scope program preset) (agrees_in preset) place b
        none_called (call name) e = absurd (true≢false (sym e))
        none_called (if_then c b) e = absurd (true≢false (sym e))
        none_called _ e = tt

    -- an initial value at a place, before the rest
    preset_range : (i : ℕ) (o : Option Preset) (others : List (Option Preset)) (rest : List Instr) → drop i program.presets ≡ o ∷ others → length (literals_of program) ≤ literals →
        IfSome o (IsTypedPreset program) → IfSome o (λ preset. is_inner_shape preset.body ≡ true) →
        InRange defs literals texts procedures rest → InRange defs literals texts procedures (preset_code program place i o rest)
    preset_range i None others rest e all own shaped more = more
    preset_range i (Some preset) others rest e all own shaped more =
        let scope : Scope = preset_scope program preset in
        let first : Firsts = preset_firsts program i in
        let one = one_row preset.body own.starts in
        subst (λ bs. InRange defs literals texts procedures (rows_code scope place first bs rest)) one
        (body_range defs literals texts procedures scope (agrees_in preset) place first preset.body rest
        shaped (preset_suits scope.look preset.body own.starts)
        (defined scope.look own.piece preset.block (declaration preset.body) own.declares) own.few_values
        (there first preset own.starts one (omega arith) (omega (arith, all, preset_below i program preset others e))) more)

    pub presets_range : (i : ℕ) (presets : List (Option Preset)) (rest : List Instr) → drop i program.presets ≡ presets → length (literals_of program) ≤ literals →
        All (λ o. IfSome o (IsTypedPreset program)) presets → All (λ (o : Option Preset). IfSome o (λ preset. is_inner_shape preset.body ≡ true)) presets →
        InRange defs literals texts procedures rest → InRange defs literals texts procedures (presets_code program place i presets rest)
    presets_range i [] rest e all typed shaped more = more
    presets_range i (preset ∷ presets) rest e all typed shaped more =
        let Typed : Option Preset → Type 0 = λ o. IfSome o (IsTypedPreset program) in
        let Shaped : Option Preset → Type 0 = λ o. IfSome o (λ (preset : Preset). is_inner_shape preset.body ≡ true) in
        let next : drop (i + 1) program.presets ≡ presets = rw add-one (drop_tail i program.presets ∙ ap (drop 1) e) in
        preset_range i preset presets (presets_code program place (i + 1) presets rest) e all (All-head Typed preset presets typed) (All-head Shaped preset presets shaped)
        (presets_range (i + 1) presets rest next all (All-tail Typed preset presets typed) (All-tail Shaped preset presets shaped) more)
