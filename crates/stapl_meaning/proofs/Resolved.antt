-- What a statement of a program names is there: its variables, its labels, and the procedures of an ACTION.
use Rattle.std.proofs.Common.{◌≡◌, ℕ, zero, suc, ◌+◌, ◌-◌, ◌<◌, Bool, true, false, not, ◌||◌, if◌then◌else◌, List, [], ◌∷◌, ◌++◌, length, map, slice_get, Option, Some, None, is_some, is_none, refl, sym, ap, subst, ◌∙◌, arith, All, IfSome}
use Rattle.std.specs.List.{list_any, list_all, AllByRecursion}
use Rattle.std.specs.Option.{option_map_or}
use Rattle.std.specs.Map.{lookup}
use Rattle.std.specs.Str.{bytes_eq}
use Rattle.std.proofs.lemmas.Bool.{and_parts, or_parts, not-true, not-false, true≢false}
use Rattle.std.proofs.lemmas.List.Elements.{All-nil, All-cons}
use Rattle.std.proofs.lemmas.List.Folds.{list_any-append}
use Rattle.std.proofs.lemmas.Option.{same_Some, none-some, slice_get_within}
use Rattle.std.proofs.lemmas.Slice.Eq.{bytes_eq-Decides}
use Rattle.stapl_lexer.specs.declared.reason.Reason.TheVariants as reasons
use Rattle.stapl_syntax.specs.declared.names.Block.{Block}
use Rattle.stapl_syntax.specs.declared.names.Key.{Key}
use Rattle.stapl_syntax.specs.Trees.{ItemTree, BodyTree, note, action, procedure, data_block, end_data, crc, call, if_then, StmtTree}
use Rattle.stapl_syntax.specs.Statements.{is_outer, begins_procedure}
use Rattle.stapl_shapes.specs.Shapes.{is_outer_shape, is_inner_shape, HasShape}
use Rattle.stapl_syntax.specs.Names.{numbered, block_of, block_of_body, label_of, label_in, key_in, key_eq, declared, declaration, block_named, has_label}
use Rattle.stapl_syntax.specs.Mentions.{variables_named, item_name, procedures_named, blocks_used, labels_named}
use Rattle.stapl_syntax.specs.Rules.{is_absent, is_data_block, Known, known_from, names_undefined, is_well_kinded, has_too_many_values}
use Rattle.stapl_syntax.specs.Kinds.{operands_suit}
use Rattle.stapl_meaning.specs.Scopes.{plays, pieces_from, Preset, preset_of, presets_from, program_names, as_played, block_at, lookup_from, label_from, procedures_in, procedure_before, procedure_number}
use Rattle.stapl_meaning.specs.Typed.{IsInBlock, IsDeclared, IsTypedAt, IsTypedPreset, NamesProcedure, NamesProcedures}
use Rattle.stapl_meaning.proofs.Entries.{name_same, key_same, all_from_each, all_declared, all_firsts, found_holds}
use Rattle.stapl_meaning.proofs.Sound.{IsSound}
use Rattle.stapl_meaning.proofs.Blocks.{same_count, IsAligned, data_at, aligned_at, IsOwn, own_inside, IsPieceOf, plays_at, idles, piece_at, own_piece, all_presets, preset_in}
use Rattle.stapl_meaning.proofs.Ordered.{IsNoData, BeginsOutside, none_outside, none_labelled, stands_at}
use Rattle.stapl_meaning.proofs.Declared.{declared_at}
use Rattle.stapl_meaning.proofs.Sized.{few_values_at}

-- ---- what is not undefined, by kinds of names

known_parts : (known : Known) (body : BodyTree) → names_undefined known body ≡ false →
    (list_any (λ name. is_absent (known.found name)) (variables_named body) ≡ false)
    × (list_any (λ name. is_none (known.block name)) (procedures_named body ++ blocks_used body) ≡ false)
    × (list_any (λ name. not (known.label name)) (labels_named body) ≡ false)
known_parts known body e =
    let variables = list_any (λ name. is_absent (known.found name)) (variables_named body) in
    let blocks = list_any (λ name. is_none (known.block name)) (procedures_named body ++ blocks_used body) in
    let most = or_parts (variables || blocks) (list_any (λ name. not (known.label name)) (labels_named body)) e in
    let first = or_parts variables blocks most.0 in
    (first.0, first.1, most.1)

-- ---- labels

-- the label is that of a piece of the procedure
abbrev StandsAs : List StmtTree → Key × ℕ → Type 0
StandsAs program e = IsInBlock (as_played program) e.0.block (e.1 - 1)

label_stands : (program : List StmtTree) → IsSound program → (i : ℕ) (st : StmtTree) (e : Key × ℕ) → slice_get program i ≡ Some st →
    label_of (block_at program i) (1 + i) st ≡ Some e → StandsAs program e
label_stands program sound i st e at is = by (block_at program i) st.label refl refl is
  where
    by : (now label : Option (List ℕ)) → block_at program i ≡ now → st.label ≡ label → label_in now (1 + i) label ≡ Some e → StandsAs program e
    by None label inside has is = absurd (none-some e is)
    by (Some block) None inside has is = absurd (none-some e is)
    by (Some block) (Some name) inside has is =
        let place : i ≡ 1 + i - 1 = omega arith in
        let own = own_inside program sound i (none_labelled program sound i st name at has) in
        let below : i < length (pieces_from None program) = omega (arith, slice_get_within program i st at, same_count None program) in
        subst (StandsAs program) (same_Some (key_in block name, 1 + i) e is)
        (subst (IsInBlock (as_played program) block) place (record { within = below; inside = own ∙ inside }))

module _ (program : List StmtTree) (sound : IsSound program) where
  labels_stand : All (StandsAs program) (program_names program).labels
  labels_stand =
      all_firsts key_eq (StandsAs program) (declared label_of (numbered (map Some program)))
      (all_declared label_of (StandsAs program) program None 1 (λ i st e at is. label_stands program sound i st e at is))

  label_there : (none : ℕ) (block name : List ℕ) → has_label (program_names program) (Some block) name ≡ true →
      IsInBlock (as_played program) block (label_from (program_names program) none (Some block) name)
  label_there none block name has = by (lookup (key_eq (key_in block name)) (program_names program).labels) refl has
    where
      by : (o : Option ℕ) → lookup (key_eq (key_in block name)) (program_names program).labels ≡ o → is_some o ≡ true → IsInBlock (as_played program) block (option_map_or (λ piece. piece - 1) o none)
      by None e has = absurd (true≢false (sym has))
      by (Some piece) e has =
          found_holds key_eq key_same (StandsAs program) (program_names program).labels (key_in block name) piece labels_stand e

  labels_there : (none : ℕ) (block : List ℕ) (listed : List (List ℕ)) → list_any (λ name. not (has_label (program_names program) (Some block) name)) listed ≡ false →
      AllByRecursion (λ name. IsInBlock (as_played program) block (label_from (program_names program) none (Some block) name)) listed
  labels_there none block [] has = tt
  labels_there none block (name ∷ listed) has =
      let both = or_parts (not (has_label (program_names program) (Some block) name)) (list_any (λ name. not (has_label (program_names program) (Some block) name)) listed) has in
      (label_there none block name (not-false (has_label (program_names program) (Some block) name) both.0), labels_there none block listed both.1)

-- ---- statements of procedures

inner_only : (body : BodyTree) → is_outer body ≡ false → is_outer_shape body ≡ false
inner_only (action name text items) e = absurd (true≢false e)
inner_only (note key text) e = absurd (true≢false e)
inner_only (procedure name uses) e = absurd (true≢false e)
inner_only (data_block name) e = absurd (true≢false e)
inner_only end_data e = absurd (true≢false e)
inner_only (crc n) e = absurd (true≢false e)
inner_only _ e = refl

pub inner_has_shape : (st : StmtTree) → HasShape st → is_outer st.body ≡ false → is_inner_shape st.body ≡ true
inner_has_shape st shaped inner = sym (ap (λ (b : Bool). b || is_inner_shape st.body) (inner_only st.body inner)) ∙ shaped

module _ (program : List StmtTree) (sound : IsSound program) where
  typed_own : (i : ℕ) (st : StmtTree) → IsOwn program sound i st → is_outer st.body ≡ not (is_some (block_at (pieces_from None program) i)) → is_outer st.body ≡ false →
      IsTypedAt (as_played program) i st.body
  typed_own i st own stands inner = by (block_at program i) refl
    where
      by : (inside : Option (List ℕ)) → block_at program i ≡ inside → IsTypedAt (as_played program) i st.body
      by None e = absurd (true≢false (sym (stands ∙ ap (λ o. not (is_some o)) (own.inside ∙ e)) ∙ inner))
      by (Some block) e =
          let names = program_names program in
          let count = length (pieces_from None program) in
          let known = known_parts (known_from names (block_at program i)) st.body (sound.keeps i st reasons.Undefined own.at) in
          let labels = labels_there program sound count block (labels_named st.body)
          (subst (λ inside. list_any (λ name. not (has_label names inside name)) (labels_named st.body) ≡ false) e known.2) in
          let kinded = not-false (is_well_kinded (known_from names (block_at program i)) st.body) (sound.keeps i st reasons.TypeMismatch own.at) in
          let procedures = list_all (λ name. not (is_data_block (block_named names name))) (procedures_named st.body) in
          record {
            block = block;
            inside = own.inside ∙ e;
            suits = subst (λ inside. operands_suit (lookup_from names inside).kind st.body ≡ true) (sym own.inside)
                (and_parts procedures (operands_suit (lookup_from names (block_at program i)).kind st.body) kinded).1;
            leads = subst (λ inside. AllByRecursion (λ name. IsInBlock (as_played program) block (label_from names count inside name)) (labels_named st.body)) (sym (own.inside ∙ e)) labels;
            declares = subst (λ inside. IfSome (declaration st.body) (IsDeclared (as_played program) (lookup_from names inside) (1 + i) block)) (sym own.inside)
                (declared_at program sound i st own.at block e);
            few_values = few_values_at program sound i st own.at;
            stable = sound.keeps i st reasons.NotStable own.at;
          }

  pub typed_at : (i : ℕ) (st : StmtTree) → slice_get (pieces_from None program) i ≡ Some st → is_outer st.body ≡ false → IsTypedAt (as_played program) i st.body
  typed_at i st at inner = by (piece_at program sound i st at)
    where
      by : IsPieceOf program sound i st → IsTypedAt (as_played program) i st.body
      by (plays_at own) = typed_own i st own (stands_at program sound i st at) inner
      by (idles is closed) = absurd (true≢false (sym (ap (λ (s : StmtTree). is_outer s.body) is) ∙ inner))

  -- ---- initial values of DATA blocks

  typed_preset : (i : ℕ) (st : StmtTree) (preset : Preset) → slice_get program i ≡ Some st → preset_of (data_at program sound i) st.body ≡ Some preset →
      IsTypedPreset (as_played program) preset
  typed_preset i st preset at is =
      let p = preset_in (data_at program sound i) st.body preset is in
      let inside = (subst (λ o. IsAligned (program_names program) o (block_at program i)) p.inside (aligned_at program sound i st at)).0 in
      record {
        piece = 1 + i;
        starts = p.starts;
        declares = subst (λ b. IfSome (declaration b) (IsDeclared (as_played program) (lookup_from (program_names program) (Some preset.block)) (1 + i) preset.block)) (sym p.is)
            (subst (λ o. IfSome (declaration st.body) (IsDeclared (as_played program) (lookup_from (program_names program) o) (1 + i) preset.block)) inside
            (declared_at program sound i st at preset.block inside));
        few_values = ap has_too_many_values p.is ∙ few_values_at program sound i st at;
      }

  pub typed_presets : All (λ o. IfSome o (IsTypedPreset (as_played program))) (presets_from None program)
  typed_presets = all_presets (IsTypedPreset (as_played program)) program None typed_preset

-- ---- items of an ACTION

-- the number of the procedure that a statement begins is below their count
number_below : (program : List StmtTree) (i n : ℕ) (st : StmtTree) (e : List ℕ × Block) → slice_get program i ≡ Some st → IsNoData st.body → block_of_body n st.body ≡ Some e →
    procedure_number program e.0 < procedures_in program
number_below [] i n st e at plain is = absurd (none-some st at)
number_below (s ∷ rest) zero n st e at plain is =
    let same = same_Some s st at in
    by s.body (subst (λ (z : StmtTree). IsNoData z.body) (sym same) plain) (ap (λ (z : StmtTree). block_of_body n z.body) same ∙ is)
  where
    by : (b : BodyTree) → IsNoData b → block_of_body n b ≡ Some e → procedure_before b e.0 (procedure_number rest e.0) < (if begins_procedure b then suc (procedures_in rest) else procedures_in rest)
    by (procedure name uses) plain is =
        let own : name ≡ e.0 = ap (λ (o : Option (List ℕ × Block)). option_map_or (λ x. x.0) o name) is in
        subst (λ (b : Bool). (if b then 0 else suc (procedure_number rest e.0)) < suc (procedures_in rest)) (sym ((bytes_eq-Decides e.0 name).1 (sym own))) (omega arith)
    by (data_block name) plain is = absurd plain
    by _ plain is = absurd (none-some e is)
number_below (s ∷ rest) (suc i) n st e at plain is = by s.body (number_below rest i n st e at plain is)
  where
    by : (b : BodyTree) → procedure_number rest e.0 < procedures_in rest →
        procedure_before b e.0 (procedure_number rest e.0) < (if begins_procedure b then suc (procedures_in rest) else procedures_in rest)
    by (procedure name uses) below = more (bytes_eq e.0 name)
      where
        more : (b : Bool) → (if b then 0 else suc (procedure_number rest e.0)) < suc (procedures_in rest)
        more true = omega arith
        more false = omega (arith, below)
    by _ below = below

module _ (program : List StmtTree) (sound : IsSound program) where
  abbrev Pieces : List StmtTree
  Pieces = pieces_from None program

  -- a block that is no DATA block has a number among the procedures
  abbrev IsNumbered : List ℕ × Block → Type 0
  IsNumbered e = e.1.is_data ≡ false → procedure_number Pieces e.0 < procedures_in Pieces

  block_numbered : (i : ℕ) (st : StmtTree) (e : List ℕ × Block) → slice_get program i ≡ Some st → block_of_body (1 + i) st.body ≡ Some e → IsNumbered e
  block_numbered i st e at is own = by st.body refl is
    where
      by : (b : BodyTree) → st.body ≡ b → block_of_body (1 + i) b ≡ Some e → procedure_number Pieces e.0 < procedures_in Pieces
      by (procedure name uses) same is' =
          let none = none_outside program sound i st at (subst BeginsOutside (sym same) tt) in
          let there = own_piece program sound i st at none (ap (plays None) same) in
          number_below Pieces i (1 + i) st e there (subst IsNoData (sym same) tt) is
      by (data_block name) same is' =
          absurd (true≢false (ap (λ (o : Option (List ℕ × Block)). option_map_or (λ x. x.1.is_data) o true) is' ∙ own))
      by _ same is' = absurd (none-some e is')

  numbers_below : All IsNumbered (program_names program).blocks
  numbers_below =
      all_firsts bytes_eq IsNumbered (declared block_of (numbered (map Some program)))
      (all_declared block_of IsNumbered program None 1 (λ i st e at is. block_numbered i st e at is))

  is_numbered : (name : List ℕ) → is_none (block_named (program_names program) name) ≡ false → is_data_block (block_named (program_names program) name) ≡ false →
      procedure_number Pieces name < procedures_in Pieces
  is_numbered name has own = by (block_named (program_names program) name) refl has own
    where
      by : (o : Option Block) → block_named (program_names program) name ≡ o → is_none o ≡ false → is_data_block o ≡ false → procedure_number Pieces name < procedures_in Pieces
      by None e has own = absurd (true≢false has)
      by (Some block) e has own = found_holds bytes_eq name_same IsNumbered (program_names program).blocks name block numbers_below e own

  abbrev named : List ℕ → Option Block
  named name = block_named (program_names program) name

  items_there : (items : List ItemTree) → list_any (λ name. is_none (named name)) (map item_name items) ≡ false →
      list_all (λ name. not (is_data_block (named name))) (map item_name items) ≡ true → All (NamesProcedure (as_played program)) items
  items_there [] has own = All-nil (NamesProcedure (as_played program))
  items_there (item ∷ items) has own =
      let both = or_parts (is_none (named item.0)) (list_any (λ name. is_none (named name)) (map item_name items)) has in
      let each = and_parts (not (is_data_block (named item.0))) (list_all (λ name. not (is_data_block (named name))) (map item_name items)) own in
      All-cons (NamesProcedure (as_played program)) item items (is_numbered item.0 both.0 (not-true (is_data_block (named item.0)) each.0)) (items_there items both.1 each.1)

  pub items_named : All (λ (st : StmtTree). NamesProcedures (as_played program) st.body) Pieces
  items_named = all_from_each (λ (st : StmtTree). NamesProcedures (as_played program) st.body) Pieces each
    where
      by : (b : BodyTree) → list_any (λ name. is_none (named name)) (procedures_named b) ≡ false →
          list_all (λ name. not (is_data_block (named name))) (procedures_named b) ≡ true → NamesProcedures (as_played program) b
      by (action name text items) has own = items_there items has own
      by (call name) has own =
          is_numbered name (or_parts (is_none (named name)) false has).0
          (not-true (is_data_block (named name)) (and_parts (not (is_data_block (named name))) true own).0)
      by (if_then e body) has own = by body has own
      by _ has own = tt

      of : (i : ℕ) (st : StmtTree) → IsPieceOf program sound i st → NamesProcedures (as_played program) st.body
      of i st (plays_at own) =
          let known = known_from (program_names program) (block_at program i) in
          let kinded = and_parts (list_all (λ name. not (is_data_block (named name))) (procedures_named st.body)) (operands_suit known.kind st.body)
          (not-false (is_well_kinded known st.body) (sound.keeps i st reasons.TypeMismatch own.at)) in
          let all_known = known_parts known st.body (sound.keeps i st reasons.Undefined own.at) in
          let procedures_known = or_parts (list_any (λ name. is_none (named name)) (procedures_named st.body)) (list_any (λ name. is_none (named name)) (blocks_used st.body))
          (sym (list_any-append (λ name. is_none (named name)) (procedures_named st.body) (blocks_used st.body)) ∙ all_known.1) in
          by st.body procedures_known.0 kinded.0
      of i st (idles is closed) = subst (λ (s : StmtTree). NamesProcedures (as_played program) s.body) (sym is) tt

      each : (i : ℕ) (st : StmtTree) → slice_get Pieces i ≡ Some st → NamesProcedures (as_played program) st.body
      each i st at = of i st (piece_at program sound i st at)
