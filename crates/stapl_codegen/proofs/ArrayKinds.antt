-- Operands of arrays, of scans and of paddings have their kinds, and instructions find them; the variables are what
-- these instructions want.
use Rattle.std.proofs.Common.{◌≡◌, ℕ, Bool, true, false, List, [], ◌∷◌, ◌++◌, Option, Some, None, refl, ap, ◌∙◌}
use Rattle.std.specs.Prelude.{◌&&◌, is_some, if◌then◌else◌}
use Rattle.std.specs.List.{list_all}
use Rattle.std.proofs.lemmas.Bool.{and_parts}
use Rattle.stapl_lexer.specs.declared.terminal.Register.{Register}
use Rattle.stapl_syntax.specs.declared.names.Kind.{Kind}
use Rattle.stapl_syntax.specs.declared.names.VarKind.{VarKind}
use Rattle.stapl_syntax.specs.declared.names.VarKind.TheVariants as declared
use Rattle.stapl_syntax.specs.Kinds.{expr_kind, is_array, is_bit_array, is_int, is_bit, element_kind, indexed_kind, VarKinds, if_given, compare_suits, operands_suit}
use Rattle.stapl_syntax.specs.Trees.{ExprTree, number, scalar, element, unary, binary, abs, int, ArrayTree, literal, whole, range, of_int, CompareTree, scan}
use Rattle.stapl_meaning.specs.declared.values.ValueKind.{ValueKind}
use Rattle.stapl_meaning.specs.declared.values.ValueKind.TheVariants as kinds
use Rattle.stapl_meaning.specs.Values.{Lookup}
use Rattle.stapl_meaning.specs.Operands.{Operand, an_index, array_operands, given_operands, target_operands, compare_operands}
use Rattle.stapl_code.specs.declared.instr.Cell.TheVariants as cells
use Rattle.stapl_code.specs.declared.instr.Source.TheVariants as sources
use Rattle.stapl_code.specs.declared.raw.VarDef.{VarDef}
use Rattle.stapl_code.specs.Machine.{Slot, Want, source_slots, source_wants, given_slots, given_wants, target_slots, target_wants, cell_slots, cell_want, compare_slots, compare_wants, scan_slots, scan_wants}
use Rattle.stapl_code.specs.Kinds.{then_kinds, is_met, all_off}
use Rattle.stapl_code.proofs.ScanKinds.{off_both, all_both}
use Rattle.stapl_codegen.specs.Emit.{past, array_literals, source_code, given_code, target_code, compare_code, scan_code}
use Rattle.stapl_codegen.proofs.Sides.{item_kind}
use Rattle.stapl_codegen.proofs.WellKinded.{kinds_onto, Agrees, AllTyped, array_typed, bits_agree, boolean_agrees, element_agrees}

-- an element that is a Boolean has an integer for its index, and stands in a BOOLEAN array
pub bit_item : (v : Option VarKind) (index : Option Kind) → is_bit (indexed_kind v index) ≡ true → (is_int index ≡ true) × (is_bit_array v ≡ true)
bit_item v index h = by (is_int index) v h
  where
    by : (b : Bool) (v : Option VarKind) → is_bit (if b then element_kind v else None) ≡ true → (b ≡ true) × (is_bit_array v ≡ true)
    by true (Some declared.BooleanArray) h = (refl, refl)
    by true (Some declared.IntegerArray) h = absurd cc
    by true (Some declared.Integer) h = absurd cc
    by true (Some declared.Boolean) h = absurd cc
    by true None h = absurd cc
    by false v h = absurd cc

bit_elements : (v : Option VarKind) → is_bit_array v ≡ true → item_kind v ≡ Some kinds.Bit
bit_elements (Some declared.BooleanArray) h = refl
bit_elements (Some declared.IntegerArray) h = absurd cc
bit_elements (Some declared.Integer) h = absurd cc
bit_elements (Some declared.Boolean) h = absurd cc
bit_elements None h = absurd cc

module _ (kind : VarKinds) where
  -- both arrays of a comparison are arrays, and its cell is a Boolean
  pub record IsCompared (expected mask : ArrayTree) (cell : ExprTree) : Type 0 where
    pub expected_is : is_array kind expected ≡ true
    pub mask_is : is_array kind mask ≡ true
    pub cell_is : is_bit (expr_kind kind cell) ≡ true

  pub compared : (expected mask : ArrayTree) (cell : ExprTree) → compare_suits kind (expected, (mask, cell)) ≡ true → IsCompared expected mask cell
  compared expected mask cell h =
      let t = and_parts (is_array kind expected && is_array kind mask) (is_bit (expr_kind kind cell)) h in
      let u = and_parts (is_array kind expected) (is_array kind mask) t.0 in
      record { expected_is = u.0; mask_is = u.1; cell_is = t.1 }

  -- the parts of a scan are what they have to be
  pub record IsScanned (count : ExprTree) (source : ArrayTree) (target : Option ArrayTree) (compare : Option CompareTree) : Type 0 where
    pub count_is : is_int (expr_kind kind count) ≡ true
    pub source_is : is_array kind source ≡ true
    pub target_is : if_given (is_array kind) target ≡ true
    pub compare_is : if_given (compare_suits kind) compare ≡ true

  pub scan_suits : (register : Register) (count : ExprTree) (source : ArrayTree) (target : Option ArrayTree) (compare : Option CompareTree) →
      operands_suit kind (scan register count source target compare) ≡ true → IsScanned count source target compare
  scan_suits register count source target compare h =
      let counted = is_int (expr_kind kind count) in
      let t = and_parts (counted && is_array kind source && if_given (is_array kind) target) (if_given (compare_suits kind) compare) h in
      let u = and_parts (counted && is_array kind source) (if_given (is_array kind) target) t.0 in
      let v = and_parts counted (is_array kind source) u.0 in
      record { count_is = v.0; source_is = v.1; target_is = u.1; compare_is = t.1 }

-- operands, and others after them
onto_both : (os more : List Operand) (ks : List ValueKind) → kinds_onto (os ++ more) ks ≡ kinds_onto more (kinds_onto os ks)
onto_both [] more ks = refl
onto_both (o ∷ os) more ks = onto_both os more (o.kind ∷ ks)

module _ (variables : List VarDef) (look : Lookup) where
  typed_both : (ks : List ValueKind) (os more : List Operand) → AllTyped variables look ks os → AllTyped variables look (kinds_onto os ks) more → AllTyped variables look ks (os ++ more)
  typed_both ks [] more first second = second
  typed_both ks (o ∷ os) more first second = (first.0, typed_both (o.kind ∷ ks) os more first.1 second)

  -- these slots take off what these operands put on
  abbrev TakeOff : List Slot → List Operand → Type 0
  TakeOff slots os = (ks : List ValueKind) → all_off variables slots (kinds_onto os ks) ≡ Some ks

  take_both : (first second : List Slot) (os more : List Operand) → TakeOff first os → TakeOff second more → TakeOff (first ++ second) (os ++ more)
  take_both first second os more own others ks =
      ap (all_off variables (first ++ second)) (onto_both os more ks)
      ∙ off_both variables first second (kinds_onto more (kinds_onto os ks))
      ∙ ap (λ o. then_kinds o (all_off variables first)) (others (kinds_onto os ks))
      ∙ own ks

  take_none : TakeOff [] []
  take_none ks = refl

  pub source_off : (first : ℕ) (a : ArrayTree) → TakeOff (source_slots (source_code look first a)) (array_operands look a)
  source_off first (literal bits) ks = refl
  source_off first (whole name) ks = refl
  source_off first (range name high low) ks = refl
  source_off first (of_int e) ks = refl

  pub given_off : (first : ℕ) (a : Option ArrayTree) → TakeOff (given_slots (given_code look first a)) (given_operands look a)
  given_off first None ks = refl
  given_off first (Some a) ks = source_off first a ks

  target_off : (target : Option ArrayTree) → TakeOff (target_slots (target_code look target)) (target_operands look target)
  target_off None ks = refl
  target_off (Some (literal bits)) ks = refl
  target_off (Some (whole name)) ks = refl
  target_off (Some (range name high low)) ks = refl
  target_off (Some (of_int e)) ks = refl

  index_off : (n : ℕ) (index : ExprTree) → TakeOff (cell_slots (cells.Element n)) (an_index n index ∷ [])
  index_off n index ks = refl

  compare_off : (first : ℕ) (compare : Option CompareTree) → TakeOff (compare_slots (compare_code look first compare)) (compare_operands look compare)
  compare_off first None = take_none
  compare_off first (Some (expected, (mask, scalar name))) =
      let next : ℕ = past first (array_literals expected) in
      let masked : List Slot = source_slots (source_code look next mask) in
      take_both (source_slots (source_code look first expected)) (masked ++ []) (array_operands look expected) (array_operands look mask ++ [])
      (source_off first expected) (take_both masked [] (array_operands look mask) [] (source_off next mask) take_none)
  compare_off first (Some (expected, (mask, element name index))) =
      let next : ℕ = past first (array_literals expected) in
      let masked : List Slot = source_slots (source_code look next mask) in
      let n : ℕ = look.variable name in
      let own : List Operand = an_index n index ∷ [] in
      take_both (source_slots (source_code look first expected)) (masked ++ cell_slots (cells.Element n)) (array_operands look expected) (array_operands look mask ++ own)
      (source_off first expected) (take_both masked (cell_slots (cells.Element n)) (array_operands look mask) own (source_off next mask) (index_off n index))
  compare_off first (Some (expected, (mask, number z))) = take_none
  compare_off first (Some (expected, (mask, unary op e))) = take_none
  compare_off first (Some (expected, (mask, binary op a b))) = take_none
  compare_off first (Some (expected, (mask, abs e))) = take_none
  compare_off first (Some (expected, (mask, int a))) = take_none

  pub scan_off : (first : ℕ) (register : Register) (source : ArrayTree) (target : Option ArrayTree) (compare : Option CompareTree) →
      TakeOff (scan_slots (scan_code look first register source target compare)) (array_operands look source ++ (target_operands look target ++ compare_operands look compare))
  scan_off first register source target compare =
      let next : ℕ = past first (array_literals source) in
      let caught : List Slot = target_slots (target_code look target) in
      let compared : List Slot = compare_slots (compare_code look next compare) in
      take_both (source_slots (source_code look first source)) (caught ++ compared) (array_operands look source) (target_operands look target ++ compare_operands look compare)
      (source_off first source) (take_both caught compared (target_operands look target) (compare_operands look compare) (target_off target) (compare_off next compare))

  module _ (agrees : Agrees variables look) where
    -- the variables are what these want
    abbrev AreMet : List Want → Type 0
    AreMet wants = list_all (is_met variables) wants ≡ true

    met_both : (first second : List Want) → AreMet first → AreMet second → AreMet (first ++ second)
    met_both first second own others = all_both variables first second ∙ ap (λ b. b && list_all (is_met variables) second) own ∙ others

    met_more : (want : Want) (wants : List Want) → is_met variables want ≡ true → AreMet wants → AreMet (want ∷ wants)
    met_more want wants own others = ap (λ b. b && list_all (is_met variables) wants) own ∙ others

    array_met : (name : List ℕ) → is_bit_array (look.kind name) ≡ true → AreMet (source_wants (sources.Whole (look.variable name)))
    array_met name h = ap (λ b. b && true) (bits_agree variables look agrees name h)

    range_bits : (name : List ℕ) (high low : ExprTree) → is_array look.kind (range name high low) ≡ true → is_bit_array (look.kind name) ≡ true
    range_bits name high low h =
        let t = and_parts (is_bit_array (look.kind name) && is_int (expr_kind look.kind high)) (is_int (expr_kind look.kind low)) h in
        (and_parts (is_bit_array (look.kind name)) (is_int (expr_kind look.kind high)) t.0).0

    pub source_met : (first : ℕ) (a : ArrayTree) → is_array look.kind a ≡ true → AreMet (source_wants (source_code look first a))
    source_met first (literal bits) h = refl
    source_met first (whole name) h = array_met name h
    source_met first (range name high low) h = array_met name (range_bits name high low h)
    source_met first (of_int e) h = refl

    pub given_met : (first : ℕ) (a : Option ArrayTree) → if_given (is_array look.kind) a ≡ true → AreMet (given_wants (given_code look first a))
    given_met first None h = refl
    given_met first (Some a) h = source_met first a h

    pub given_typed : (ks : List ValueKind) (a : Option ArrayTree) → if_given (is_array look.kind) a ≡ true → AllTyped variables look ks (given_operands look a)
    given_typed ks None h = tt
    given_typed ks (Some a) h = array_typed variables look agrees ks a h

    target_met : (target : Option ArrayTree) → if_given (is_array look.kind) target ≡ true → AreMet (target_wants (target_code look target))
    target_met None h = refl
    target_met (Some (literal bits)) h = refl
    target_met (Some (whole name)) h = array_met name h
    target_met (Some (range name high low)) h = array_met name (range_bits name high low h)
    target_met (Some (of_int e)) h = refl

    target_typed : (ks : List ValueKind) (target : Option ArrayTree) → if_given (is_array look.kind) target ≡ true → AllTyped variables look ks (target_operands look target)
    target_typed ks None h = tt
    target_typed ks (Some (literal bits)) h = tt
    target_typed ks (Some (whole name)) h = tt
    target_typed ks (Some (range name high low)) h = array_typed variables look agrees ks (range name high low) h
    target_typed ks (Some (of_int e)) h = tt

    compare_met : (first : ℕ) (compare : Option CompareTree) → if_given (compare_suits look.kind) compare ≡ true → AreMet (compare_wants (compare_code look first compare))
    compare_met first None h = refl
    compare_met first (Some (expected, (mask, scalar name))) h =
        let is = compared look.kind expected mask (scalar name) h in
        let next : ℕ = past first (array_literals expected) in
        let both : List Want = source_wants (source_code look first expected) ++ source_wants (source_code look next mask) in
        met_more (cell_want (cells.Scalar (look.variable name))) both (boolean_agrees variables look agrees name is.cell_is)
        (met_both (source_wants (source_code look first expected)) (source_wants (source_code look next mask)) (source_met first expected is.expected_is) (source_met next mask is.mask_is))
    compare_met first (Some (expected, (mask, element name index))) h =
        let is = compared look.kind expected mask (element name index) h in
        let next : ℕ = past first (array_literals expected) in
        let both : List Want = source_wants (source_code look first expected) ++ source_wants (source_code look next mask) in
        let item = bit_item (look.kind name) (expr_kind look.kind index) is.cell_is in
        met_more (cell_want (cells.Element (look.variable name))) both (bits_agree variables look agrees name item.1)
        (met_both (source_wants (source_code look first expected)) (source_wants (source_code look next mask)) (source_met first expected is.expected_is) (source_met next mask is.mask_is))
    compare_met first (Some (expected, (mask, number z))) h = refl
    compare_met first (Some (expected, (mask, unary op e))) h = refl
    compare_met first (Some (expected, (mask, binary op a b))) h = refl
    compare_met first (Some (expected, (mask, abs e))) h = refl
    compare_met first (Some (expected, (mask, int a))) h = refl

    compare_typed : (ks : List ValueKind) (compare : Option CompareTree) → if_given (compare_suits look.kind) compare ≡ true → AllTyped variables look ks (compare_operands look compare)
    compare_typed ks None h = tt
    compare_typed ks (Some (expected, (mask, scalar name))) h =
        let is = compared look.kind expected mask (scalar name) h in
        let on : List ValueKind = kinds_onto (array_operands look expected) ks in
        typed_both ks (array_operands look expected) (array_operands look mask ++ []) (array_typed variables look agrees ks expected is.expected_is)
        (typed_both on (array_operands look mask) [] (array_typed variables look agrees on mask is.mask_is) tt)
    compare_typed ks (Some (expected, (mask, element name index))) h =
        let is = compared look.kind expected mask (element name index) h in
        let on : List ValueKind = kinds_onto (array_operands look expected) ks in
        let item = bit_item (look.kind name) (expr_kind look.kind index) is.cell_is in
        let found = element_agrees variables look agrees name kinds.Bit (bit_elements (look.kind name) item.1) in
        let own : List Operand = an_index (look.variable name) index ∷ [] in
        typed_both ks (array_operands look expected) (array_operands look mask ++ own) (array_typed variables look agrees ks expected is.expected_is)
        (typed_both on (array_operands look mask) own (array_typed variables look agrees on mask is.mask_is) (record { fits = item.0; test = (refl, ap is_some found) }, tt))
    compare_typed ks (Some (expected, (mask, number z))) h = tt
    compare_typed ks (Some (expected, (mask, unary op e))) h = tt
    compare_typed ks (Some (expected, (mask, binary op a b))) h = tt
    compare_typed ks (Some (expected, (mask, abs e))) h = tt
    compare_typed ks (Some (expected, (mask, int a))) h = tt

    pub scan_met : (first : ℕ) (register : Register) (source : ArrayTree) (target : Option ArrayTree) (compare : Option CompareTree) (count : ExprTree) →
        IsScanned look.kind count source target compare →
        AreMet (scan_wants (scan_code look first register source target compare))
    scan_met first register source target compare count is =
        let next : ℕ = past first (array_literals source) in
        let caught : List Want = target_wants (target_code look target) in
        let others : List Want = compare_wants (compare_code look next compare) in
        met_both (source_wants (source_code look first source)) (caught ++ others) (source_met first source is.source_is)
        (met_both caught others (target_met target is.target_is) (compare_met next compare is.compare_is))

    pub scan_typed : (ks : List ValueKind) (source : ArrayTree) (target : Option ArrayTree) (compare : Option CompareTree) (count : ExprTree) → IsScanned look.kind count source target compare →
        AllTyped variables look ks (array_operands look source ++ (target_operands look target ++ compare_operands look compare))
    scan_typed ks source target compare count is =
        let on : List ValueKind = kinds_onto (array_operands look source) ks in
        let after : List ValueKind = kinds_onto (target_operands look target) on in
        typed_both ks (array_operands look source) (target_operands look target ++ compare_operands look compare) (array_typed variables look agrees ks source is.source_is)
        (typed_both on (target_operands look target) (compare_operands look compare) (target_typed on target is.target_is) (compare_typed after compare is.compare_is))
