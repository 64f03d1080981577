-- The fields of the code of an accepted program are in their ranges.
use Rattle.std.proofs.Common.{◌≡◌, ℕ, zero, suc, ◌+◌, ◌<◌, ◌≤◌, true, false, List, [], ◌∷◌, ◌++◌, length, length-append, map, Option, Some, None, is_some, option_map, arith, refl, ap, ◌∙◌}
use Rattle.std.specs.Prelude.{ℤ, pos, negsuc, nat_abs, ◌&&◌, if◌then◌else◌, slice_get, IfSome, All, sum_by}
use Rattle.std.proofs.lemmas.Bool.{and_parts, ltb-true, ltb-false}
use Rattle.std.proofs.lemmas.List.{append-nil, length-map}
use Rattle.std.proofs.lemmas.List.Elements.{All-head, All-tail}
use Rattle.std.proofs.lemmas.List.Sums.{sum_by-cons}
use Rattle.std.proofs.lemmas.Option.{slice_get-map}
use Rattle.stapl_lexer.specs.declared.terminal.BinOp.{BinOp}
use Rattle.stapl_lexer.specs.declared.terminal.BinOp.TheVariants as operators
use Rattle.stapl_lexer.specs.declared.terminal.Register.{Register}
use Rattle.stapl_syntax.specs.declared.signs.UnOp.{UnOp}
use Rattle.stapl_syntax.specs.declared.signs.UnOp.TheVariants as signs
use Rattle.stapl_syntax.specs.declared.names.Declaration.{Declaration}
use Rattle.stapl_syntax.specs.declared.names.Found.{Found}
use Rattle.stapl_syntax.specs.declared.names.Found.TheVariants as found
use Rattle.stapl_syntax.specs.declared.names.Key.{Key}
use Rattle.stapl_syntax.specs.declared.names.Variable.{Variable}
use Rattle.stapl_syntax.specs.declared.names.VarKind.{VarKind}
use Rattle.stapl_syntax.specs.declared.names.VarKind.TheVariants as variables
use Rattle.stapl_syntax.specs.Kinds.{expr_kind, element_kind, is_array, is_int, is_bit, is_bit_array, is_integer, wants_int, suits, if_given, compare_suits, operands_suit}
use Rattle.stapl_syntax.specs.Names.{Names, declaration, found_from, kind_of_found}
use Rattle.stapl_syntax.specs.Rules.{is_boolean, has_too_many_values}
use Rattle.stapl_syntax.specs.Trees.{ExprTree, number, scalar, element, unary, binary, abs, int, ArrayTree, literal, whole, range, of_int, PartTree, string, value, character, CompareTree, BodyTree, boolean, boolean_array, integer, integer_array, assign, assign_element, assign_array, assign_range, call, goto, if_then, for_loop, next, push, pop, print, exported_value, exported_array, export, exit, scan, stop, pad, state_list, wait_cycles, wait_usec, frequency}
use Rattle.stapl_shapes.specs.Shapes.{is_simple_shape, is_inner_shape}
use Rattle.stapl_meaning.specs.declared.values.ValueKind.{ValueKind}
use Rattle.stapl_meaning.specs.declared.values.ValueKind.TheVariants as kinds
use Rattle.stapl_meaning.specs.Values.{Lookup, unary_side, sides}
use Rattle.stapl_meaning.specs.Operands.{Test, Plain, Character, Index, Range, Operand, array_operands, bit_number, given_kind, printed_kind}
use Rattle.stapl_meaning.specs.Scopes.{Scope, number_found, lookup_from}
use Rattle.stapl_meaning.specs.Turns.{tap_of, operands}
use Rattle.stapl_meaning.specs.Typed.{HasSize, IsSized, integers_of, booleans_of, AreSized}
use Rattle.stapl_code.specs.declared.instr.Source.TheVariants as sources
use Rattle.stapl_code.specs.declared.instr.Cell.{Cell}
use Rattle.stapl_code.specs.declared.instr.Cell.TheVariants as cells
use Rattle.stapl_code.specs.declared.instr.Instr.{Instr}
use Rattle.stapl_code.specs.declared.instr.Instr.TheVariants.{LoadAt, Unary, Binary, ToInt}
use Rattle.stapl_code.specs.declared.raw.VarDef.{VarDef}
use Rattle.stapl_code.specs.Operators.{operator_table, unary_kinds}
use Rattle.stapl_code.specs.Kinds.{variable_kind, element_kind as element_kind_of, is_of_kind}
use Rattle.stapl_code.specs.Ranges.{IsVariable, elements_of, AreVariables, IsPart, IsSource, IsDest, IsGiven, IsCell, IsCompare, IsScan, IsExport, size_of, IsInstr}
use Rattle.stapl_codegen.specs.Generated.{kind_number, variable_def}
use Rattle.stapl_codegen.specs.Emit.{literal_code, expr_code, int_code, test_code, operands_code, past, given_literals, compare_literals, source_code, given_code, target_code, compare_code, scan_code, shown_part, export_part, print_parts, part_texts, array_literals, Firsts, last, between, row_code, body_texts, body_literals, operator_number, sign_number, absolute_number, body_code}
use Rattle.stapl_codegen.proofs.Views.{IsInner, an_end, a_bit, some_bits, an_integer, no_integers, some_integers, a_simple, inner_view}
use Rattle.stapl_codegen.proofs.Sides.{fits, scalar_fits, element_fits, indexed_fits, unary_fits, integer_fits, operates}
use Rattle.stapl_codegen.proofs.WellKinded.{Agrees, scalar_agrees, element_agrees, bits_agree, integer_agrees, boolean_agrees, printed_fits, TestFits, AllTyped, one_typed, parts_typed, range_typed, array_typed, no_bit}
use Rattle.stapl_codegen.proofs.Drafts.{past_length}
use Rattle.stapl_codegen.proofs.ArrayKinds as arrays
use Rattle.stapl_codegen.proofs.ArrayKinds.{bit_item, compared, IsScanned, scan_suits, scan_typed}
use Rattle.stapl_codegen.proofs.WellPlaced.{given_fits, item_given, scalar_popped, item_popped, step_fits, given_typed, bit_fits, number_fits}

-- something is so of each element
abbrev pub Each : {A : Type 0} → (A → Type 0) → List A → Type 0
Each P [] = Unit {0}
Each P (x ∷ xs) = P x × Each P xs

pub each_all : {A : Type 0} (P : A → Type 0) (xs : List A) → Each P xs → All P xs
each_all P [] each k d below = absurd (omega (arith, below))
each_all P (x ∷ xs) each zero d below = each.0
each_all P (x ∷ xs) each (suc k) d below = each_all P xs each.1 k d (omega (arith, below))

-- ---- the variables

-- a variable of the code keeps the limits that the variable of the program keeps
variable_ranged : (v : Key × Variable) → IsSized v → IsVariable (variable_def v)
variable_ranged v sized = by v.1.kind (nat_abs v.1.size) sized.some sized.fits
  where
    by : (k : VarKind) (n : ℕ) → 1 ≤ n → HasSize k n → IsVariable (record { kind = kind_number k; size = n })
    by variables.Integer n some fits = record { kind = omega arith; some = some; scalar = λ low. fits; boolean_array = λ is. absurd cc }
    by variables.Boolean n some fits = record { kind = omega arith; some = some; scalar = λ low. fits; boolean_array = λ is. absurd cc }
    by variables.IntegerArray n some fits = record { kind = omega arith; some = some; scalar = λ low. absurd (omega (arith, low)); boolean_array = λ is. absurd cc }
    by variables.BooleanArray n some fits = record { kind = omega arith; some = some; scalar = λ low. absurd (omega (arith, low)); boolean_array = λ is. fits }

variables_ranged : (vs : List (Key × Variable)) → All IsSized vs → Each IsVariable (map variable_def vs)
variables_ranged [] all = tt
variables_ranged (v ∷ vs) all = (variable_ranged v (All-head IsSized v vs all), variables_ranged vs (All-tail IsSized v vs all))

-- the elements of both are counted alike
elements_same : (one many : ℕ) (count : Key × Variable → ℕ) → ((v : Key × Variable) → elements_of one many (variable_def v) ≡ count v) →
    (vs : List (Key × Variable)) → sum_by (elements_of one many) (map variable_def vs) ≡ sum_by count vs
elements_same one many count same [] = refl
elements_same one many count same (v ∷ vs) =
    let more = elements_same one many count same vs in
    omega (arith, sum_by-cons (elements_of one many) (variable_def v) (map variable_def vs), sum_by-cons count v vs, same v, more)

integers_same : (v : Key × Variable) → elements_of 0 2 (variable_def v) ≡ integers_of v
integers_same v = by v.1.kind (nat_abs v.1.size)
  where
    by : (k : VarKind) (n : ℕ) → elements_of 0 2 (record { kind = kind_number k; size = n }) ≡ (if is_boolean k then 0 else n)
    by variables.Integer n = refl
    by variables.Boolean n = refl
    by variables.IntegerArray n = refl
    by variables.BooleanArray n = refl

booleans_same : (v : Key × Variable) → elements_of 1 3 (variable_def v) ≡ booleans_of v
booleans_same v = by v.1.kind (nat_abs v.1.size)
  where
    by : (k : VarKind) (n : ℕ) → elements_of 1 3 (record { kind = kind_number k; size = n }) ≡ (if is_boolean k then n else 0)
    by variables.Integer n = refl
    by variables.Boolean n = refl
    by variables.IntegerArray n = refl
    by variables.BooleanArray n = refl

pub variables_are : (vs : List (Key × Variable)) → AreSized vs → AreVariables (map variable_def vs)
variables_are vs sized = record {
  each = each_all IsVariable (map variable_def vs) (variables_ranged vs sized.each);
  integers = let same = elements_same 0 2 integers_of integers_same vs in omega (arith, same, sized.integers);
  booleans = let same = elements_same 1 3 booleans_of booleans_same vs in omega (arith, same, sized.booleans);
}

-- a variable that a name stands for has its kind among the variables of the code
pub agrees_from : (names : Names) (inside : Option (List ℕ)) → Agrees (map variable_def names.variables) (lookup_from names inside)
agrees_from names inside name kind h = by (found_from names inside name) h
  where
    kind_same : (o : Option (Key × Variable)) → option_map (λ e. e.1.kind) o ≡ Some kind → option_map (λ v. v.kind) (option_map variable_def o) ≡ Some (kind_number kind)
    kind_same None e = absurd cc
    kind_same (Some v) e = let same : v.1.kind ≡ kind = cc in ap (λ k. Some (kind_number k)) same

    by : (f : Found) → kind_of_found names f ≡ Some kind → option_map (λ v. v.kind) (slice_get (map variable_def names.variables) (number_found names f)) ≡ Some (kind_number kind)
    by (found.Variable n) h =
        ap (option_map (λ v. v.kind)) (slice_get-map variable_def names.variables n) ∙ kind_same (slice_get names.variables n) h
    by _ h = absurd cc

-- ---- the instructions

-- a variable that has a kind, or is what it has to be, is there
there_if : {A : Type 0} (f : Option VarDef → A) (none : A) → f None ≡ none → (vs : List VarDef) (n : ℕ) → (f (slice_get vs n) ≡ none → ⊥) → n < length vs
there_if f none at [] n differs = absurd (differs at)
there_if f none at (v ∷ vs) zero differs = omega arith
there_if f none at (v ∷ vs) (suc n) differs = let below = there_if f none at vs n differs in omega (arith, below)

scalar_there : (vs : List VarDef) (n : ℕ) (kind : ValueKind) → variable_kind (slice_get vs n) ≡ Some kind → n < length vs
scalar_there vs n kind h = there_if variable_kind None refl vs n (λ e. cc)

element_there : (vs : List VarDef) (n : ℕ) → is_some (element_kind_of (slice_get vs n)) ≡ true → n < length vs
element_there vs n h = there_if (λ o. is_some (element_kind_of o)) false refl vs n (λ e. cc)

kind_there : (vs : List VarDef) (k n : ℕ) → is_of_kind k (slice_get vs n) ≡ true → n < length vs
kind_there vs k n h = there_if (is_of_kind k) false refl vs n (λ e. cc)

parts_range : (texts : ℕ) (look : Lookup) (first : ℕ) (list : List PartTree) → first + length (part_texts list) ≤ texts → Each (IsPart texts) (print_parts look first list)
parts_range texts look first [] few = tt
parts_range texts look first (string bytes ∷ list) few = (omega (arith, few), parts_range texts look (suc first) list (omega (arith, few)))
parts_range texts look first (value e ∷ list) few = (shown (printed_kind (expr_kind look.kind e)), parts_range texts look first list few)
  where
    shown : (kind : ValueKind) → IsPart texts (shown_part kind)
    shown kinds.Int = tt
    shown kinds.Bit = tt
parts_range texts look first (character e ∷ list) few = (tt, parts_range texts look first list few)

parts_count : (look : Lookup) (first : ℕ) (list : List PartTree) → length (print_parts look first list) ≡ length list
parts_count look first [] = refl
parts_count look first (string bytes ∷ list) = ap suc (parts_count look (suc first) list)
parts_count look first (value e ∷ list) = ap suc (parts_count look first list)
parts_count look first (character e ∷ list) = ap suc (parts_count look first list)

operator_range : (op : BinOp) (side : ValueKind) → operator_number op side < length operator_table
operator_range operators.Multiply side = omega arith
operator_range operators.Divide side = omega arith
operator_range operators.Remainder side = omega arith
operator_range operators.Add side = omega arith
operator_range operators.Subtract side = omega arith
operator_range operators.ShiftLeft side = omega arith
operator_range operators.ShiftRight side = omega arith
operator_range operators.Less side = omega arith
operator_range operators.AtMost side = omega arith
operator_range operators.Greater side = omega arith
operator_range operators.AtLeast side = omega arith
operator_range operators.Equal kinds.Int = omega arith
operator_range operators.Equal kinds.Bit = omega arith
operator_range operators.NotEqual kinds.Int = omega arith
operator_range operators.NotEqual kinds.Bit = omega arith
operator_range operators.BitAnd kinds.Int = omega arith
operator_range operators.BitAnd kinds.Bit = omega arith
operator_range operators.BitXor kinds.Int = omega arith
operator_range operators.BitXor kinds.Bit = omega arith
operator_range operators.BitOr kinds.Int = omega arith
operator_range operators.BitOr kinds.Bit = omega arith
operator_range operators.And side = omega arith
operator_range operators.Or side = omega arith

sign_range : (op : UnOp) → sign_number op < length unary_kinds
sign_range signs.Negate = omega arith
sign_range signs.Complement = omega arith
sign_range signs.Not = omega arith

module _ (defs : List VarDef) (literals texts procedures : ℕ) where
  abbrev pub InRange : List Instr → Type 0
  InRange code = Each (IsInstr defs literals texts procedures) code

  literal_range : (kind : ValueKind) (z : ℤ) (rest : List Instr) → fits kind (expr_kind (λ name. None) (number z)) ≡ true → InRange rest → InRange (literal_code kind z ∷ rest)
  literal_range kinds.Int z rest h more = (tt, more)
  literal_range kinds.Bit (pos zero) rest h more = (omega arith, more)
  literal_range kinds.Bit (pos (suc zero)) rest h more = (omega arith, more)
  literal_range kinds.Bit (pos (suc (suc n))) rest h more = absurd (no_bit n h)
  literal_range kinds.Bit (negsuc n) rest h more = absurd cc

  module _ (look : Lookup) (agrees : Agrees defs look) where
    bits_there : (name : List ℕ) → is_bit_array (look.kind name) ≡ true → look.variable name < length defs
    bits_there name h = kind_there defs 3 (look.variable name) (bits_agree defs look agrees name h)

    mutual
      expr_range : (kind : ValueKind) (e : ExprTree) (rest : List Instr) → fits kind (expr_kind look.kind e) ≡ true → InRange rest → InRange (expr_code look kind e rest)
      expr_range kind (number z) rest h more = literal_range kind z rest h more
      expr_range kind (scalar name) rest h more =
          (scalar_there defs (look.variable name) kind (scalar_agrees defs look agrees name kind (scalar_fits kind (look.kind name) h)), more)
      expr_range kind (element name index) rest h more =
          let t = indexed_fits kind (expr_kind look.kind index) (look.kind name) h in
          let found = element_agrees defs look agrees name kind (element_fits kind (look.kind name) t.1) in
          expr_range kinds.Int index (LoadAt (look.variable name) ∷ rest) t.0 (element_there defs (look.variable name) (ap is_some found), more)
      expr_range kind (unary op e) rest h more =
          expr_range (unary_side op) e (Unary (sign_number op) ∷ rest) (unary_fits op kind (expr_kind look.kind e) h).0 (sign_range op, more)
      expr_range kind (binary op a b) rest h more =
          let s : ValueKind = sides look op a b in
          let t = operates defs op kind (expr_kind look.kind a) (expr_kind look.kind b) h in
          expr_range s a (expr_code look s b (Binary (operator_number op s) ∷ rest)) t.both.0
          (expr_range s b (Binary (operator_number op s) ∷ rest) t.both.1 (operator_range op s, more))
      expr_range kind (abs e) rest h more =
          expr_range kinds.Int e (Unary absolute_number ∷ rest) (integer_fits kind (is_int (expr_kind look.kind e)) h).0 (omega arith, more)
      expr_range kind (int a) rest h more = int_range a rest (integer_fits kind (is_array look.kind a) h).0 more

      int_range : (a : ArrayTree) (rest : List Instr) → is_array look.kind a ≡ true → InRange rest → InRange (int_code look a rest)
      int_range (literal bits) rest h more = (tt, more)
      int_range (whole name) rest h more = (bits_there name h, more)
      int_range (range name a b) rest h more =
          let t = and_parts (is_bit_array (look.kind name) && is_int (expr_kind look.kind a)) (is_int (expr_kind look.kind b)) h in
          let u = and_parts (is_bit_array (look.kind name)) (is_int (expr_kind look.kind a)) t.0 in
          let read : List Instr = ToInt (sources.Range (look.variable name)) ∷ rest in
          expr_range kinds.Int a (expr_code look kinds.Int b read) u.1 (expr_range kinds.Int b read t.1 (bits_there name u.0, more))
      int_range (of_int e) rest h more = expr_range kinds.Int e (ToInt sources.FromInt ∷ rest) h (tt, more)

    test_range : (ks : List ValueKind) (kind : ValueKind) (t : Test) (rest : List Instr) → TestFits defs ks kind t → InRange rest → InRange (test_code t rest)
    test_range ks kind Plain rest fits more = more
    test_range ks kind Character rest fits more = (tt, more)
    test_range ks kind (Index n) rest fits more = (element_there defs n fits.1, more)
    test_range [] kind (Range n) rest fits more = absurd fits
    test_range (k ∷ ks) kind (Range n) rest fits more = (kind_there defs 3 n fits.2, more)

    operands_range : (ks : List ValueKind) (os : List Operand) (rest : List Instr) → AllTyped defs look ks os → InRange rest → InRange (operands_code look os rest)
    operands_range ks [] rest typed more = more
    operands_range ks (o ∷ os) rest typed more =
        let after : List Instr = operands_code look os rest in
        expr_range o.kind o.expr (test_code o.test after) typed.0.fits
        (test_range ks o.kind o.test after typed.0.test (operands_range (o.kind ∷ ks) os rest typed.1 more))

    source_range : (first : ℕ) (a : ArrayTree) → is_array look.kind a ≡ true → first + length (array_literals a) ≤ literals → IsSource (length defs) literals (source_code look first a)
    source_range first (literal bits) h few = omega (arith, few)
    source_range first (whole name) h few = bits_there name h
    source_range first (range name high low) h few =
        let t = and_parts (is_bit_array (look.kind name) && is_int (expr_kind look.kind high)) (is_int (expr_kind look.kind low)) h in
        bits_there name (and_parts (is_bit_array (look.kind name)) (is_int (expr_kind look.kind high)) t.0).0
    source_range first (of_int e) h few = tt

    -- the same of an array that may be left out, of where captured bits go, and of what a scan compares with
    given_range : (first : ℕ) (a : Option ArrayTree) → if_given (is_array look.kind) a ≡ true → first + length (given_literals a) ≤ literals →
        IsGiven (IsSource (length defs) literals) (given_code look first a)
    given_range first None h few = tt
    given_range first (Some a) h few = source_range first a h few

    target_range : (target : Option ArrayTree) → if_given (is_array look.kind) target ≡ true → IsGiven (IsDest (length defs)) (target_code look target)
    target_range None h = tt
    target_range (Some (literal bits)) h = tt
    target_range (Some (whole name)) h = bits_there name h
    target_range (Some (range name high low)) h =
        let t = and_parts (is_bit_array (look.kind name) && is_int (expr_kind look.kind high)) (is_int (expr_kind look.kind low)) h in
        bits_there name (and_parts (is_bit_array (look.kind name)) (is_int (expr_kind look.kind high)) t.0).0
    target_range (Some (of_int e)) h = tt

    both_range : (first : ℕ) (expected mask : ArrayTree) (cell : Cell) → is_array look.kind expected ≡ true → is_array look.kind mask ≡ true →
        first + length (array_literals expected ++ array_literals mask) ≤ literals → IsCell (length defs) cell →
        IsCompare (length defs) literals (record { expected = source_code look first expected; mask = source_code look (past first (array_literals expected)) mask; cell = cell })
    both_range first expected mask cell e m few there =
        let parts = length-append (array_literals expected) (array_literals mask) in
        record {
          expected = source_range first expected e (omega (arith, few, parts));
          mask = source_range (past first (array_literals expected)) mask m (omega (arith, few, parts, past_length first (array_literals expected)));
          cell = there;
        }

    compare_range : (first : ℕ) (compare : Option CompareTree) → if_given (compare_suits look.kind) compare ≡ true → first + length (compare_literals compare) ≤ literals →
        IsGiven (IsCompare (length defs) literals) (compare_code look first compare)
    compare_range first None h few = tt
    compare_range first (Some (expected, (mask, scalar name))) h few =
        let is = compared look.kind expected mask (scalar name) h in
        both_range first expected mask (cells.Scalar (look.variable name)) is.expected_is is.mask_is few (kind_there defs 1 (look.variable name) (boolean_agrees defs look agrees name is.cell_is))
    compare_range first (Some (expected, (mask, element name index))) h few =
        let is = compared look.kind expected mask (element name index) h in
        both_range first expected mask (cells.Element (look.variable name)) is.expected_is is.mask_is few (bits_there name (bit_item (look.kind name) (expr_kind look.kind index) is.cell_is).1)
    compare_range first (Some (expected, (mask, number z))) h few = tt
    compare_range first (Some (expected, (mask, unary op e))) h few = tt
    compare_range first (Some (expected, (mask, binary op a b))) h few = tt
    compare_range first (Some (expected, (mask, abs e))) h few = tt
    compare_range first (Some (expected, (mask, int a))) h few = tt

    scan_range : (first : ℕ) (register : Register) (count : ExprTree) (source : ArrayTree) (target : Option ArrayTree) (compare : Option CompareTree) →
        IsScanned look.kind count source target compare → first + length (array_literals source ++ compare_literals compare) ≤ literals →
        IsScan (length defs) literals (scan_code look first register source target compare)
    scan_range first register count source target compare is few =
        let parts = length-append (array_literals source) (compare_literals compare) in
        record {
          source = source_range first source is.source_is (omega (arith, few, parts));
          target = target_range target is.target_is;
          compare = compare_range (past first (array_literals source)) compare is.compare_is (omega (arith, few, parts, past_length first (array_literals source)));
        }

  module _ (scope : Scope) (agrees : Agrees defs scope.look) (place : ℕ → ℕ) where
    -- what a statement calls is there
    abbrev pub CallsThere : BodyTree → Type 0
    CallsThere (call name) = scope.procedure name < procedures
    CallsThere (if_then e b) = CallsThere b
    CallsThere _ = Unit {0}

    -- and so are its constants
    pub record AreThere (first : Firsts) (b : BodyTree) : Type 0 where
      pub few_texts : first.text + length (body_texts b) ≤ texts
      pub few_literals : first.literal + length (body_literals b) ≤ literals
      pub calls : CallsThere b

    integer_there : (name : List ℕ) → is_integer (scope.look.kind name) ≡ true → scope.look.variable name < length defs
    integer_there name h = kind_there defs 0 (scope.look.variable name) (integer_agrees defs scope.look agrees name h)

    between_range : (b : BodyTree) (rest : List Instr) → InRange rest → InRange (between scope b rest)
    between_range (pop (scalar name)) rest more = (tt, more)
    between_range (pop (element name index)) rest more = (tt, more)
    between_range _ rest more = more

    -- the one row of a statement has its operands typed, and its last instruction in range
    one_range : (first : Firsts) (b : BodyTree) (rest : List Instr) → AllTyped defs scope.look [] (operands scope b) → IsInstr defs literals texts procedures (last scope place first b) →
        InRange rest → InRange (row_code scope place first b rest)
    one_range first b rest typed own more =
        let last_one : List Instr = last scope place first b ∷ rest in
        operands_range scope.look agrees [] (operands scope b) (between scope b last_one) typed (between_range b last_one (own, more))

    value_range : (kind : ValueKind) → IsExport (length defs) literals (export_part kind)
    value_range kinds.Int = tt
    value_range kinds.Bit = tt

    simple_range : (first : Firsts) (b : BodyTree) (rest : List Instr) → is_simple_shape b ≡ true → operands_suit scope.look.kind b ≡ true →
        AreThere first b → InRange rest → InRange (body_code scope place first b rest)
    simple_range first (assign name e) rest shaped suit there more =
        let t = given_fits (scope.look.kind name) (expr_kind scope.look.kind e) suit in
        let kind : ValueKind = given_kind (scope.look.kind name) in
        one_range first (assign name e) rest (one_typed defs scope.look [] kind e t.0)
        (scalar_there defs (scope.look.variable name) kind (scalar_agrees defs scope.look agrees name kind t.1)) more
    simple_range first (assign_element name index e) rest shaped suit there more =
        let are = and_parts (is_int (expr_kind scope.look.kind index)) (suits (element_kind (scope.look.kind name)) (expr_kind scope.look.kind e)) suit in
        let t = item_given (scope.look.kind name) (expr_kind scope.look.kind e) are.1 in
        let kind : ValueKind = given_kind (scope.look.kind name) in
        let found = ap is_some (element_agrees defs scope.look agrees name kind t.1) in
        one_range first (assign_element name index e) rest
        (record { fits = are.0; test = (refl, found) }, one_typed defs scope.look (kinds.Int ∷ []) kind e t.0)
        (element_there defs (scope.look.variable name) found) more
    simple_range first (assign_array name a) rest shaped suit there more =
        let t = and_parts (is_bit_array (scope.look.kind name)) (is_array scope.look.kind a) suit in
        let within : first.literal + length (array_literals a) ≤ literals = omega (arith, there.few_literals, ap length (append-nil (array_literals a))) in
        one_range first (assign_array name a) rest (array_typed defs scope.look agrees [] a t.1)
        (bits_there scope.look agrees name t.0, source_range scope.look agrees first.literal a t.1 within) more
    simple_range first (assign_range name high low a) rest shaped suit there more =
        let t = and_parts (is_bit_array (scope.look.kind name) && is_int (expr_kind scope.look.kind high) && is_int (expr_kind scope.look.kind low)) (is_array scope.look.kind a) suit in
        let u = and_parts (is_bit_array (scope.look.kind name) && is_int (expr_kind scope.look.kind high)) (is_int (expr_kind scope.look.kind low)) t.0 in
        let v = and_parts (is_bit_array (scope.look.kind name)) (is_int (expr_kind scope.look.kind high)) u.0 in
        let within : first.literal + length (array_literals a) ≤ literals = omega (arith, there.few_literals, ap length (append-nil (array_literals a))) in
        one_range first (assign_range name high low a) rest
        (range_typed defs scope.look agrees [] name high low (array_operands scope.look a) v.0 v.1 u.1 (array_typed defs scope.look agrees (kinds.Int ∷ kinds.Int ∷ []) a t.1))
        (bits_there scope.look agrees name v.0, source_range scope.look agrees first.literal a t.1 within) more
    simple_range first (goto name) rest shaped suit there more = (tt, more)
    simple_range first (if_then e b) rest shaped suit there more =
        let suits = and_parts (is_bit (expr_kind scope.look.kind e)) (operands_suit scope.look.kind b) suit in
        let inner : AreThere first b = record { few_texts = there.few_texts; few_literals = there.few_literals; calls = there.calls } in
        one_range first (if_then e b) (body_code scope place first b rest) (one_typed defs scope.look [] kinds.Bit e suits.0) tt
        (simple_range first b rest shaped suits.1 inner more)
    simple_range first (call name) rest shaped suit there more = (there.calls, more)
    simple_range first (for_loop name from to step) rest shaped suit there more =
        let kind = scope.look.kind in
        let t = and_parts (is_integer (kind name) && is_int (expr_kind kind from) && is_int (expr_kind kind to)) (if_given (wants_int kind) step) suit in
        let u = and_parts (is_integer (kind name) && is_int (expr_kind kind from)) (is_int (expr_kind kind to)) t.0 in
        let v = and_parts (is_integer (kind name)) (is_int (expr_kind kind from)) u.0 in
        one_range first (for_loop name from to step) rest
        (record { fits = v.1; test = tt }, (record { fits = u.1; test = tt }, (record { fits = step_fits kind step t.1; test = tt }, tt))) (integer_there name v.0) more
    simple_range first (next name) rest shaped suit there more = (integer_there name suit, more)
    simple_range first (push e) rest shaped suit there more =
        let kind : ValueKind = printed_kind (expr_kind scope.look.kind e) in
        one_range first (push e) rest (one_typed defs scope.look [] kind e (printed_fits defs scope.look (expr_kind scope.look.kind e) suit)) tt more
    simple_range first (pop (scalar name)) rest shaped suit there more =
        let kind : ValueKind = given_kind (scope.look.kind name) in
        one_range first (pop (scalar name)) rest tt
        (scalar_there defs (scope.look.variable name) kind (scalar_agrees defs scope.look agrees name kind (scalar_popped (scope.look.kind name) suit))) more
    simple_range first (pop (element name index)) rest shaped suit there more =
        let t = item_popped (scope.look.kind name) (expr_kind scope.look.kind index) suit in
        let found = ap is_some (element_agrees defs scope.look agrees name (given_kind (scope.look.kind name)) t.1) in
        one_range first (pop (element name index)) rest (record { fits = t.0; test = (refl, found) }, tt) (element_there defs (scope.look.variable name) found) more
    simple_range first (export key (exported_value e)) rest shaped suit there more =
        let kind : ValueKind = printed_kind (expr_kind scope.look.kind e) in
        one_range first (export key (exported_value e)) rest (one_typed defs scope.look [] kind e (printed_fits defs scope.look (expr_kind scope.look.kind e) suit))
        (omega (arith, there.few_texts), value_range kind) more
    simple_range first (export key (exported_array a)) rest shaped suit there more =
        let within : first.literal + length (array_literals a) ≤ literals = omega (arith, there.few_literals, ap length (append-nil (array_literals a))) in
        one_range first (export key (exported_array a)) rest (array_typed defs scope.look agrees [] a suit)
        (omega (arith, there.few_texts), source_range scope.look agrees first.literal a suit within) more
    simple_range first (print list) rest shaped suit there more =
        let some : 1 ≤ length (print_parts scope.look first.text list) = omega (arith, parts_count scope.look first.text list, ltb-true 0 (length list) shaped) in
        let within : first.text + length (part_texts list) ≤ texts = omega (arith, there.few_texts, ap length (append-nil (part_texts list))) in
        one_range first (print list) rest (parts_typed defs scope.look [] list suit)
        (some, each_all (IsPart texts) (print_parts scope.look first.text list) (parts_range texts scope.look first.text list within)) more
    simple_range first (exit e) rest shaped suit there more = one_range first (exit e) rest (one_typed defs scope.look [] kinds.Int e suit) tt more
    simple_range first (scan register count source target compare) rest shaped suit there more =
        let is = scan_suits scope.look.kind register count source target compare suit in
        let within : first.literal + length (array_literals source ++ compare_literals compare) ≤ literals =
        omega (arith, there.few_literals, ap length (append-nil (array_literals source ++ compare_literals compare))) in
        one_range first (scan register count source target compare) rest
        (record { fits = is.count_is; test = tt }, scan_typed defs scope.look agrees (kinds.Int ∷ []) source target compare count is)
        (scan_range scope.look agrees first.literal register count source target compare is within) more
    simple_range first (stop register state) rest shaped suit there more = one_range first (stop register state) rest tt tt more
    simple_range first (pad which count bits) rest shaped suit there more =
        let kind = scope.look.kind in
        let t = and_parts (is_int (expr_kind kind count)) (if_given (is_array kind) bits) suit in
        let within : first.literal + length (given_literals bits) ≤ literals = omega (arith, there.few_literals, ap length (append-nil (given_literals bits))) in
        one_range first (pad which count bits) rest (record { fits = t.0; test = tt }, arrays.given_typed defs scope.look agrees (kinds.Int ∷ []) bits t.1)
        (given_range scope.look agrees first.literal bits t.1 within) more
    simple_range first (state_list states) rest shaped suit there more =
        let some : 1 ≤ length (map tap_of states) = omega (arith, length-map states tap_of, ltb-true 0 (length states) shaped) in
        one_range first (state_list states) rest tt some more
    simple_range first (wait_cycles state cycles usec end) rest shaped suit there more =
        let kind = scope.look.kind in
        let suits = and_parts (is_int (expr_kind kind cycles)) (if_given (wants_int kind) usec) suit in
        one_range first (wait_cycles state cycles usec end) rest
        (record { fits = suits.0; test = tt }, given_typed defs scope.look (kinds.Int ∷ []) usec suits.1) tt more
    simple_range first (wait_usec state usec end) rest shaped suit there more =
        one_range first (wait_usec state usec end) rest (one_typed defs scope.look [] kinds.Int usec suit) tt more
    simple_range first (frequency hertz) rest shaped suit there more =
        one_range first (frequency hertz) rest (given_typed defs scope.look [] hertz suit) tt more
    simple_range first _ rest shaped suit there more = absurd cc

    -- the variable of a declaration has its kind and its size
    abbrev pub IsDefined : BodyTree → Type 0
    IsDefined b = IfSome (declaration b) (λ (d : Declaration). slice_get defs (scope.look.variable d.name) ≡ Some (record { kind = kind_number d.kind; size = nat_abs d.size }))

    defined_there : (n : ℕ) (v : VarDef) → slice_get defs n ≡ Some v → n < length defs
    defined_there n v at = there_if is_some false refl defs n (λ none. absurd (let some = ap is_some at in cc))

    inner_range : (first : Firsts) (b : BodyTree) → IsInner b → (rest : List Instr) → operands_suit scope.look.kind b ≡ true → IsDefined b → has_too_many_values b ≡ false →
        AreThere first b → InRange rest → InRange (body_code scope place first b rest)
    inner_range first _ an_end rest suit at few there more = (tt, more)
    inner_range first _ (a_bit name None) rest suit at few there more = more
    inner_range first _ (a_bit name (Some b)) rest suit at few there more =
        one_range first (boolean name (Some b)) rest (one_typed defs scope.look [] kinds.Bit (number (bit_number b)) (bit_fits b)) (defined_there (scope.look.variable name) _ at) more
    inner_range first _ (some_bits name size None) rest suit at few there more = more
    inner_range first _ (some_bits name size (Some bits)) rest suit at few there more =
        one_range first (boolean_array name size (Some bits)) rest tt (defined_there (scope.look.variable name) _ at, omega (arith, there.few_literals)) more
    inner_range first _ (an_integer name None) rest suit at few there more = more
    inner_range first _ (an_integer name (Some z)) rest suit at few there more =
        one_range first (integer name (Some z)) rest (one_typed defs scope.look [] kinds.Int (number z) (number_fits z)) (defined_there (scope.look.variable name) _ at) more
    inner_range first _ (no_integers name size) rest suit at few there more = more
    inner_range first _ (some_integers name size zs some) rest suit at few there more =
        let enough : length zs ≤ size_of (slice_get defs (scope.look.variable name)) =
        omega (arith, ltb-false (nat_abs size) (length zs) few, ap size_of at) in
        one_range first (integer_array name size (Some zs)) rest tt (defined_there (scope.look.variable name) _ at, ltb-true 0 (length zs) some, enough) more
    inner_range first _ (a_simple b shaped) rest suit at few there more = simple_range first b rest shaped suit there more

    pub body_range : (first : Firsts) (b : BodyTree) (rest : List Instr) → is_inner_shape b ≡ true → operands_suit scope.look.kind b ≡ true → IsDefined b → has_too_many_values b ≡ false →
        AreThere first b → InRange rest → InRange (body_code scope place first b rest)
    body_range first b rest shaped = inner_range first b (inner_view b shaped) rest
