-- How many instructions a program has: no more than the symbols of its statements and of its DATA blocks, and one for
-- each piece.
use Rattle.std.proofs.Common.{◌≡◌, ℕ, ◌+◌, ◌≤◌, Bool, true, false, cond, List, [], ◌∷◌, ◌++◌, Option, None, Some, length, arith, refl, sym, ap, ◌∙◌}
use Rattle.std.specs.Prelude.{All, IfSome}
use Rattle.std.specs.List.{sum_by}
use Rattle.std.proofs.lemmas.Bool.{true≢false}
use Rattle.std.proofs.lemmas.List.Elements.{All-head, All-tail}
use Rattle.std.proofs.lemmas.List.Sums.{sum_by-cons}
use Rattle.stapl_syntax.specs.Kinds.{expr_kind}
use Rattle.stapl_syntax.specs.Statements.{is_outer}
use Rattle.stapl_syntax.specs.Trees.{ExprTree, number, scalar, element, unary, binary, abs, int, ArrayTree, literal, whole, range, of_int, PartTree, string, value, character, CompareTree, BodyTree, boolean, boolean_array, integer, integer_array, assign, assign_element, assign_array, assign_range, call, goto, if_then, for_loop, next, push, pop, print, exported_value, exported_array, export, exit, scan, stop, pad, state_list, wait_cycles, wait_usec, frequency, StmtTree}
use Rattle.stapl_shapes.specs.Shapes.{is_simple_shape, HasShape}
use Rattle.stapl_shapes.specs.Sizes.{expr_size, array_size, part_size, given_size, capture_size, compare_size, padding_size, body_size, statements_size}
use Rattle.stapl_meaning.specs.declared.values.ValueKind.{ValueKind}
use Rattle.stapl_meaning.specs.declared.values.ValueKind.TheVariants as kinds
use Rattle.stapl_meaning.specs.Values.{Lookup, unary_side, sides}
use Rattle.stapl_meaning.specs.Operands.{Operand, an_index, a_range, array_operands, given_operands, target_operands, compare_operands, bit_number, given_kind, printed_kind, step_or_one, part_operands}
use Rattle.stapl_meaning.specs.Turns.{integer_given}
use Rattle.stapl_meaning.specs.Scopes.{has_initial_value, Preset, Scope, Played, scope_at, preset_scope}
use Rattle.stapl_meaning.specs.Typed.{IsTypedPreset}
use Rattle.stapl_meaning.proofs.Resolved.{inner_has_shape}
use Rattle.stapl_code.specs.declared.instr.Instr.{Instr}
use Rattle.stapl_code.specs.declared.instr.Instr.TheVariants.{Turn, LoadAt, CheckIndex, CheckRange, Unary, Binary, ToInt, Store, StoreAt, For, PushRecord, PopRecord, JumpIfZero, Print, Export, CheckChar, Exit}
use Rattle.stapl_code.specs.declared.instr.Source.TheVariants as sources
use Rattle.stapl_codegen.proofs.Views.{IsInner, an_end, a_bit, some_bits, an_integer, no_integers, some_integers, a_simple, inner_view}
use Rattle.stapl_codegen.specs.Emit.{operator_number, sign_number, absolute_number, expr_code, int_code, operands_code, print_parts, export_part, Firsts, last, row_code, body_code, firsts_at, preset_firsts, preset_code, presets_code, piece_code, pieces_code, code_to}
use Rattle.stapl_codegen.specs.Accepted.{preset_size, IsAccepted}
use Rattle.stapl_codegen.proofs.Lists.{operands_both}

module _ (look : Lookup) where
  mutual
    expr_length : (kind : ValueKind) (e : ExprTree) (rest : List Instr) → length (expr_code look kind e rest) ≤ expr_size e + length rest
    expr_length kind (number z) rest = omega arith
    expr_length kind (scalar name) rest = omega arith
    expr_length kind (element name index) rest = let one = expr_length kinds.Int index (LoadAt (look.variable name) ∷ rest) in omega (arith, one)
    expr_length kind (unary op e) rest = let one = expr_length (unary_side op) e (Unary (sign_number op) ∷ rest) in omega (arith, one)
    expr_length kind (binary op a b) rest =
        let s : ValueKind = sides look op a b in
        let two = expr_length s a (expr_code look s b (Binary (operator_number op s) ∷ rest)) in
        let one = expr_length s b (Binary (operator_number op s) ∷ rest) in
        omega (arith, one, two)
    expr_length kind (abs e) rest = let one = expr_length kinds.Int e (Unary absolute_number ∷ rest) in omega (arith, one)
    expr_length kind (int a) rest = let one = int_length a rest in omega (arith, one)

    int_length : (a : ArrayTree) (rest : List Instr) → length (int_code look a rest) ≤ array_size a + 1 + length rest
    int_length (literal bits) rest = omega arith
    int_length (whole name) rest = omega arith
    int_length (range name a b) rest =
        let read : List Instr = ToInt (sources.Range (look.variable name)) ∷ rest in
        let two = expr_length kinds.Int a (expr_code look kinds.Int b read) in
        let one = expr_length kinds.Int b read in
        omega (arith, one, two)
    int_length (of_int e) rest = let one = expr_length kinds.Int e (ToInt sources.FromInt ∷ rest) in omega (arith, one)

  -- the indexes of a range, and the operands of an array
  range_length : (n : ℕ) (high low : ExprTree) (os : List Operand) (rest : List Instr) →
      length (operands_code look (a_range n high low ++ os) rest) ≤ expr_size high + expr_size low + 1 + length (operands_code look os rest)
  range_length n high low os rest =
      let more : List Instr = CheckRange n ∷ operands_code look os rest in
      let two = expr_length kinds.Int high (expr_code look kinds.Int low more) in
      let one = expr_length kinds.Int low more in
      omega (arith, one, two)

  array_length : (a : ArrayTree) (rest : List Instr) → length (operands_code look (array_operands look a) rest) + 1 ≤ array_size a + length rest + 1
  array_length (literal bits) rest = omega arith
  array_length (whole name) rest = omega arith
  array_length (range name high low) rest = let all = range_length (look.variable name) high low [] rest in omega (arith, all)
  array_length (of_int e) rest = let one = expr_length kinds.Int e rest in omega (arith, one)

  -- the indexes of where captured bits go, the operands of a comparison, and those of a padding
  target_length : (target : Option ArrayTree) (rest : List Instr) → length (operands_code look (target_operands look target) rest) ≤ capture_size target + length rest
  target_length None rest = omega arith
  target_length (Some (literal bits)) rest = omega arith
  target_length (Some (whole name)) rest = omega arith
  target_length (Some (range name high low)) rest = let all = range_length (look.variable name) high low [] rest in omega (arith, all)
  target_length (Some (of_int e)) rest = omega arith

  both_length : (expected mask : ArrayTree) (more : List Operand) (rest : List Instr) →
      length (operands_code look (array_operands look expected ++ (array_operands look mask ++ more)) rest)
      ≤ array_size expected + array_size mask + length (operands_code look more rest)
  both_length expected mask more rest =
      let others : List Instr = operands_code look more rest in
      let masked : List Instr = operands_code look (array_operands look mask) others in
      let two = array_length expected masked in
      let one = array_length mask others in
      let split = ap length (operands_both look (array_operands look expected) (array_operands look mask ++ more) rest
      ∙ ap (operands_code look (array_operands look expected)) (operands_both look (array_operands look mask) more rest)) in
      omega (arith, one, two, split)

  compare_length : (compare : Option CompareTree) (rest : List Instr) → length (operands_code look (compare_operands look compare) rest) ≤ compare_size compare + length rest
  compare_length None rest = omega arith
  compare_length (Some (expected, (mask, scalar name))) rest = let all = both_length expected mask [] rest in omega (arith, all)
  compare_length (Some (expected, (mask, element name index))) rest =
      let own : List Operand = an_index (look.variable name) index ∷ [] in
      let all = both_length expected mask own rest in
      let one = expr_length kinds.Int index (CheckIndex (look.variable name) ∷ rest) in
      omega (arith, all, one)
  compare_length (Some (expected, (mask, number z))) rest = omega arith
  compare_length (Some (expected, (mask, unary op e))) rest = omega arith
  compare_length (Some (expected, (mask, binary op a b))) rest = omega arith
  compare_length (Some (expected, (mask, abs e))) rest = omega arith
  compare_length (Some (expected, (mask, int a))) rest = omega arith

  padding_length : (a : Option ArrayTree) (rest : List Instr) → length (operands_code look (given_operands look a) rest) ≤ padding_size a + length rest
  padding_length None rest = omega arith
  padding_length (Some a) rest = let one = array_length a rest in omega (arith, one)

  -- the operands of a scan after its length
  scan_length : (source : ArrayTree) (target : Option ArrayTree) (compare : Option CompareTree) (rest : List Instr) →
      length (operands_code look (array_operands look source ++ (target_operands look target ++ compare_operands look compare)) rest)
      ≤ array_size source + capture_size target + compare_size compare + length rest
  scan_length source target compare rest =
      let compares : List Instr = operands_code look (compare_operands look compare) rest in
      let catches : List Instr = operands_code look (target_operands look target) compares in
      let three = array_length source catches in
      let two = target_length target compares in
      let one = compare_length compare rest in
      let split = ap length (operands_both look (array_operands look source) (target_operands look target ++ compare_operands look compare) rest
      ∙ ap (operands_code look (array_operands look source)) (operands_both look (target_operands look target) (compare_operands look compare) rest)) in
      omega (arith, one, two, three, split)

  parts_length : (list : List PartTree) (rest : List Instr) → length (operands_code look (part_operands look list) rest) ≤ sum_by part_size list + length rest
  parts_length [] rest = omega arith
  parts_length (string bytes ∷ list) rest = let more = parts_length list rest in omega (arith, sum_by-cons part_size (string bytes) list, more)
  parts_length (value e ∷ list) rest =
      let one = expr_length (printed_kind (expr_kind look.kind e)) e (operands_code look (part_operands look list) rest) in
      let more = parts_length list rest in
      omega (arith, sum_by-cons part_size (value e) list, one, more)
  parts_length (character e ∷ list) rest =
      let one = expr_length kinds.Int e (CheckChar ∷ operands_code look (part_operands look list) rest) in
      let more = parts_length list rest in
      omega (arith, sum_by-cons part_size (character e) list, one, more)

  -- an expression that may be left out
  given_length : (o : Option ExprTree) (rest : List Instr) → length (operands_code look (integer_given o) rest) ≤ given_size o + length rest
  given_length None rest = omega arith
  given_length (Some e) rest = let one = expr_length kinds.Int e rest in omega (arith, one)

module _ (scope : Scope) (place : ℕ → ℕ) where
  simple_length : (first : Firsts) (b : BodyTree) (rest : List Instr) → is_simple_shape b ≡ true → length (body_code scope place first b rest) ≤ body_size b + length rest
  simple_length first (assign name e) rest shaped =
      let one = expr_length scope.look (given_kind (scope.look.kind name)) e (Store (scope.look.variable name) ∷ rest) in omega (arith, one)
  simple_length first (assign_element name index e) rest shaped =
      let more : List Instr = StoreAt (scope.look.variable name) ∷ rest in
      let kind : ValueKind = given_kind (scope.look.kind name) in
      let two = expr_length scope.look kinds.Int index (CheckIndex (scope.look.variable name) ∷ expr_code scope.look kind e more) in
      let one = expr_length scope.look kind e more in
      omega (arith, one, two)
  simple_length first (assign_array name a) rest shaped =
      let one = array_length scope.look a (last scope place first (assign_array name a) ∷ rest) in omega (arith, one)
  simple_length first (assign_range name high low a) rest shaped =
      let more : List Instr = last scope place first (assign_range name high low a) ∷ rest in
      let two = range_length scope.look (scope.look.variable name) high low (array_operands scope.look a) more in
      let one = array_length scope.look a more in
      omega (arith, one, two)
  simple_length first (goto name) rest shaped = omega arith
  simple_length first (if_then e b) rest shaped =
      let one = expr_length scope.look kinds.Bit e (JumpIfZero (place scope.follow) ∷ body_code scope place first b rest) in
      let more = simple_length first b rest shaped in
      omega (arith, one, more)
  simple_length first (call name) rest shaped = omega arith
  simple_length first (for_loop name from to step) rest shaped =
      let begin : List Instr = For (scope.look.variable name) (place scope.follow) ∷ rest in
      let by : List Instr = expr_code scope.look kinds.Int (step_or_one step) begin in
      let three = expr_length scope.look kinds.Int from (expr_code scope.look kinds.Int to by) in
      let two = expr_length scope.look kinds.Int to by in
      let one = expr_length scope.look kinds.Int (step_or_one step) begin in
      omega (arith, one, two, three, one_step step)
    where
      one_step : (step : Option ExprTree) → expr_size (step_or_one step) ≤ given_size step + 1
      one_step None = omega arith
      one_step (Some e) = omega arith
  simple_length first (next name) rest shaped = omega arith
  simple_length first (push e) rest shaped =
      let kind : ValueKind = printed_kind (expr_kind scope.look.kind e) in
      let one = expr_length scope.look kind e (PushRecord kind ∷ rest) in
      omega (arith, one)
  simple_length first (pop (scalar name)) rest shaped = omega arith
  simple_length first (pop (element name index)) rest shaped =
      let n : ℕ = scope.look.variable name in
      let one = expr_length scope.look kinds.Int index (CheckIndex n ∷ PopRecord (given_kind (scope.look.kind name)) ∷ StoreAt n ∷ rest) in
      omega (arith, one)
  simple_length first (export key (exported_value e)) rest shaped =
      let kind : ValueKind = printed_kind (expr_kind scope.look.kind e) in
      let one = expr_length scope.look kind e (Export first.text (export_part kind) ∷ rest) in
      omega (arith, one)
  simple_length first (export key (exported_array a)) rest shaped =
      let one = array_length scope.look a (last scope place first (export key (exported_array a)) ∷ rest) in omega (arith, one)
  simple_length first (print list) rest shaped = let one = parts_length scope.look list (Print (print_parts scope.look first.text list) ∷ rest) in omega (arith, one)
  simple_length first (exit e) rest shaped = let one = expr_length scope.look kinds.Int e (Exit ∷ rest) in omega (arith, one)
  simple_length first (scan register count source target compare) rest shaped =
      let scans : List Instr = last scope place first (scan register count source target compare) ∷ rest in
      let parts : List Operand = array_operands scope.look source ++ (target_operands scope.look target ++ compare_operands scope.look compare) in
      let two = expr_length scope.look kinds.Int count (operands_code scope.look parts scans) in
      let one = scan_length scope.look source target compare scans in
      omega (arith, one, two)
  simple_length first (stop register state) rest shaped = omega arith
  simple_length first (pad which count bits) rest shaped =
      let pads : List Instr = last scope place first (pad which count bits) ∷ rest in
      let two = expr_length scope.look kinds.Int count (operands_code scope.look (given_operands scope.look bits) pads) in
      let one = padding_length scope.look bits pads in
      omega (arith, one, two)
  simple_length first (state_list states) rest shaped = omega arith
  simple_length first (wait_cycles state cycles usec end) rest shaped =
      let waits : List Instr = last scope place first (wait_cycles state cycles usec end) ∷ rest in
      let two = expr_length scope.look kinds.Int cycles (operands_code scope.look (integer_given usec) waits) in
      let one = given_length scope.look usec waits in
      omega (arith, one, two)
  simple_length first (wait_usec state usec end) rest shaped =
      let one = expr_length scope.look kinds.Int usec (last scope place first (wait_usec state usec end) ∷ rest) in omega (arith, one)
  simple_length first (frequency hertz) rest shaped =
      let one = given_length scope.look hertz (last scope place first (frequency hertz) ∷ rest) in omega (arith, one)
  simple_length first _ rest shaped = absurd cc

  inner_length : (first : Firsts) (b : BodyTree) → IsInner b → (rest : List Instr) → length (body_code scope place first b rest) ≤ body_size b + length rest
  inner_length first _ an_end rest = omega arith
  inner_length first _ (a_bit name None) rest = omega arith
  inner_length first _ (a_bit name (Some b)) rest =
      let one = expr_length scope.look kinds.Bit (number (bit_number b)) (Store (scope.look.variable name) ∷ rest) in omega (arith, one)
  inner_length first _ (some_bits name size None) rest = omega arith
  inner_length first _ (some_bits name size (Some bits)) rest = omega arith
  inner_length first _ (an_integer name None) rest = omega arith
  inner_length first _ (an_integer name (Some z)) rest = omega arith
  inner_length first _ (no_integers name size) rest = omega arith
  inner_length first _ (some_integers name size zs some) rest = omega arith
  inner_length first _ (a_simple b shaped) rest = simple_length first b rest shaped

module _ (program : Played) (place : ℕ → ℕ) where
  piece_length : (i : ℕ) (st : StmtTree) (rest : List Instr) → HasShape st → length (piece_code program place i st rest) ≤ body_size st.body + 1 + length rest
  piece_length i st rest shaped = by_case (is_outer st.body) refl
    where
      inner : is_outer st.body ≡ false → length (body_code (scope_at program i) place (firsts_at program i) st.body rest) ≤ body_size st.body + length rest
      inner inside = inner_length (scope_at program i) place (firsts_at program i) st.body (inner_view st.body (inner_has_shape st shaped inside)) rest

      by_case : (outer : Bool) → is_outer st.body ≡ outer →
          length (cond outer rest (Turn (i + 1) ∷ body_code (scope_at program i) place (firsts_at program i) st.body rest)) ≤ body_size st.body + 1 + length rest
      by_case true e = omega arith
      by_case false e = let few = inner e in omega (arith, few)

  pub pieces_length : (i : ℕ) (sts : List StmtTree) → All HasShape sts → length (pieces_code program place i sts) ≤ statements_size sts + length sts
  pieces_length i [] shaped = omega arith
  pieces_length i (st ∷ rest) shaped =
      let one = piece_length i st (pieces_code program place (i + 1) rest) (All-head HasShape st rest shaped) in
      let more = pieces_length (i + 1) rest (All-tail HasShape st rest shaped) in
      omega (arith, sum_by-cons (λ (st : StmtTree). body_size st.body) st rest, one, more)

-- an initial value of a DATA block
preset_length : (scope : Scope) (place : ℕ → ℕ) (first : Firsts) (b : BodyTree) (rest : List Instr) → has_initial_value b ≡ true →
    length (row_code scope place first b rest) ≤ body_size b + length rest
preset_length scope place first (boolean name (Some b)) rest starts = omega arith
preset_length scope place first (boolean_array name size (Some bits)) rest starts = omega arith
preset_length scope place first (integer name (Some z)) rest starts = omega arith
preset_length scope place first (integer_array name size (Some zs)) rest starts = omega arith
preset_length scope place first (boolean name None) rest starts = absurd (true≢false (sym starts))
preset_length scope place first (boolean_array name size None) rest starts = absurd (true≢false (sym starts))
preset_length scope place first (integer name None) rest starts = absurd (true≢false (sym starts))
preset_length scope place first (integer_array name size None) rest starts = absurd (true≢false (sym starts))
preset_length scope place first _ rest starts = absurd (true≢false (sym starts))

presets_length : (program : Played) (place : ℕ → ℕ) (i : ℕ) (presets : List (Option Preset)) (rest : List Instr) → All (λ o. IfSome o (IsTypedPreset program)) presets →
    length (presets_code program place i presets rest) ≤ sum_by preset_size presets + length rest
presets_length program place i [] rest typed = omega arith
presets_length program place i (preset ∷ presets) rest typed =
    let Typed : Option Preset → Type 0 = λ o. IfSome o (IsTypedPreset program) in
    let more : List Instr = presets_code program place (i + 1) presets rest in
    let one = by preset more (All-head Typed preset presets typed) in
    let others = presets_length program place (i + 1) presets rest (All-tail Typed preset presets typed) in
    omega (arith, sum_by-cons preset_size preset presets, one, others)
  where
    by : (o : Option Preset) (more : List Instr) → IfSome o (IsTypedPreset program) → length (preset_code program place i o more) ≤ preset_size o + length more
    by None more typed = omega arith
    by (Some preset) more typed = preset_length (preset_scope program preset) place (preset_firsts program i) preset.body more typed.starts

-- the code of a program
pub code_length : (program : Played) (place : ℕ → ℕ) → IsAccepted program → length (code_to program place) ≤ 8488608
code_length program place accepted =
    let pieces = pieces_length program place 0 program.pieces accepted.shaped in
    let all = presets_length program place 0 program.presets (pieces_code program place 0 program.pieces) accepted.typed.presets in
    omega (arith, all, pieces, accepted.size, accepted.presets_size, accepted.typed.few)
