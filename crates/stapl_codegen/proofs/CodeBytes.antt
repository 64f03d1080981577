-- How many bytes the instructions of a program take: at most six for each symbol of its statements and of its DATA
-- blocks, and a few more for what they hold.
use Rattle.std.proofs.Common.{◌≡◌, ℕ, ℤ, zero, suc, pos, ◌+◌, ◌*◌, ◌≤◌, Bool, true, false, cond, List, [], ◌∷◌, ◌++◌, Option, None, Some, length, arith, refl, sym, ap, ◌∙◌}
use Rattle.std.specs.Prelude.{All, IfSome}
use Rattle.std.specs.List.{sum_by}
use Rattle.std.proofs.lemmas.Bool.{true≢false}
use Rattle.std.proofs.lemmas.List.{length-map}
use Rattle.std.proofs.lemmas.List.Elements.{All-head, All-tail}
use Rattle.std.proofs.lemmas.List.Sums.{sum_by-cons}
use Rattle.stapl_syntax.specs.Kinds.{expr_kind}
use Rattle.stapl_syntax.specs.Statements.{is_outer}
use Rattle.stapl_syntax.specs.Trees.{ExprTree, number, scalar, element, unary, binary, abs, int, ArrayTree, literal, whole, range, of_int, PartTree, string, value, character, CompareTree, BodyTree, boolean, boolean_array, integer, integer_array, assign, assign_element, assign_array, assign_range, call, goto, if_then, for_loop, next, push, pop, print, exported_value, exported_array, export, exit, scan, stop, pad, state_list, wait_cycles, wait_usec, frequency, StmtTree}
use Rattle.stapl_shapes.specs.Shapes.{is_simple_shape, HasShape}
use Rattle.stapl_shapes.specs.Sizes.{expr_size, array_size, part_size, given_size, capture_size, compare_size, padding_size, body_size, statements_size}
use Rattle.stapl_shapes.specs.Bytes.{body_bytes, statement_bytes, statements_bytes}
use Rattle.stapl_meaning.specs.declared.values.ValueKind.{ValueKind}
use Rattle.stapl_meaning.specs.declared.values.ValueKind.TheVariants as kinds
use Rattle.stapl_meaning.specs.Values.{Lookup, unary_side, sides}
use Rattle.stapl_meaning.specs.Operands.{Operand, an_index, a_range, array_operands, given_operands, target_operands, compare_operands, bit_number, given_kind, printed_kind, step_or_one, part_operands}
use Rattle.stapl_meaning.specs.Turns.{integer_given, tap_of}
use Rattle.stapl_meaning.specs.Scopes.{has_initial_value, Preset, Scope, Played, scope_at, preset_scope}
use Rattle.stapl_meaning.specs.Typed.{IsTypedPreset}
use Rattle.stapl_meaning.proofs.Resolved.{inner_has_shape}
use Rattle.stapl_code.specs.declared.instr.PrintPart.{PrintPart}
use Rattle.stapl_code.specs.declared.instr.PrintPart.TheVariants as parts
use Rattle.stapl_code.specs.declared.instr.Source.TheVariants as sources
use Rattle.stapl_code.specs.declared.instr.Instr.{Instr}
use Rattle.stapl_code.specs.declared.instr.Instr.TheVariants.{Turn, Push, PushBit, Load, LoadAt, CheckIndex, CheckRange, Store, StoreAt, Unary, Binary, ToInt, CopyBits, SetBits, SetInts, For, Next, PushRecord, PopRecord, Call, Jump, JumpIfZero, EndProc, Print, Export, CheckChar, Exit, Scan as Scans, Stop, Pad, State as GoThrough, Wait, Frequency}
use Rattle.stapl_codegen.proofs.Views.{IsInner, an_end, a_bit, some_bits, an_integer, no_integers, some_integers, a_simple, inner_view}
use Rattle.stapl_codegen.specs.Emit.{operator_number, sign_number, absolute_number, past, literal_code, shown_part, array_literals, expr_code, int_code, operands_code, given_code, target_code, compare_code, print_parts, export_part, Firsts, last, row_code, body_code, firsts_at, preset_firsts, preset_code, presets_code, piece_code, pieces_code, code_to}
use Rattle.stapl_codegen.specs.Accepted.{preset_size, IsAccepted}
use Rattle.stapl_codegen.proofs.Lists.{operands_both}

-- ---- instructions

-- what a field that may be left out takes
abbrev pub if_there : {A : Type 0} → ℕ → Option A → ℕ
if_there n None = 0
if_there n (Some x) = n

-- what a part of a PRINT takes
abbrev pub shown_part_bytes : PrintPart → ℕ
shown_part_bytes (parts.Text n) = 5
shown_part_bytes _ = 1

abbrev pub shown_parts_bytes : List PrintPart → ℕ
shown_parts_bytes [] = 0
shown_parts_bytes (p ∷ ps) = shown_part_bytes p + shown_parts_bytes ps

-- how many bytes an instruction takes at most
abbrev pub instr_bytes : Instr → ℕ
instr_bytes (Turn piece) = 5
instr_bytes (Push z) = 5
instr_bytes (PushBit b) = 2
instr_bytes (Load n) = 5
instr_bytes (LoadAt n) = 5
instr_bytes (CheckIndex n) = 5
instr_bytes (CheckRange n) = 5
instr_bytes (Store n) = 5
instr_bytes (StoreAt n) = 5
instr_bytes (Unary op) = 2
instr_bytes (Binary op) = 2
instr_bytes (ToInt s) = 6
instr_bytes (CopyBits d s) = 11
instr_bytes (SetBits n bits) = 9
instr_bytes (SetInts n values) = 9 + 4 * length values
instr_bytes (Jump to) = 5
instr_bytes (JumpIfZero to) = 5
instr_bytes (For n body) = 9
instr_bytes (Next n) = 5
instr_bytes (PushRecord kind) = 2
instr_bytes (PopRecord kind) = 2
instr_bytes (Call p) = 5
instr_bytes EndProc = 1
instr_bytes (Print list) = 5 + shown_parts_bytes list
instr_bytes CheckChar = 1
instr_bytes (Export key what) = 11
instr_bytes Exit = 1
instr_bytes (Scans s) = 8 + if_there 5 s.target + if_there 15 s.compare
instr_bytes (Stop register t) = 3
instr_bytes (Pad which bits) = 3 + if_there 5 bits
instr_bytes (GoThrough states) = 5 + length states
instr_bytes (Wait at counts end) = 4
instr_bytes (Frequency stated) = 2

abbrev pub code_bytes : List Instr → ℕ
code_bytes [] = 0
code_bytes (i ∷ is) = instr_bytes i + code_bytes is

-- ---- expressions and operands

number_fits : (kind : ValueKind) (z : ℤ) → instr_bytes (literal_code kind z) ≤ 5
number_fits kinds.Int z = omega arith
number_fits kinds.Bit (pos zero) = omega arith
number_fits kinds.Bit (pos (suc zero)) = omega arith
number_fits kinds.Bit _ = omega arith

some_expr : (e : ExprTree) → 1 ≤ expr_size e
some_expr (number z) = omega arith
some_expr (scalar name) = omega arith
some_expr (element name index) = omega arith
some_expr (unary op e) = omega arith
some_expr (binary op a b) = omega arith
some_expr (abs e) = omega arith
some_expr (int a) = omega arith

shown_fits : (kind : ValueKind) → shown_part_bytes (shown_part kind) ≡ 1
shown_fits kinds.Int = refl
shown_fits kinds.Bit = refl

module _ (look : Lookup) where
  mutual
    expr_fits : (kind : ValueKind) (e : ExprTree) (rest : List Instr) →
        code_bytes (expr_code look kind e rest) ≤ 5 * expr_size e + code_bytes rest
    expr_fits kind (number z) rest = omega (arith, number_fits kind z)
    expr_fits kind (scalar name) rest = omega arith
    expr_fits kind (element name index) rest =
        let one = expr_fits kinds.Int index (LoadAt (look.variable name) ∷ rest) in omega (arith, one)
    expr_fits kind (unary op e) rest =
        let one = expr_fits (unary_side op) e (Unary (sign_number op) ∷ rest) in
        omega (arith, one)
    expr_fits kind (binary op a b) rest =
        let s : ValueKind = sides look op a b in
        let two = expr_fits s a (expr_code look s b (Binary (operator_number op s) ∷ rest)) in
        let one = expr_fits s b (Binary (operator_number op s) ∷ rest) in
        omega (arith, one, two)
    expr_fits kind (abs e) rest = let one = expr_fits kinds.Int e (Unary absolute_number ∷ rest) in omega (arith, one)
    expr_fits kind (int a) rest = let one = int_fits a rest in omega (arith, one)

    int_fits : (a : ArrayTree) (rest : List Instr) →
        code_bytes (int_code look a rest) ≤ 5 * array_size a + 5 + code_bytes rest
    int_fits (literal bits) rest = omega arith
    int_fits (whole name) rest = omega arith
    int_fits (range name a b) rest =
        let read : List Instr = ToInt (sources.Range (look.variable name)) ∷ rest in
        let two = expr_fits kinds.Int a (expr_code look kinds.Int b read) in
        let one = expr_fits kinds.Int b read in
        omega (arith, one, two)
    int_fits (of_int e) rest = let one = expr_fits kinds.Int e (ToInt sources.FromInt ∷ rest) in omega (arith, one)

  -- the indexes of a range, and the operands of an array
  range_fits : (n : ℕ) (high low : ExprTree) (os : List Operand) (rest : List Instr) →
      code_bytes (operands_code look (a_range n high low ++ os) rest)
      ≤ 5 * expr_size high + 5 * expr_size low + 5 + code_bytes (operands_code look os rest)
  range_fits n high low os rest =
      let more : List Instr = CheckRange n ∷ operands_code look os rest in
      let two = expr_fits kinds.Int high (expr_code look kinds.Int low more) in
      let one = expr_fits kinds.Int low more in
      omega (arith, one, two)

  array_fits : (a : ArrayTree) (rest : List Instr) →
      code_bytes (operands_code look (array_operands look a) rest) + 5 ≤ 5 * array_size a + code_bytes rest
  array_fits (literal bits) rest = omega arith
  array_fits (whole name) rest = omega arith
  array_fits (range name high low) rest =
      let all = range_fits (look.variable name) high low [] rest in
      omega (arith, all)
  array_fits (of_int e) rest = let one = expr_fits kinds.Int e rest in omega (arith, one)

  -- where captured bits go, a comparison, and the array of a padding: their operands and their fields
  target_fits : (target : Option ArrayTree) (rest : List Instr) →
      code_bytes (operands_code look (target_operands look target) rest) + if_there 5 (target_code look target)
      ≤ 5 * capture_size target + code_bytes rest
  target_fits None rest = omega arith
  target_fits (Some (literal bits)) rest = omega arith
  target_fits (Some (whole name)) rest = omega arith
  target_fits (Some (range name high low)) rest =
      let all = range_fits (look.variable name) high low [] rest in
      omega (arith, all)
  target_fits (Some (of_int e)) rest = omega arith

  both_fit : (expected mask : ArrayTree) (more : List Operand) (rest : List Instr) →
      code_bytes (operands_code look (array_operands look expected ++ (array_operands look mask ++ more)) rest)
      ≤ 5 * array_size expected + 5 * array_size mask + code_bytes (operands_code look more rest)
  both_fit expected mask more rest =
      let others : List Instr = operands_code look more rest in
      let masked : List Instr = operands_code look (array_operands look mask) others in
      let two = array_fits expected masked in
      let one = array_fits mask others in
      let first : List Operand = array_operands look expected in
      let second : List Operand = array_operands look mask in
      let split = ap code_bytes
      (operands_both look first (second ++ more) rest
      ∙ ap (operands_code look first) (operands_both look second more rest)) in
      omega (arith, one, two, split)

  compare_fits : (first : ℕ) (compare : Option CompareTree) (rest : List Instr) →
      code_bytes (operands_code look (compare_operands look compare) rest)
      + if_there 15 (compare_code look first compare)
      ≤ 5 * compare_size compare + code_bytes rest
  compare_fits first None rest = omega arith
  compare_fits first (Some (expected, (mask, scalar name))) rest =
      let all = both_fit expected mask [] rest in
      omega (arith, all)
  compare_fits first (Some (expected, (mask, element name index))) rest =
      let own : List Operand = an_index (look.variable name) index ∷ [] in
      let all = both_fit expected mask own rest in
      let one = expr_fits kinds.Int index (CheckIndex (look.variable name) ∷ rest) in
      omega (arith, all, one)
  compare_fits first (Some (expected, (mask, number z))) rest = omega arith
  compare_fits first (Some (expected, (mask, unary op e))) rest = omega arith
  compare_fits first (Some (expected, (mask, binary op a b))) rest = omega arith
  compare_fits first (Some (expected, (mask, abs e))) rest = omega arith
  compare_fits first (Some (expected, (mask, int a))) rest = omega arith

  padding_fits : (first : ℕ) (a : Option ArrayTree) (rest : List Instr) →
      code_bytes (operands_code look (given_operands look a) rest) + if_there 5 (given_code look first a)
      ≤ 5 * padding_size a + code_bytes rest
  padding_fits first None rest = omega arith
  padding_fits first (Some a) rest = let one = array_fits a rest in omega (arith, one)

  -- the operands of a scan after its length
  scan_fits : (first : ℕ) (source : ArrayTree) (target : Option ArrayTree) (compare : Option CompareTree)
      (rest : List Instr) →
      code_bytes (operands_code look
      (array_operands look source ++ (target_operands look target ++ compare_operands look compare)) rest)
      + if_there 5 (target_code look target) + if_there 15 (compare_code look first compare)
      ≤ 5 * array_size source + 5 * capture_size target + 5 * compare_size compare + code_bytes rest
  scan_fits first source target compare rest =
      let given : List Operand = array_operands look source in
      let taken : List Operand = target_operands look target in
      let compared : List Operand = compare_operands look compare in
      let compares : List Instr = operands_code look compared rest in
      let catches : List Instr = operands_code look taken compares in
      let three = array_fits source catches in
      let two = target_fits target compares in
      let one = compare_fits first compare rest in
      let split = ap code_bytes
      (operands_both look given (taken ++ compared) rest
      ∙ ap (operands_code look given) (operands_both look taken compared rest)) in
      omega (arith, one, two, three, split)

  printed_fits : (first : ℕ) (list : List PartTree) (rest : List Instr) →
      code_bytes (operands_code look (part_operands look list) rest) + shown_parts_bytes (print_parts look first list)
      ≤ 6 * sum_by part_size list + code_bytes rest
  printed_fits first [] rest = omega arith
  printed_fits first (string bytes ∷ list) rest =
      let more = printed_fits (suc first) list rest in omega (arith, sum_by-cons part_size (string bytes) list, more)
  printed_fits first (value e ∷ list) rest =
      let kind : ValueKind = printed_kind (expr_kind look.kind e) in
      let one = expr_fits kind e (operands_code look (part_operands look list) rest) in
      let more = printed_fits first list rest in
      omega (arith, sum_by-cons part_size (value e) list, one, more, some_expr e, shown_fits kind)
  printed_fits first (character e ∷ list) rest =
      let one = expr_fits kinds.Int e (CheckChar ∷ operands_code look (part_operands look list) rest) in
      let more = printed_fits first list rest in
      omega (arith, sum_by-cons part_size (character e) list, one, more)

  -- an expression that may be left out
  optional_fits : (o : Option ExprTree) (rest : List Instr) →
      code_bytes (operands_code look (integer_given o) rest) ≤ 5 * given_size o + code_bytes rest
  optional_fits None rest = omega arith
  optional_fits (Some e) rest = let one = expr_fits kinds.Int e rest in omega (arith, one)

-- ---- statements

module _ (scope : Scope) (place : ℕ → ℕ) where
  simple_fits : (first : Firsts) (b : BodyTree) (rest : List Instr) → is_simple_shape b ≡ true →
      code_bytes (body_code scope place first b rest) ≤ 6 * body_size b + 4 * body_bytes b + code_bytes rest
  simple_fits first (assign name e) rest shaped =
      let one = expr_fits scope.look (given_kind (scope.look.kind name)) e (Store (scope.look.variable name) ∷ rest) in
      omega (arith, one)
  simple_fits first (assign_element name index e) rest shaped =
      let more : List Instr = StoreAt (scope.look.variable name) ∷ rest in
      let kind : ValueKind = given_kind (scope.look.kind name) in
      let check : List Instr = CheckIndex (scope.look.variable name) ∷ expr_code scope.look kind e more in
      let two = expr_fits scope.look kinds.Int index check in
      let one = expr_fits scope.look kind e more in
      omega (arith, one, two)
  simple_fits first (assign_array name a) rest shaped =
      let one = array_fits scope.look a (last scope place first (assign_array name a) ∷ rest) in omega (arith, one)
  simple_fits first (assign_range name high low a) rest shaped =
      let more : List Instr = last scope place first (assign_range name high low a) ∷ rest in
      let two = range_fits scope.look (scope.look.variable name) high low (array_operands scope.look a) more in
      let one = array_fits scope.look a more in
      omega (arith, one, two)
  simple_fits first (goto name) rest shaped = omega arith
  simple_fits first (if_then e b) rest shaped =
      let jump : List Instr = JumpIfZero (place scope.follow) ∷ body_code scope place first b rest in
      let one = expr_fits scope.look kinds.Bit e jump in
      let more = simple_fits first b rest shaped in
      omega (arith, one, more)
  simple_fits first (call name) rest shaped = omega arith
  simple_fits first (for_loop name from to step) rest shaped =
      let begin : List Instr = For (scope.look.variable name) (place scope.follow) ∷ rest in
      let by : List Instr = expr_code scope.look kinds.Int (step_or_one step) begin in
      let three = expr_fits scope.look kinds.Int from (expr_code scope.look kinds.Int to by) in
      let two = expr_fits scope.look kinds.Int to by in
      let one = expr_fits scope.look kinds.Int (step_or_one step) begin in
      omega (arith, one, two, three, one_step step)
    where
      one_step : (step : Option ExprTree) → expr_size (step_or_one step) ≤ given_size step + 1
      one_step None = omega arith
      one_step (Some e) = omega arith
  simple_fits first (next name) rest shaped = omega arith
  simple_fits first (push e) rest shaped =
      let kind : ValueKind = printed_kind (expr_kind scope.look.kind e) in
      let one = expr_fits scope.look kind e (PushRecord kind ∷ rest) in
      omega (arith, one)
  simple_fits first (pop (scalar name)) rest shaped = omega arith
  simple_fits first (pop (element name index)) rest shaped =
      let n : ℕ = scope.look.variable name in
      let check : List Instr = CheckIndex n ∷ PopRecord (given_kind (scope.look.kind name)) ∷ StoreAt n ∷ rest in
      let one = expr_fits scope.look kinds.Int index check in
      omega (arith, one)
  simple_fits first (export key (exported_value e)) rest shaped =
      let kind : ValueKind = printed_kind (expr_kind scope.look.kind e) in
      let one = expr_fits scope.look kind e (Export first.text (export_part kind) ∷ rest) in
      omega (arith, one)
  simple_fits first (export key (exported_array a)) rest shaped =
      let one = array_fits scope.look a (last scope place first (export key (exported_array a)) ∷ rest) in
      omega (arith, one)
  simple_fits first (print list) rest shaped =
      let one = printed_fits scope.look first.text list (Print (print_parts scope.look first.text list) ∷ rest) in
      omega (arith, one)
  simple_fits first (exit e) rest shaped =
      let one = expr_fits scope.look kinds.Int e (Exit ∷ rest) in
      omega (arith, one)
  simple_fits first (scan register count source target compare) rest shaped =
      let scans : List Instr = last scope place first (scan register count source target compare) ∷ rest in
      let taken : List Operand = target_operands scope.look target ++ compare_operands scope.look compare in
      let parts : List Operand = array_operands scope.look source ++ taken in
      let two = expr_fits scope.look kinds.Int count (operands_code scope.look parts scans) in
      let one = scan_fits scope.look (past first.literal (array_literals source)) source target compare scans in
      omega (arith, one, two)
  simple_fits first (stop register state) rest shaped = omega arith
  simple_fits first (pad which count bits) rest shaped =
      let pads : List Instr = last scope place first (pad which count bits) ∷ rest in
      let two = expr_fits scope.look kinds.Int count (operands_code scope.look (given_operands scope.look bits) pads) in
      let one = padding_fits scope.look first.literal bits pads in
      omega (arith, one, two)
  simple_fits first (state_list states) rest shaped = omega (arith, length-map states tap_of)
  simple_fits first (wait_cycles state cycles usec end) rest shaped =
      let waits : List Instr = last scope place first (wait_cycles state cycles usec end) ∷ rest in
      let two = expr_fits scope.look kinds.Int cycles (operands_code scope.look (integer_given usec) waits) in
      let one = optional_fits scope.look usec waits in
      omega (arith, one, two)
  simple_fits first (wait_usec state usec end) rest shaped =
      let one = expr_fits scope.look kinds.Int usec (last scope place first (wait_usec state usec end) ∷ rest) in
      omega (arith, one)
  simple_fits first (frequency hertz) rest shaped =
      let one = optional_fits scope.look hertz (last scope place first (frequency hertz) ∷ rest) in omega (arith, one)
  simple_fits first _ rest shaped = absurd cc

  inner_fits : (first : Firsts) (b : BodyTree) → IsInner b → (rest : List Instr) →
      code_bytes (body_code scope place first b rest) ≤ 6 * body_size b + 4 * body_bytes b + code_bytes rest
  inner_fits first _ an_end rest = omega arith
  inner_fits first _ (a_bit name None) rest = omega arith
  inner_fits first _ (a_bit name (Some b)) rest =
      let one = expr_fits scope.look kinds.Bit (number (bit_number b)) (Store (scope.look.variable name) ∷ rest) in
      omega (arith, one)
  inner_fits first _ (some_bits name size None) rest = omega arith
  inner_fits first _ (some_bits name size (Some bits)) rest = omega arith
  inner_fits first _ (an_integer name None) rest = omega arith
  inner_fits first _ (an_integer name (Some z)) rest = omega arith
  inner_fits first _ (no_integers name size) rest = omega arith
  inner_fits first _ (some_integers name size zs some) rest = omega arith
  inner_fits first _ (a_simple b shaped) rest = simple_fits first b rest shaped

-- ---- pieces and initial values

module _ (program : Played) (place : ℕ → ℕ) where
  piece_fits : (i : ℕ) (st : StmtTree) (rest : List Instr) → HasShape st →
      code_bytes (piece_code program place i st rest) ≤ 6 * body_size st.body + 5 * statement_bytes st + code_bytes rest
  piece_fits i st rest shaped = by_case (is_outer st.body) refl
    where
      own : List Instr
      own = body_code (scope_at program i) place (firsts_at program i) st.body rest

      inner : is_outer st.body ≡ false →
          code_bytes own ≤ 6 * body_size st.body + 4 * body_bytes st.body + code_bytes rest
      inner inside =
          let view = inner_view st.body (inner_has_shape st shaped inside) in
          inner_fits (scope_at program i) place (firsts_at program i) st.body view rest

      by_case : (outer : Bool) → is_outer st.body ≡ outer →
          code_bytes (cond outer rest (Turn (i + 1) ∷ own))
          ≤ 6 * body_size st.body + 5 * statement_bytes st + code_bytes rest
      by_case true e = omega arith
      by_case false e = let few = inner e in omega (arith, few)

  pieces_fit : (i : ℕ) (sts : List StmtTree) → All HasShape sts →
      code_bytes (pieces_code program place i sts) ≤ 6 * statements_size sts + 5 * statements_bytes sts
  pieces_fit i [] shaped = omega arith
  pieces_fit i (st ∷ rest) shaped =
      let one = piece_fits i st (pieces_code program place (i + 1) rest) (All-head HasShape st rest shaped) in
      let more = pieces_fit (i + 1) rest (All-tail HasShape st rest shaped) in
      omega (
        arith,
        sum_by-cons (λ (st : StmtTree). body_size st.body) st rest,
        sum_by-cons statement_bytes st rest,
        one,
        more,
      )

-- an initial value of a DATA block
preset_fits : (scope : Scope) (place : ℕ → ℕ) (first : Firsts) (b : BodyTree) (rest : List Instr) →
    has_initial_value b ≡ true →
    code_bytes (row_code scope place first b rest) ≤ 6 * body_size b + 4 * body_bytes b + code_bytes rest
preset_fits scope place first (boolean name (Some b)) rest starts =
    let one = expr_fits scope.look kinds.Bit (number (bit_number b)) (Store (scope.look.variable name) ∷ rest) in
    omega (arith, one)
preset_fits scope place first (boolean_array name size (Some bits)) rest starts = omega arith
preset_fits scope place first (integer name (Some z)) rest starts = omega arith
preset_fits scope place first (integer_array name size (Some zs)) rest starts = omega arith
preset_fits scope place first (boolean name None) rest starts = absurd (true≢false (sym starts))
preset_fits scope place first (boolean_array name size None) rest starts = absurd (true≢false (sym starts))
preset_fits scope place first (integer name None) rest starts = absurd (true≢false (sym starts))
preset_fits scope place first (integer_array name size None) rest starts = absurd (true≢false (sym starts))
preset_fits scope place first _ rest starts = absurd (true≢false (sym starts))

-- how many bytes an initial value of a DATA block holds, if there is one
abbrev pub preset_bytes : Option Preset → ℕ
preset_bytes None = 0
preset_bytes (Some preset) = body_bytes preset.body

presets_fit : (program : Played) (place : ℕ → ℕ) (i : ℕ) (presets : List (Option Preset)) (rest : List Instr) →
    All (λ o. IfSome o (IsTypedPreset program)) presets →
    code_bytes (presets_code program place i presets rest)
    ≤ 6 * sum_by preset_size presets
    + 4 * sum_by preset_bytes presets
    + code_bytes rest
presets_fit program place i [] rest typed = omega arith
presets_fit program place i (preset ∷ presets) rest typed =
    let Typed : Option Preset → Type 0 = λ o. IfSome o (IsTypedPreset program) in
    let more : List Instr = presets_code program place (i + 1) presets rest in
    let one = by preset more (All-head Typed preset presets typed) in
    let others = presets_fit program place (i + 1) presets rest (All-tail Typed preset presets typed) in
    omega (arith, sum_by-cons preset_size preset presets, sum_by-cons preset_bytes preset presets, one, others)
  where
    by : (o : Option Preset) (more : List Instr) → IfSome o (IsTypedPreset program) →
        code_bytes (preset_code program place i o more) ≤ 6 * preset_size o + 4 * preset_bytes o + code_bytes more
    by None more typed = omega arith
    by (Some preset) more typed = preset_fits (preset_scope program preset) place (preset_firsts program i) preset.body more typed.starts

-- the code of a program
pub program_code_fits : (program : Played) (place : ℕ → ℕ) → IsAccepted program →
    code_bytes (code_to program place)
    ≤ 6 * statements_size program.pieces + 5 * statements_bytes program.pieces
    + 6 * sum_by preset_size program.presets
    + 4 * sum_by preset_bytes program.presets
program_code_fits program place accepted =
    let pieces = pieces_fit program place 0 program.pieces accepted.shaped in
    let code : List Instr = pieces_code program place 0 program.pieces in
    let all = presets_fit program place 0 program.presets code accepted.typed.presets in
    omega (arith, all, pieces)
