-- The code of expressions, operands, rows and pieces: what stands after it, and its targets.
use Rattle.std.proofs.Common.{◌≡◌, ℕ, zero, suc, ◌+◌, Bool, true, false, cond, List, [], ◌∷◌, ◌++◌, length, map, drop, arith, append_assoc, refl, sym, ap, ◌∙◌}
use Rattle.std.specs.Prelude.{ℤ, pos, negsuc, Option, None, Some}
use Rattle.stapl_syntax.specs.Trees.{ExprTree, number, scalar, element, unary, binary, abs, int, ArrayTree, literal, whole, range, of_int, BodyTree, end_procedure, boolean, boolean_array, integer, integer_array, assign, assign_element, assign_array, assign_range, call, goto, if_then, for_loop, next, push, pop, print, exported_value, exported_array, export, exit, scan, stop, pad, state_list, wait_cycles, wait_usec, frequency, StmtTree}
use Rattle.stapl_syntax.specs.Statements.{is_outer}
use Rattle.stapl_syntax.specs.Names.{Names}
use Rattle.stapl_meaning.specs.declared.values.ValueKind.{ValueKind}
use Rattle.stapl_meaning.specs.declared.values.ValueKind.TheVariants as kinds
use Rattle.stapl_meaning.specs.Values.{Lookup, unary_side, sides}
use Rattle.stapl_meaning.specs.Operands.{Test, Plain, Character, Index, Range, Operand}
use Rattle.stapl_meaning.specs.Scopes.{Scope, Preset, Played, scope_of, scope_at, preset_scope}
use Rattle.stapl_meaning.specs.Turns.{operands, rows}
use Rattle.stapl_code.specs.declared.instr.Instr.{Instr}
use Rattle.stapl_code.specs.declared.instr.Instr.TheVariants.{Turn, LoadAt, Unary, Binary, ToInt, Call}
use Rattle.stapl_code.specs.declared.instr.Source.TheVariants as sources
use Rattle.stapl_codegen.specs.Emit.{operator_number, sign_number, absolute_number, literal_code, test_code, expr_code, int_code, operands_code, Firsts, last, between, after_row, row_code, rows_code, body_code, firsts_at, preset_firsts, preset_code, presets_code, piece_code, pieces_code, code_to, retarget}
use Rattle.stapl_codegen.proofs.Rows.{IsRows, no_row, one_row, more_rows, rows_view}

literal_retarget : (place : ℕ → ℕ) (kind : ValueKind) (z : ℤ) → retarget place (literal_code kind z) ≡ literal_code kind z
literal_retarget place kinds.Int z = refl
literal_retarget place kinds.Bit (pos zero) = refl
literal_retarget place kinds.Bit (pos (suc zero)) = refl
literal_retarget place kinds.Bit (pos (suc (suc n))) = refl
literal_retarget place kinds.Bit (negsuc n) = refl

module _ (look : Lookup) where
  mutual
    pub expr_append : (kind : ValueKind) (e : ExprTree) (c d : List Instr) → expr_code look kind e (c ++ d) ≡ expr_code look kind e c ++ d
    expr_append kind (number z) c d = refl
    expr_append kind (scalar name) c d = refl
    expr_append kind (element name index) c d = expr_append kinds.Int index (LoadAt (look.variable name) ∷ c) d
    expr_append kind (unary op e) c d = expr_append (unary_side op) e (Unary (sign_number op) ∷ c) d
    expr_append kind (binary op a b) c d =
        let side : ValueKind = sides look op a b in
        ap (expr_code look side a) (expr_append side b (Binary (operator_number op side) ∷ c) d)
        ∙ expr_append side a (expr_code look side b (Binary (operator_number op side) ∷ c)) d
    expr_append kind (abs e) c d = expr_append kinds.Int e (Unary absolute_number ∷ c) d
    expr_append kind (int a) c d = int_append a c d

    int_append : (a : ArrayTree) (c d : List Instr) → int_code look a (c ++ d) ≡ int_code look a c ++ d
    int_append (literal bits) c d = refl
    int_append (whole name) c d = refl
    int_append (range name a b) c d =
        let read : List Instr = ToInt (sources.Range (look.variable name)) ∷ c in
        ap (expr_code look kinds.Int a) (expr_append kinds.Int b read d) ∙ expr_append kinds.Int a (expr_code look kinds.Int b read) d
    int_append (of_int e) c d = expr_append kinds.Int e (ToInt sources.FromInt ∷ c) d

  test_append : (t : Test) (c d : List Instr) → test_code t (c ++ d) ≡ test_code t c ++ d
  test_append Plain c d = refl
  test_append Character c d = refl
  test_append (Index n) c d = refl
  test_append (Range n) c d = refl

  pub operands_append : (os : List Operand) (c d : List Instr) → operands_code look os (c ++ d) ≡ operands_code look os c ++ d
  operands_append [] c d = refl
  operands_append (o ∷ os) c d =
      ap (λ l. expr_code look o.kind o.expr (test_code o.test l)) (operands_append os c d)
      ∙ ap (expr_code look o.kind o.expr) (test_append o.test (operands_code look os c) d)
      ∙ expr_append o.kind o.expr (test_code o.test (operands_code look os c)) d

  -- operands, and others after them
  pub operands_both : (os more : List Operand) (c : List Instr) → operands_code look (os ++ more) c ≡ operands_code look os (operands_code look more c)
  operands_both [] more c = refl
  operands_both (o ∷ os) more c = ap (λ l. expr_code look o.kind o.expr (test_code o.test l)) (operands_both os more c)

  pub expr_before : (kind : ValueKind) (e : ExprTree) (c : List Instr) → expr_code look kind e c ≡ expr_code look kind e [] ++ c
  expr_before kind e c = expr_append kind e [] c

  pub int_before : (a : ArrayTree) (c : List Instr) → int_code look a c ≡ int_code look a [] ++ c
  int_before a c = int_append a [] c

  pub operands_before : (os : List Operand) (c : List Instr) → operands_code look os c ≡ operands_code look os [] ++ c
  operands_before os c = operands_append os [] c

  module _ (place : ℕ → ℕ) where
    mutual
      expr_retarget : (kind : ValueKind) (e : ExprTree) (c : List Instr) → map (retarget place) (expr_code look kind e c) ≡ expr_code look kind e (map (retarget place) c)
      expr_retarget kind (number z) c = ap (λ i. i ∷ map (retarget place) c) (literal_retarget place kind z)
      expr_retarget kind (scalar name) c = refl
      expr_retarget kind (element name index) c = expr_retarget kinds.Int index (LoadAt (look.variable name) ∷ c)
      expr_retarget kind (unary op e) c = expr_retarget (unary_side op) e (Unary (sign_number op) ∷ c)
      expr_retarget kind (binary op a b) c =
          let side : ValueKind = sides look op a b in
          expr_retarget side a (expr_code look side b (Binary (operator_number op side) ∷ c))
          ∙ ap (expr_code look side a) (expr_retarget side b (Binary (operator_number op side) ∷ c))
      expr_retarget kind (abs e) c = expr_retarget kinds.Int e (Unary absolute_number ∷ c)
      expr_retarget kind (int a) c = int_retarget a c

      int_retarget : (a : ArrayTree) (c : List Instr) → map (retarget place) (int_code look a c) ≡ int_code look a (map (retarget place) c)
      int_retarget (literal bits) c = refl
      int_retarget (whole name) c = refl
      int_retarget (range name a b) c =
          let read : List Instr = ToInt (sources.Range (look.variable name)) ∷ c in
          expr_retarget kinds.Int a (expr_code look kinds.Int b read) ∙ ap (expr_code look kinds.Int a) (expr_retarget kinds.Int b read)
      int_retarget (of_int e) c = expr_retarget kinds.Int e (ToInt sources.FromInt ∷ c)

    test_retarget : (t : Test) (c : List Instr) → map (retarget place) (test_code t c) ≡ test_code t (map (retarget place) c)
    test_retarget Plain c = refl
    test_retarget Character c = refl
    test_retarget (Index n) c = refl
    test_retarget (Range n) c = refl

    operands_retarget : (os : List Operand) (c : List Instr) → map (retarget place) (operands_code look os c) ≡ operands_code look os (map (retarget place) c)
    operands_retarget [] c = refl
    operands_retarget (o ∷ os) c =
        expr_retarget o.kind o.expr (test_code o.test (operands_code look os c))
        ∙ ap (expr_code look o.kind o.expr) (test_retarget o.test (operands_code look os c))
        ∙ ap (λ l. expr_code look o.kind o.expr (test_code o.test l)) (operands_retarget os c)

module _ (scope : Scope) (place : ℕ → ℕ) where
  between_append : (b : BodyTree) (c d : List Instr) → between scope b (c ++ d) ≡ between scope b c ++ d
  between_append (pop (scalar name)) c d = refl
  between_append (pop (element name index)) c d = refl
  between_append _ c d = refl

  between_retarget : (b : BodyTree) (c : List Instr) → map (retarget place) (between scope b c) ≡ between scope b (map (retarget place) c)
  between_retarget (pop (scalar name)) c = refl
  between_retarget (pop (element name index)) c = refl
  between_retarget _ c = refl

  pub row_append : (first : Firsts) (b : BodyTree) (c d : List Instr) → row_code scope place first b (c ++ d) ≡ row_code scope place first b c ++ d
  row_append first b c d =
      ap (operands_code scope.look (operands scope b)) (between_append b (last scope place first b ∷ c) d)
      ∙ operands_append scope.look (operands scope b) (between scope b (last scope place first b ∷ c)) d

  rows_append : (first : Firsts) (bs : List BodyTree) (c d : List Instr) → rows_code scope place first bs (c ++ d) ≡ rows_code scope place first bs c ++ d
  rows_append first [] c d = refl
  rows_append first (b ∷ bs) c d =
      ap (row_code scope place first b) (rows_append (after_row first b) bs c d)
      ∙ row_append first b (rows_code scope place (after_row first b) bs c) d

  pub body_append : (first : Firsts) (b : BodyTree) (c d : List Instr) → body_code scope place first b (c ++ d) ≡ body_code scope place first b c ++ d
  body_append first b c d = rows_append first (rows b) c d

  pub body_before : (first : Firsts) (b : BodyTree) (c : List Instr) → body_code scope place first b c ≡ body_code scope place first b [] ++ c
  body_before first b c = body_append first b [] c

  -- a line for each statement
  last_retarget : (first : Firsts) (b : BodyTree) → retarget place (last scope (λ i. i) first b) ≡ last scope place first b
  last_retarget first end_procedure = refl
  last_retarget first (boolean name (Some b)) = refl
  last_retarget first (boolean_array name size (Some bits)) = refl
  last_retarget first (integer name (Some z)) = refl
  last_retarget first (integer_array name size (Some zs)) = refl
  last_retarget first (assign name e) = refl
  last_retarget first (assign_element name index e) = refl
  last_retarget first (assign_array name a) = refl
  last_retarget first (assign_range name high low a) = refl
  last_retarget first (call name) = refl
  last_retarget first (goto name) = refl
  last_retarget first (if_then e b) = refl
  last_retarget first (for_loop name from to step) = refl
  last_retarget first (next name) = refl
  last_retarget first (push e) = refl
  last_retarget first (pop (scalar name)) = refl
  last_retarget first (pop (element name index)) = refl
  last_retarget first (print list) = refl
  last_retarget first (export key (exported_value e)) = refl
  last_retarget first (export key (exported_array a)) = refl
  last_retarget first (exit e) = refl
  last_retarget first (scan register count source target compare) = refl
  last_retarget first (stop register state) = refl
  last_retarget first (pad which count bits) = refl
  last_retarget first (state_list states) = refl
  last_retarget first (wait_cycles state cycles usec end) = refl
  last_retarget first (wait_usec state usec end) = refl
  last_retarget first (frequency hertz) = refl
  last_retarget first _ = refl

  pub row_retarget : (first : Firsts) (b : BodyTree) (c : List Instr) → map (retarget place) (row_code scope (λ i. i) first b c) ≡ row_code scope place first b (map (retarget place) c)
  row_retarget first b c =
      operands_retarget scope.look place (operands scope b) (between scope b (last scope (λ i. i) first b ∷ c))
      ∙ ap (operands_code scope.look (operands scope b)) (between_retarget b (last scope (λ i. i) first b ∷ c))
      ∙ ap (λ i. operands_code scope.look (operands scope b) (between scope b (i ∷ map (retarget place) c))) (last_retarget first b)

  rows_retarget : (first : Firsts) (bs : List BodyTree) (c : List Instr) → map (retarget place) (rows_code scope (λ i. i) first bs c) ≡ rows_code scope place first bs (map (retarget place) c)
  rows_retarget first [] c = refl
  rows_retarget first (b ∷ bs) c =
      row_retarget first b (rows_code scope (λ i. i) (after_row first b) bs c) ∙ ap (row_code scope place first b) (rows_retarget (after_row first b) bs c)

  pub body_retarget : (first : Firsts) (b : BodyTree) (c : List Instr) → map (retarget place) (body_code scope (λ i. i) first b c) ≡ body_code scope place first b (map (retarget place) c)
  body_retarget first b c = rows_retarget first (rows b) c

-- The code of a statement does not ask where procedures begin, and of the numbers of procedures only for those that it
-- calls.
module _ (names : Names) (entry entry' : ℕ → ℕ) (number number' : List ℕ → ℕ) (count : ℕ) (inside : Option (List ℕ)) (i : ℕ) (place : ℕ → ℕ) where
  abbrev One : Scope
  One = scope_of names entry number count inside i

  abbrev Other : Scope
  Other = scope_of names entry' number' count inside i

  -- what a row calls, and a statement, has the same number
  abbrev pub RowAlike : BodyTree → Type 0
  RowAlike (call name) = number name ≡ number' name
  RowAlike _ = Unit {0}

  abbrev pub CallsAlike : BodyTree → Type 0
  CallsAlike (call name) = number name ≡ number' name
  CallsAlike (if_then e b) = CallsAlike b
  CallsAlike _ = Unit {0}

  abbrev RowsAlike : List BodyTree → Type 0
  RowsAlike [] = Unit {0}
  RowsAlike (b ∷ bs) = RowAlike b × RowsAlike bs

  own_alike : (b : BodyTree) → CallsAlike b → RowAlike b
  own_alike (call name) alike = alike
  own_alike _ alike = tt

  rows_alike : (b : BodyTree) (bs : List BodyTree) → IsRows b bs → CallsAlike b → RowsAlike bs
  rows_alike _ _ (no_row b) alike = tt
  rows_alike _ _ (one_row b) alike = (own_alike b alike, tt)
  rows_alike _ _ (more_rows e b bs rows) alike = (tt, rows_alike b bs rows alike)

  -- a line for each statement
  last_same : (first : Firsts) (b : BodyTree) → RowAlike b → last One place first b ≡ last Other place first b
  last_same first (call name) alike = ap Call alike
  last_same first end_procedure alike = refl
  last_same first (boolean name (Some b)) alike = refl
  last_same first (boolean_array name size (Some bits)) alike = refl
  last_same first (integer name (Some z)) alike = refl
  last_same first (integer_array name size (Some zs)) alike = refl
  last_same first (assign name e) alike = refl
  last_same first (assign_element name index e) alike = refl
  last_same first (assign_array name a) alike = refl
  last_same first (assign_range name high low a) alike = refl
  last_same first (goto name) alike = refl
  last_same first (if_then e b) alike = refl
  last_same first (for_loop name from to step) alike = refl
  last_same first (next name) alike = refl
  last_same first (push e) alike = refl
  last_same first (pop (scalar name)) alike = refl
  last_same first (pop (element name index)) alike = refl
  last_same first (print list) alike = refl
  last_same first (export key (exported_value e)) alike = refl
  last_same first (export key (exported_array a)) alike = refl
  last_same first (exit e) alike = refl
  last_same first (scan register count source target compare) alike = refl
  last_same first (stop register state) alike = refl
  last_same first (pad which count bits) alike = refl
  last_same first (state_list states) alike = refl
  last_same first (wait_cycles state cycles usec end) alike = refl
  last_same first (wait_usec state usec end) alike = refl
  last_same first (frequency hertz) alike = refl
  last_same first _ alike = refl

  pub row_same : (first : Firsts) (b : BodyTree) → RowAlike b → (c : List Instr) → row_code One place first b c ≡ row_code Other place first b c
  row_same first b alike c = ap (λ i. operands_code One.look (operands One b) (between One b (i ∷ c))) (last_same first b alike)

  rows_same : (first : Firsts) (bs : List BodyTree) → RowsAlike bs → rows_code One place first bs [] ≡ rows_code Other place first bs []
  rows_same first [] alike = refl
  rows_same first (b ∷ bs) alike =
      row_same first b alike.0 (rows_code One place (after_row first b) bs []) ∙ ap (row_code Other place first b) (rows_same (after_row first b) bs alike.1)

  pub body_same : (first : Firsts) (b : BodyTree) → CallsAlike b → body_code One place first b [] ≡ body_code Other place first b []
  body_same first b alike = rows_same first (rows b) (rows_alike b (rows b) (rows_view b) alike)

module _ (program : Played) (place : ℕ → ℕ) where
  preset_append : (i : ℕ) (preset : Option Preset) (c d : List Instr) → preset_code program place i preset (c ++ d) ≡ preset_code program place i preset c ++ d
  preset_append i None c d = refl
  preset_append i (Some preset) c d = row_append (preset_scope program preset) place (preset_firsts program i) preset.body c d

  presets_append : (i : ℕ) (presets : List (Option Preset)) (c d : List Instr) → presets_code program place i presets (c ++ d) ≡ presets_code program place i presets c ++ d
  presets_append i [] c d = refl
  presets_append i (preset ∷ presets) c d =
      ap (preset_code program place i preset) (presets_append (i + 1) presets c d) ∙ preset_append i preset (presets_code program place (i + 1) presets c) d

  pub presets_before : (i : ℕ) (presets : List (Option Preset)) (c : List Instr) → presets_code program place i presets c ≡ presets_code program place i presets [] ++ c
  presets_before i presets c = presets_append i presets [] c

  pub preset_before : (i : ℕ) (preset : Option Preset) (c : List Instr) → preset_code program place i preset c ≡ preset_code program place i preset [] ++ c
  preset_before i preset c = preset_append i preset [] c

  preset_retarget : (i : ℕ) (preset : Option Preset) (c : List Instr) → map (retarget place) (preset_code program (λ j. j) i preset c) ≡ preset_code program place i preset (map (retarget place) c)
  preset_retarget i None c = refl
  preset_retarget i (Some preset) c = row_retarget (preset_scope program preset) place (preset_firsts program i) preset.body c

  presets_retarget : (i : ℕ) (presets : List (Option Preset)) (c : List Instr) →
      map (retarget place) (presets_code program (λ j. j) i presets c) ≡ presets_code program place i presets (map (retarget place) c)
  presets_retarget i [] c = refl
  presets_retarget i (preset ∷ presets) c =
      preset_retarget i preset (presets_code program (λ j. j) (i + 1) presets c) ∙ ap (preset_code program place i preset) (presets_retarget (i + 1) presets c)

  piece_append_by : (t : Bool) (i : ℕ) (st : StmtTree) (c d : List Instr) →
      cond t (c ++ d) (Turn (i + 1) ∷ body_code (scope_at program i) place (firsts_at program i) st.body (c ++ d)) ≡ cond t c
      (Turn (i + 1) ∷ body_code (scope_at program i) place (firsts_at program i) st.body c) ++ d
  piece_append_by true i st c d = refl
  piece_append_by false i st c d = ap (λ l. Turn (i + 1) ∷ l) (body_append (scope_at program i) place (firsts_at program i) st.body c d)

  pub piece_append : (i : ℕ) (st : StmtTree) (c d : List Instr) → piece_code program place i st (c ++ d) ≡ piece_code program place i st c ++ d
  piece_append i st c d = piece_append_by (is_outer st.body) i st c d

  piece_retarget_by : (t : Bool) (i : ℕ) (st : StmtTree) (c : List Instr) →
      map (retarget place) (cond t c (Turn (i + 1) ∷ body_code (scope_at program i) (λ j. j) (firsts_at program i) st.body c)) ≡ cond t (map (retarget place) c)
      (Turn (i + 1) ∷ body_code (scope_at program i) place (firsts_at program i) st.body (map (retarget place) c))
  piece_retarget_by true i st c = refl
  piece_retarget_by false i st c = ap (λ l. Turn (i + 1) ∷ l) (body_retarget (scope_at program i) place (firsts_at program i) st.body c)

  pub pieces_retarget : (i : ℕ) (sts : List StmtTree) → map (retarget place) (pieces_code program (λ j. j) i sts) ≡ pieces_code program place i sts
  pieces_retarget i [] = refl
  pieces_retarget i (st ∷ rest) =
      piece_retarget_by (is_outer st.body) i st (pieces_code program (λ j. j) (i + 1) rest)
      ∙ ap (piece_code program place i st) (pieces_retarget (i + 1) rest)

  pub code_retarget : map (retarget place) (code_to program (λ j. j)) ≡ code_to program place
  code_retarget =
      presets_retarget 0 program.presets (pieces_code program (λ j. j) 0 program.pieces)
      ∙ ap (presets_code program place 0 program.presets) (pieces_retarget 0 program.pieces)

  -- the code of all pieces ends with that of the last ones
  pub pieces_split : (n i : ℕ) (sts : List StmtTree) → (before : List Instr) × (pieces_code program place i sts ≡ before ++ pieces_code program place (i + n) (drop n sts))
  pieces_split zero i sts = ([], ap (λ j. pieces_code program place j sts) (omega arith))
  pieces_split (suc n) i [] = ([], refl)
  pieces_split (suc n) i (st ∷ rest) =
      let r = pieces_split n (i + 1) rest in
      let e : i + 1 + n ≡ i + suc n = omega arith in
      (piece_code program place i st r.0, ap (piece_code program place i st) r.1 ∙ piece_append i st r.0 _ ∙ ap (λ j. piece_code program place i st r.0 ++ pieces_code program place j (drop n rest)) e)

  pub code_split : (i : ℕ) → (before : List Instr) × (code_to program place ≡ before ++ pieces_code program place i (drop i program.pieces))
  code_split i =
      let r = pieces_split i 0 program.pieces in
      let prologue : List Instr = presets_code program place 0 program.presets [] in
      let e : 0 + i ≡ i = omega arith in (
        prologue ++ r.0,
        presets_before 0 program.presets (pieces_code program place 0 program.pieces)
            ∙ ap (λ c. prologue ++ c) (r.1 ∙ ap (λ j. r.0 ++ pieces_code program place j (drop i program.pieces)) e)
            ∙ sym (append_assoc prologue r.0 (pieces_code program place i (drop i program.pieces))),
      )

  -- the code of pieces and then of others
  pub pieces_append : (i : ℕ) (a b : List StmtTree) → pieces_code program place i (a ++ b) ≡ pieces_code program place i a ++ pieces_code program place (i + length a) b
  pieces_append i [] b = ap (λ j. pieces_code program place j b) (omega arith)
  pieces_append i (st ∷ rest) b =
      let next : i + 1 + length rest ≡ i + suc (length rest) = omega arith in
      ap (piece_code program place i st) (pieces_append (i + 1) rest b ∙ ap (λ j. pieces_code program place (i + 1) rest ++ pieces_code program place j b) next)
      ∙ piece_append i st (pieces_code program place (i + 1) rest) (pieces_code program place (i + suc (length rest)) b)
