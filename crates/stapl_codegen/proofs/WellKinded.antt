-- The code of operands that have their kinds finds its operands and stands well.
use Rattle.std.proofs.Common.{◌≡◌, ℕ, zero, suc, ◌+◌, Bool, true, false, List, [], ◌∷◌, Some, None, refl, arith, sym, ap, subst, ◌∙◌}
use Rattle.std.specs.Prelude.{ℤ, pos, negsuc, int_le, ◌&&◌, ◌==◌, ◌++◌, Option, None, is_some, take, if◌then◌else◌, slice_get}
use Rattle.std.specs.Option.{option_map}
use Rattle.bit_list.specs.Integers.{int_of}
use Rattle.std.specs.List.{list_all}
use Rattle.std.proofs.lemmas.Bool.{and_parts, eq-eqb, leb-true}
use Rattle.stapl_syntax.specs.Kinds.{expr_kind, is_array, is_bit_array, is_integer, part_suits, is_int, is_bit, scalar_kind, number_kind}
use Rattle.stapl_syntax.specs.declared.names.VarKind.{VarKind}
use Rattle.stapl_syntax.specs.declared.names.VarKind.TheVariants as declared
use Rattle.stapl_syntax.specs.declared.names.Kind.{Kind}
use Rattle.stapl_syntax.specs.declared.names.Kind.TheVariants.{Int, Bool as Bit, Either}
use Rattle.stapl_syntax.specs.Trees.{ExprTree, number, scalar, element, unary, binary, abs, int, ArrayTree, literal, whole, range, of_int, PartTree, string, value, character, BodyTree, pop}
use Rattle.stapl_meaning.specs.declared.values.ValueKind.{ValueKind}
use Rattle.stapl_meaning.specs.declared.values.ValueKind.TheVariants as kinds
use Rattle.stapl_meaning.specs.Values.{Lookup, unary_side, sides}
use Rattle.stapl_meaning.specs.Operands.{Test, Plain, Character, Index, Range, Operand, plain, a_range, array_operands, printed_kind, part_operands}
use Rattle.stapl_meaning.specs.Scopes.{Scope}
use Rattle.stapl_meaning.specs.Turns.{operands}
use Rattle.stapl_code.specs.declared.instr.Instr.{Instr}
use Rattle.stapl_code.specs.declared.instr.Instr.TheVariants.{Push, PushBit, Load, LoadAt, CheckIndex, CheckRange, Unary, Binary, ToInt, PopRecord, CheckChar}
use Rattle.stapl_code.specs.declared.instr.Source.TheVariants as sources
use Rattle.stapl_code.specs.declared.instr.PrintPart.{PrintPart}
use Rattle.stapl_code.specs.declared.raw.VarDef.{VarDef}
use Rattle.stapl_code.specs.Machine.{AnInteger, ABoolean, AnArray, OfBits, OfInts, part_slots}
use Rattle.stapl_code.specs.Kinds.{then_kinds, put_on, taken_off, variable_kind, is_met, all_off, kinds_after}
use Rattle.stapl_code.specs.Kinds as code
use Rattle.stapl_code.specs.Valid.{is_last, stands_well, departs, judged, rest_break}
use Rattle.stapl_codegen.specs.Emit.{literal_code, expr_code, int_code, test_code, operands_code, shown_part, print_parts, operator_number, sign_number, absolute_number, Firsts, last, between, after_row, row_code, rows_code}
use Rattle.stapl_codegen.specs.Generated.{kind_number}
use Rattle.stapl_codegen.proofs.Sides.{fits, held_kind, scalar_fits, item_kind, element_fits, indexed_fits, unary_fits, integer_fits, unary_after, operates}

-- ---- nothing of it is the last instruction

module _ (look : Lookup) where
  literal_last : (kind : ValueKind) (z : ℤ) (rest : List Instr) → is_last (literal_code kind z ∷ rest) ≡ false
  literal_last kinds.Int z rest = refl
  literal_last kinds.Bit (pos zero) rest = refl
  literal_last kinds.Bit (pos (suc zero)) rest = refl
  literal_last kinds.Bit (pos (suc (suc n))) rest = refl
  literal_last kinds.Bit (negsuc n) rest = refl

  mutual
    expr_last : (kind : ValueKind) (e : ExprTree) (rest : List Instr) → is_last (expr_code look kind e rest) ≡ false
    expr_last kind (number z) rest = refl
    expr_last kind (scalar name) rest = refl
    expr_last kind (element name index) rest = expr_last kinds.Int index (LoadAt (look.variable name) ∷ rest)
    expr_last kind (unary op e) rest = expr_last (unary_side op) e (Unary (sign_number op) ∷ rest)
    expr_last kind (binary op a b) rest =
        expr_last (sides look op a b) a (expr_code look (sides look op a b) b (Binary (operator_number op (sides look op a b)) ∷ rest))
    expr_last kind (abs e) rest = expr_last kinds.Int e (Unary absolute_number ∷ rest)
    expr_last kind (int a) rest = int_last a rest

    int_last : (a : ArrayTree) (rest : List Instr) → is_last (int_code look a rest) ≡ false
    int_last (literal bits) rest = refl
    int_last (whole name) rest = refl
    int_last (range name a b) rest =
        expr_last kinds.Int a (expr_code look kinds.Int b (ToInt (sources.Range (look.variable name)) ∷ rest))
    int_last (of_int e) rest = expr_last kinds.Int e (ToInt sources.FromInt ∷ rest)

  test_last : (t : Test) (rest : List Instr) → is_last rest ≡ false → is_last (test_code t rest) ≡ false
  test_last Plain rest some = some
  test_last Character rest some = refl
  test_last (Index n) rest some = refl
  test_last (Range n) rest some = refl

  operands_last : (os : List Operand) (rest : List Instr) → is_last rest ≡ false → is_last (operands_code look os rest) ≡ false
  operands_last [] rest some = some
  operands_last (o ∷ os) rest some = expr_last o.kind o.expr (test_code o.test (operands_code look os rest))

-- what stands between operands and the last instruction is not the last one, either
between_last : (scope : Scope) (b : BodyTree) (x : Instr) (rest : List Instr) → is_last (between scope b (x ∷ rest)) ≡ false
between_last scope (pop (scalar name)) x rest = refl
between_last scope (pop (element name index)) x rest = refl
between_last scope _ x rest = refl

pub rows_last : (scope : Scope) (place : ℕ → ℕ) (first : Firsts) (bs : List BodyTree) (rest : List Instr) → is_last rest ≡ false → is_last (rows_code scope place first bs rest) ≡ false
rows_last scope place first [] rest some = some
rows_last scope place first (b ∷ bs) rest some =
    let more : List Instr = rows_code scope place (after_row first b) bs rest in
    operands_last scope.look (operands scope b) (between scope b (last scope place first b ∷ more)) (between_last scope b (last scope place first b) more)

-- ---- typed operands

-- The test of an operand of a kind finds what it looks at, where the operands before it have these kinds.
abbrev pub TestFits : List VarDef → List ValueKind → ValueKind → Test → Type 0
TestFits variables ks kind Plain = Unit {0}
TestFits variables ks kind Character = kind ≡ kinds.Int
TestFits variables ks kind (Index n) = (kind ≡ kinds.Int) × (is_met variables (AnArray n) ≡ true)
TestFits variables [] kind (Range n) = ⊥
TestFits variables (k ∷ ks) kind (Range n) = (kind ≡ kinds.Int) × (k ≡ kinds.Int) × (is_met variables (OfBits n) ≡ true)

module _ (variables : List VarDef) (look : Lookup) where
  -- an operand has the kind that is wanted of it, and passes its test
  pub record IsTypedOperand (ks : List ValueKind) (o : Operand) : Type 0 where
    pub fits : fits o.kind (expr_kind look.kind o.expr) ≡ true
    pub test : TestFits variables ks o.kind o.test

  abbrev pub AllTyped : List ValueKind → List Operand → Type 0
  AllTyped ks [] = Unit {0}
  AllTyped ks (o ∷ os) = IsTypedOperand ks o × AllTyped (o.kind ∷ ks) os

  pub one_typed : (ks : List ValueKind) (kind : ValueKind) (e : ExprTree) → fits kind (expr_kind look.kind e) ≡ true → AllTyped ks (plain kind e ∷ [])
  one_typed ks kind e h = (record { fits = h; test = tt }, tt)

  -- what has a kind fits that by which it is printed
  pub printed_fits : (k : Option Kind) → is_some k ≡ true → fits (printed_kind k) k ≡ true
  printed_fits (Some Int) h = refl
  printed_fits (Some Bit) h = refl
  printed_fits (Some Either) h = refl
  printed_fits None h = absurd cc

  pub parts_typed : (ks : List ValueKind) (list : List PartTree) → list_all (part_suits look.kind) list ≡ true → AllTyped ks (part_operands look list)
  parts_typed ks [] suit = tt
  parts_typed ks (string bytes ∷ list) suit = parts_typed ks list suit
  parts_typed ks (value e ∷ list) suit =
      let s = and_parts (is_some (expr_kind look.kind e)) (list_all (part_suits look.kind) list) suit in
      (record { fits = printed_fits (expr_kind look.kind e) s.0; test = tt }, parts_typed (printed_kind (expr_kind look.kind e) ∷ ks) list s.1)
  parts_typed ks (character e ∷ list) suit =
      let s = and_parts (is_int (expr_kind look.kind e)) (list_all (part_suits look.kind) list) suit in
      (record { fits = s.0; test = refl }, parts_typed (kinds.Int ∷ ks) list s.1)

-- kinds put on these, the last one on top
abbrev pub kinds_onto : List Operand → List ValueKind → List ValueKind
kinds_onto [] ks = ks
kinds_onto (o ∷ os) ks = kinds_onto os (o.kind ∷ ks)

-- the parts of a PRINT take off the kinds that its operands put on
module _ (variables : List VarDef) (look : Lookup) where
  shown_off : (kind : ValueKind) (rest : List PrintPart) (ks after : List ValueKind) → all_off variables (part_slots rest) after ≡ Some (kind ∷ ks) →
      all_off variables (part_slots (shown_part kind ∷ rest)) after ≡ Some ks
  shown_off kinds.Int rest ks after e = ap (λ o. then_kinds o (taken_off (Some kinds.Int))) e
  shown_off kinds.Bit rest ks after e = ap (λ o. then_kinds o (taken_off (Some kinds.Bit))) e

  pub parts_off : (list : List PartTree) (n : ℕ) (ks : List ValueKind) →
      all_off variables (part_slots (print_parts look n list)) (kinds_onto (part_operands look list) ks) ≡ Some ks
  parts_off [] n ks = refl
  parts_off (string bytes ∷ list) n ks = parts_off list (suc n) ks
  parts_off (value e ∷ list) n ks =
      let kind : ValueKind = printed_kind (expr_kind look.kind e) in
      shown_off kind (print_parts look n list) ks (kinds_onto (part_operands look list) (kind ∷ ks)) (parts_off list n (kind ∷ ks))
  parts_off (character e ∷ list) n ks = ap (λ o. then_kinds o (taken_off (Some kinds.Int))) (parts_off list n (kinds.Int ∷ ks))

-- each variable that a name stands for has its kind among the variables of the code
abbrev pub Agrees : List VarDef → Lookup → Type 0
Agrees variables look =
    (name : List ℕ) (kind : VarKind) → look.kind name ≡ Some kind →
    option_map (λ v. v.kind) (slice_get variables (look.variable name)) ≡ Some (kind_number kind)

-- what is told by the number of a variable's kind
module _ (o : Option VarDef) (n : ℕ) (is : option_map (λ v. v.kind) o ≡ Some n) where
  scalar_of_kind : variable_kind o ≡ code.scalar_kind n
  scalar_of_kind = by o is
    where
      by : (o : Option VarDef) → option_map (λ v. v.kind) o ≡ Some n → variable_kind o ≡ code.scalar_kind n
      by None e = absurd cc
      by (Some v) e = let same : v.kind ≡ n = cc in ap code.scalar_kind same

  item_of_kind : code.element_kind o ≡ code.item_kind n
  item_of_kind = by o is
    where
      by : (o : Option VarDef) → option_map (λ v. v.kind) o ≡ Some n → code.element_kind o ≡ code.item_kind n
      by None e = absurd cc
      by (Some v) e = let same : v.kind ≡ n = cc in ap code.item_kind same

  kind_is : code.is_of_kind n o ≡ true
  kind_is = by o is
    where
      by : (o : Option VarDef) → option_map (λ v. v.kind) o ≡ Some n → code.is_of_kind n o ≡ true
      by None e = absurd cc
      by (Some v) e = let same : v.kind ≡ n = cc in ap (λ k. k == n) same ∙ eq-eqb n n refl

module _ (variables : List VarDef) (look : Lookup) (agrees : Agrees variables look) where
  abbrev Def : List ℕ → Option VarDef
  Def name = slice_get variables (look.variable name)

  -- a scalar, by the kind of what it holds
  pub scalar_agrees : (name : List ℕ) (kind : ValueKind) → held_kind (look.kind name) ≡ Some kind → variable_kind (Def name) ≡ Some kind
  scalar_agrees name kind h = by (look.kind name) refl h
    where
      by : (v : Option VarKind) → look.kind name ≡ v → held_kind v ≡ Some kind → variable_kind (Def name) ≡ Some kind
      by (Some declared.Integer) e h = scalar_of_kind (Def name) 0 (agrees name declared.Integer e) ∙ h
      by (Some declared.Boolean) e h = scalar_of_kind (Def name) 1 (agrees name declared.Boolean e) ∙ h
      by (Some declared.IntegerArray) e h = absurd cc
      by (Some declared.BooleanArray) e h = absurd cc
      by None e h = absurd cc

  -- an array, by the kind of its elements
  pub element_agrees : (name : List ℕ) (kind : ValueKind) → item_kind (look.kind name) ≡ Some kind → code.element_kind (Def name) ≡ Some kind
  element_agrees name kind h = by (look.kind name) refl h
    where
      by : (v : Option VarKind) → look.kind name ≡ v → item_kind v ≡ Some kind → code.element_kind (Def name) ≡ Some kind
      by (Some declared.IntegerArray) e h = item_of_kind (Def name) 2 (agrees name declared.IntegerArray e) ∙ h
      by (Some declared.BooleanArray) e h = item_of_kind (Def name) 3 (agrees name declared.BooleanArray e) ∙ h
      by (Some declared.Integer) e h = absurd cc
      by (Some declared.Boolean) e h = absurd cc
      by None e h = absurd cc

  pub bits_agree : (name : List ℕ) → is_bit_array (look.kind name) ≡ true → is_met variables (OfBits (look.variable name)) ≡ true
  bits_agree name h = by (look.kind name) refl h
    where
      by : (v : Option VarKind) → look.kind name ≡ v → is_bit_array v ≡ true → code.is_of_kind 3 (Def name) ≡ true
      by (Some declared.BooleanArray) e h = kind_is (Def name) 3 (agrees name declared.BooleanArray e)
      by (Some declared.IntegerArray) e h = absurd cc
      by (Some declared.Integer) e h = absurd cc
      by (Some declared.Boolean) e h = absurd cc
      by None e h = absurd cc

  pub integer_agrees : (name : List ℕ) → is_integer (look.kind name) ≡ true → is_met variables (AnInteger (look.variable name)) ≡ true
  integer_agrees name h = by (look.kind name) refl h
    where
      by : (v : Option VarKind) → look.kind name ≡ v → is_integer v ≡ true → code.is_of_kind 0 (Def name) ≡ true
      by (Some declared.Integer) e h = kind_is (Def name) 0 (agrees name declared.Integer e)
      by (Some declared.IntegerArray) e h = absurd cc
      by (Some declared.Boolean) e h = absurd cc
      by (Some declared.BooleanArray) e h = absurd cc
      by None e h = absurd cc

  pub boolean_agrees : (name : List ℕ) → is_bit (scalar_kind (look.kind name)) ≡ true → is_met variables (ABoolean (look.variable name)) ≡ true
  boolean_agrees name h = by (look.kind name) refl h
    where
      by : (v : Option VarKind) → look.kind name ≡ v → is_bit (scalar_kind v) ≡ true → code.is_of_kind 1 (Def name) ≡ true
      by (Some declared.Boolean) e h = kind_is (Def name) 1 (agrees name declared.Boolean e)
      by (Some declared.Integer) e h = absurd cc
      by (Some declared.IntegerArray) e h = absurd cc
      by (Some declared.BooleanArray) e h = absurd cc
      by None e h = absurd cc

  pub integers_agree : (name : List ℕ) → look.kind name ≡ Some declared.IntegerArray → is_met variables (OfInts (look.variable name)) ≡ true
  integers_agree name e = kind_is (Def name) 2 (agrees name declared.IntegerArray e)

  -- the indexes of a range, and the operands of an array
  pub range_typed : (ks : List ValueKind) (name : List ℕ) (high low : ExprTree) (os : List Operand) → is_bit_array (look.kind name) ≡ true →
      is_int (expr_kind look.kind high) ≡ true → is_int (expr_kind look.kind low) ≡ true →
      AllTyped variables look (kinds.Int ∷ kinds.Int ∷ ks) os → AllTyped variables look ks (a_range (look.variable name) high low ++ os)
  range_typed ks name high low os array h l more =
      (record { fits = h; test = tt }, (record { fits = l; test = (refl, refl, bits_agree name array) }, more))

  pub array_typed : (ks : List ValueKind) (a : ArrayTree) → is_array look.kind a ≡ true → AllTyped variables look ks (array_operands look a)
  array_typed ks (literal bits) h = tt
  array_typed ks (whole name) h = tt
  array_typed ks (range name high low) h =
      let t = and_parts (is_bit_array (look.kind name) && is_int (expr_kind look.kind high)) (is_int (expr_kind look.kind low)) h in
      let u = and_parts (is_bit_array (look.kind name)) (is_int (expr_kind look.kind high)) t.0 in
      range_typed ks name high low [] u.0 u.1 t.1 tt
  array_typed ks (of_int e) h = one_typed variables look ks kinds.Int e h

-- a number above 1 is no bit
pub no_bit : (n : ℕ) → is_bit (Some (number_kind (pos (suc (suc n))))) ≡ true → ⊥
no_bit n h = by (int_le (pos 0) (pos (suc (suc n)))) (int_le (pos (suc (suc n))) (pos 1)) refl h
  where
    by : (a b : Bool) → int_le (pos (suc (suc n))) (pos 1) ≡ b → is_bit (Some (if a && b then Either else Int)) ≡ true → ⊥
    by true true e h = let above = leb-true (suc (suc n)) 1 e in omega (arith, above)
    by true false e h = absurd cc
    by false b e h = absurd cc

-- a procedure of a code, with the number of its first instruction
module _ (variables : List VarDef) (entry : ℕ) (code : List Instr) where
  -- these instructions break no rule, where the operands have these kinds
  abbrev pub Fine : Bool → List ValueKind → List Instr → Type 0
  Fine must ks rest = (i : ℕ) → rest_break variables entry code i must ks rest ≡ None

  pub fine_step : (must : Bool) (x : Instr) (ks after : List ValueKind) (rest : List Instr) → kinds_after variables x ks ≡ Some after →
      stands_well entry code must x (is_last rest) ≡ true → Fine (departs x) after rest → Fine must ks (x ∷ rest)
  fine_step must x ks after rest finds stands more i =
      ap (λ o. judged o (stands_well entry code must x (is_last rest)) i (λ ks. rest_break variables entry code (i + 1) (departs x) ks rest)) finds
      ∙ ap (λ b. judged (Some after) b i (λ ks. rest_break variables entry code (i + 1) (departs x) ks rest)) stands
      ∙ more (i + 1)

  -- an instruction of an expression, which is not the last one
  fine_put : (x : Instr) (ks after : List ValueKind) (rest : List Instr) → kinds_after variables x ks ≡ Some after →
      stands_well entry code false x false ≡ true → departs x ≡ false → is_last rest ≡ false → Fine false after rest → Fine false ks (x ∷ rest)
  fine_put x ks after rest finds stands stays some more =
      fine_step false x ks after rest finds (ap (stands_well entry code false x) some ∙ stands) (subst (λ d. Fine d after rest) (sym stays) more)

  literal_fine : (kind : ValueKind) (z : ℤ) (ks : List ValueKind) (rest : List Instr) → fits kind (expr_kind (λ name. None) (number z)) ≡ true → is_last rest ≡ false →
      Fine false (kind ∷ ks) rest → Fine false ks (literal_code kind z ∷ rest)
  literal_fine kinds.Int z ks rest h some more = fine_put (Push z) ks (kinds.Int ∷ ks) rest refl refl refl some more
  literal_fine kinds.Bit (pos zero) ks rest h some more = fine_put (PushBit 0) ks (kinds.Bit ∷ ks) rest refl refl refl some more
  literal_fine kinds.Bit (pos (suc zero)) ks rest h some more = fine_put (PushBit 1) ks (kinds.Bit ∷ ks) rest refl refl refl some more
  literal_fine kinds.Bit (pos (suc (suc n))) ks rest h some more = absurd (no_bit n h)
  literal_fine kinds.Bit (negsuc n) ks rest h some more = absurd cc

  module _ (look : Lookup) (agrees : Agrees variables look) where
    mutual
      pub expr_fine : (kind : ValueKind) (e : ExprTree) (ks : List ValueKind) (rest : List Instr) → fits kind (expr_kind look.kind e) ≡ true →
          is_last rest ≡ false → Fine false (kind ∷ ks) rest → Fine false ks (expr_code look kind e rest)
      expr_fine kind (number z) ks rest h some more = literal_fine kind z ks rest h some more
      expr_fine kind (scalar name) ks rest h some more =
          let found = scalar_agrees variables look agrees name kind (scalar_fits kind (look.kind name) h) in
          fine_put (Load (look.variable name)) ks (kind ∷ ks) rest (ap (λ k. then_kinds (put_on k ks) Some) found) refl refl some more
      expr_fine kind (unary op e) ks rest h some more =
          let t = unary_fits op kind (expr_kind look.kind e) h in
          let beyond : List Instr = Unary (sign_number op) ∷ rest in
          expr_fine (unary_side op) e ks beyond t.0 refl
          (fine_put (Unary (sign_number op)) (unary_side op ∷ ks) (unary_side op ∷ ks) rest (unary_after variables op ks) refl refl some
          (subst (λ k. Fine false (k ∷ ks) rest) (sym t.1) more))
      expr_fine kind (binary op a b) ks rest h some more =
          let s : ValueKind = sides look op a b in
          let t = operates variables op kind (expr_kind look.kind a) (expr_kind look.kind b) h in
          let beyond : List Instr = Binary (operator_number op s) ∷ rest in
          expr_fine s a ks (expr_code look s b beyond) t.both.0 (expr_last look s b beyond)
          (expr_fine s b (s ∷ ks) beyond t.both.1 refl
          (fine_put (Binary (operator_number op s)) (s ∷ s ∷ ks) (kind ∷ ks) rest (t.after ks) refl refl some more))
      expr_fine kind (abs e) ks rest h some more =
          let t = integer_fits kind (is_int (expr_kind look.kind e)) h in
          let beyond : List Instr = Unary absolute_number ∷ rest in
          expr_fine kinds.Int e ks beyond t.0 refl
          (fine_put (Unary absolute_number) (kinds.Int ∷ ks) (kinds.Int ∷ ks) rest refl refl refl some
          (subst (λ k. Fine false (k ∷ ks) rest) (sym t.1) more))
      expr_fine kind (element name index) ks rest h some more =
          let t = indexed_fits kind (expr_kind look.kind index) (look.kind name) h in
          let found = element_agrees variables look agrees name kind (element_fits kind (look.kind name) t.1) in
          let read : Instr = LoadAt (look.variable name) in
          expr_fine kinds.Int index ks (read ∷ rest) t.0 refl
          (fine_put read (kinds.Int ∷ ks) (kind ∷ ks) rest (ap (λ k. then_kinds (put_on k ks) Some) found) refl refl some more)
      expr_fine kind (int a) ks rest h some more =
          let t = integer_fits kind (is_array look.kind a) h in
          int_fine a ks rest t.0 some (subst (λ k. Fine false (k ∷ ks) rest) (sym t.1) more)

      int_fine : (a : ArrayTree) (ks : List ValueKind) (rest : List Instr) → is_array look.kind a ≡ true → is_last rest ≡ false →
          Fine false (kinds.Int ∷ ks) rest → Fine false ks (int_code look a rest)
      int_fine (literal bits) ks rest h some more = fine_put (Push (int_of (take 32 bits))) ks (kinds.Int ∷ ks) rest refl refl refl some more
      int_fine (whole name) ks rest h some more =
          let n : ℕ = look.variable name in
          let met = bits_agree variables look agrees name h in
          fine_put (ToInt (sources.Whole n)) ks (kinds.Int ∷ ks) rest (ap (λ b. if b && true then Some (kinds.Int ∷ ks) else None) met) refl refl some more
      int_fine (range name a b) ks rest h some more =
          let n : ℕ = look.variable name in
          let t = and_parts (is_bit_array (look.kind name) && is_int (expr_kind look.kind a)) (is_int (expr_kind look.kind b)) h in
          let u = and_parts (is_bit_array (look.kind name)) (is_int (expr_kind look.kind a)) t.0 in
          let met = bits_agree variables look agrees name u.0 in
          let read : List Instr = ToInt (sources.Range n) ∷ rest in
          expr_fine kinds.Int a ks (expr_code look kinds.Int b read) u.1 (expr_last look kinds.Int b read)
          (expr_fine kinds.Int b (kinds.Int ∷ ks) read t.1 refl
          (fine_put (ToInt (sources.Range n)) (kinds.Int ∷ kinds.Int ∷ ks) (kinds.Int ∷ ks) rest (ap (λ b. if b && true then Some (kinds.Int ∷ ks) else None) met) refl refl some more))
      int_fine (of_int e) ks rest h some more =
          expr_fine kinds.Int e ks (ToInt sources.FromInt ∷ rest) h refl
          (fine_put (ToInt sources.FromInt) (kinds.Int ∷ ks) (kinds.Int ∷ ks) rest refl refl refl some more)

    test_fine : (kind : ValueKind) (t : Test) (ks : List ValueKind) (rest : List Instr) → TestFits variables ks kind t → is_last rest ≡ false →
        Fine false (kind ∷ ks) rest → Fine false (kind ∷ ks) (test_code t rest)
    test_fine kind Plain ks rest fits some more = more
    test_fine kind Character ks rest fits some more =
        fine_step false CheckChar (kind ∷ ks) (kind ∷ ks) rest
        (ap (λ k. kinds_after variables CheckChar (k ∷ ks)) fits ∙ ap (λ k. Some (k ∷ ks)) (sym fits)) (ap (stands_well entry code false CheckChar) some) more
    test_fine kind (Index n) ks rest fits some more =
        fine_step false (CheckIndex n) (kind ∷ ks) (kind ∷ ks) rest
        (ap (λ k. kinds_after variables (CheckIndex n) (k ∷ ks)) fits.0 ∙ ap (λ b. if b && true then Some (kinds.Int ∷ ks) else None) fits.1 ∙ ap (λ k. Some (k ∷ ks)) (sym fits.0))
        (ap (stands_well entry code false (CheckIndex n)) some) more
    test_fine kind (Range n) [] rest fits some more = absurd fits
    test_fine kind (Range n) (k ∷ ks) rest fits some more =
        fine_step false (CheckRange n) (kind ∷ k ∷ ks) (kind ∷ k ∷ ks) rest
        (ap (λ x. kinds_after variables (CheckRange n) (x ∷ k ∷ ks)) fits.0
        ∙ ap (λ x. kinds_after variables (CheckRange n) (kinds.Int ∷ x ∷ ks)) fits.1
        ∙ ap (λ b. if b && true then Some (kinds.Int ∷ kinds.Int ∷ ks) else None) fits.2
        ∙ ap (λ x. Some (kinds.Int ∷ x ∷ ks)) (sym fits.1)
        ∙ ap (λ x. Some (x ∷ k ∷ ks)) (sym fits.0))
        (ap (stands_well entry code false (CheckRange n)) some) more

    pub operands_fine : (os : List Operand) (ks : List ValueKind) (rest : List Instr) → AllTyped variables look ks os → is_last rest ≡ false →
        Fine false (kinds_onto os ks) rest → Fine false ks (operands_code look os rest)
    operands_fine [] ks rest typed some more = more
    operands_fine (o ∷ os) ks rest typed some more =
        let beyond : List Instr = operands_code look os rest in
        expr_fine o.kind o.expr ks (test_code o.test beyond) typed.0.fits (test_last look o.test beyond (operands_last look os rest some))
        (test_fine o.kind o.test ks beyond typed.0.test (operands_last look os rest some) (operands_fine os (o.kind ∷ ks) rest typed.1 some more))

  -- what stands after a statement that is not the last: more instructions, which a statement may also jump over
  pub record Follows (rest : List Instr) : Type 0 where
    pub some : is_last rest ≡ false
    pub fine : (must : Bool) → Fine must [] rest

  -- What a row has to have: its operands are typed, and its last instruction finds them and stands well.
  pub record IsGood (scope : Scope) (place : ℕ → ℕ) (first : Firsts) (b : BodyTree) : Type 0 where
    pub typed : AllTyped variables scope.look [] (operands scope b)
    pub finds : kinds_after variables (last scope place first b) (kinds_onto (operands scope b) []) ≡ Some []
    pub stands : stands_well entry code false (last scope place first b) false ≡ true

  pub row_fine : (scope : Scope) (place : ℕ → ℕ) (first : Firsts) (b : BodyTree) (rest : List Instr) → Agrees variables scope.look →
      ((l : List Instr) → between scope b l ≡ l) → IsGood scope place first b →
      is_last rest ≡ false → Fine (departs (last scope place first b)) [] rest → Fine false [] (row_code scope place first b rest)
  row_fine scope place first b rest agrees alone good some more =
      let own : List Instr = last scope place first b ∷ rest in
      operands_fine scope.look agrees (operands scope b) [] (between scope b own) good.typed (between_last scope b (last scope place first b) rest)
      (subst (Fine false (kinds_onto (operands scope b) [])) (sym (alone own))
      (fine_step false (last scope place first b) (kinds_onto (operands scope b) []) [] rest good.finds (ap (stands_well entry code false (last scope place first b)) some ∙ good.stands) more))

  -- a POP, whose last instruction finds the value of a record above the operands
  pub pop_fine : (scope : Scope) (place : ℕ → ℕ) (first : Firsts) (cell : ExprTree) (kind : ValueKind) (rest : List Instr) → Agrees variables scope.look →
      ((l : List Instr) → between scope (pop cell) l ≡ PopRecord kind ∷ l) → AllTyped variables scope.look [] (operands scope (pop cell)) →
      kinds_after variables (last scope place first (pop cell)) (kind ∷ kinds_onto (operands scope (pop cell)) []) ≡ Some [] →
      stands_well entry code false (last scope place first (pop cell)) false ≡ true → is_last rest ≡ false → Fine (departs (last scope place first (pop cell))) [] rest →
      Fine false [] (row_code scope place first (pop cell) rest)
  pop_fine scope place first cell kind rest agrees taken typed finds stands some more =
      let x : Instr = last scope place first (pop cell) in
      let own : List Instr = x ∷ rest in
      let ks : List ValueKind = kinds_onto (operands scope (pop cell)) [] in
      operands_fine scope.look agrees (operands scope (pop cell)) [] (between scope (pop cell) own) typed (between_last scope (pop cell) x rest)
      (subst (Fine false ks) (sym (taken own))
      (fine_put (PopRecord kind) ks (kind ∷ ks) own refl refl refl refl
      (fine_step false x (kind ∷ ks) [] rest finds (ap (stands_well entry code false x) some ∙ stands) more)))
