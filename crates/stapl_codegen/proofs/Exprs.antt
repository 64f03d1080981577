-- The code of an expression leaves its value, and that of operands leaves theirs.
use Rattle.std.proofs.Common.{◌≡◌, ℕ, zero, suc, List, [], ◌∷◌, length, Option, Some, None, refl, ap, ◌∙◌}
use Rattle.std.specs.Prelude.{ℤ, pos, negsuc, Bool, slice_get}
use Rattle.stapl_lexer.specs.declared.terminal.BinOp.{BinOp}
use Rattle.stapl_lexer.specs.declared.terminal.BinOp.TheVariants as operators
use Rattle.stapl_syntax.specs.declared.signs.UnOp.{UnOp}
use Rattle.stapl_syntax.specs.declared.signs.UnOp.TheVariants as signs
use Rattle.stapl_syntax.specs.Trees.{ExprTree, number, scalar, element, unary, binary, abs, int, ArrayTree, literal as bit_literal, whole, range, of_int}
use Rattle.stapl_meaning.specs.declared.values.ValueKind.{ValueKind}
use Rattle.stapl_meaning.specs.declared.values.ValueKind.TheVariants as kinds
use Rattle.stapl_meaning.specs.declared.values.Value.{Value}
use Rattle.stapl_meaning.specs.declared.values.Held.{Held}
use Rattle.stapl_meaning.specs.Values.{Got, Known, Faults, Stuck, then_get, combined, signed, absolute, scalar_of, element_of, index_held, bits_held, range_held, of_programs, Span, span_of}
use Rattle.stapl_meaning.specs.Values.{Whole, Range, OfInt, source_integer, literal, unary_side, Lookup, sides, source_of, value_of, source_values}
use Rattle.stapl_meaning.specs.Operands.{Test, Plain, Character, Operand, character_of, tested, operand_value, values_after, values_of}
use Rattle.stapl_meaning.specs.Operands as tests
use Rattle.stapl_meaning.specs.Deeds.{Chain}
use Rattle.stapl_meaning.specs.States.{State, Happened, Broke, Lacks}
use Rattle.stapl_code.specs.declared.instr.Instr.{Instr}
use Rattle.stapl_code.specs.declared.instr.Instr.TheVariants.{LoadAt, Unary, Binary, ToInt}
use Rattle.stapl_code.specs.declared.instr.Source.TheVariants as sources
use Rattle.stapl_code.specs.Machine.{Constants, PutsTwo, puts, kept, on_made, continues, stretch}
use Rattle.stapl_codegen.specs.Emit.{program_constants, operator_number, sign_number, absolute_number, literal_code, test_code, expr_code, int_code, operands_code}
use Rattle.stapl_code.proofs.Heads.{head_of}
use Rattle.stapl_code.proofs.PutOn.{onto}

-- goes on on a chain with what was asked for; a fault leaves the state and the chain as they are
abbrev pub got_on : {A : Type 0} → Got A → State → Chain → (A → Happened) → Happened
got_on (Known x) s chain go = go x
got_on (Faults f) s chain go = Broke [] f s chain
got_on Stuck s chain go = Lacks []

with_same : {A : Type 0} (g : Got A) (s : State) (chain : Chain) (k l : A → Happened) → ((x : A) → k x ≡ l x) → got_on g s chain k ≡ got_on g s chain l
with_same (Known x) s chain k l e = e x
with_same (Faults f) s chain k l e = refl
with_same Stuck s chain k l e = refl

pub with_known : {A : Type 0} (g : Got A) (s : State) (chain : Chain) (k l : A → Happened) → ((x : A) → g ≡ Known x → k x ≡ l x) → got_on g s chain k ≡ got_on g s chain l
with_known (Known x) s chain k l e = e x refl
with_known (Faults f) s chain k l e = refl
with_known Stuck s chain k l e = refl

with_then : {A B : Type 0} (g : Got A) (h : A → Got B) (s : State) (chain : Chain) (k : B → Happened) → got_on g s chain (λ x. got_on (h x) s chain k) ≡ got_on (then_get g h) s chain k
with_then (Known x) h s chain k = refl
with_then (Faults f) h s chain k = refl
with_then Stuck h s chain k = refl

-- what was put on is taken off again
module _ (entries : List ℕ) (texts : List (List ℕ)) (literals : List (List Bool)) (total : ℕ) (s : State) (chain : Chain) where
  abbrev constants : Constants
  constants = program_constants texts literals

  -- an instruction that puts a value on
  put_follows : (g : Got Value) (to : Option ℕ) (below : List Value) (go : List Value → State → Chain → Happened) →
      continues chain (on_made entries to below s (puts g)) go ≡ got_on g s chain (λ v. go (v ∷ below) s chain)
  put_follows (Known v) to below go = refl
  put_follows (Faults k) to below go = refl
  put_follows Stuck to below go = refl

  literal_follows : (kind : ValueKind) (z : ℤ) (rest : List Instr) (ops : List Value) →
      stretch entries constants total (literal_code kind z ∷ rest) ops s chain ≡ got_on (literal kind z) s chain (λ v. stretch entries constants total rest (v ∷ ops) s chain)
  literal_follows kinds.Int z rest ops = refl
  literal_follows kinds.Bit (pos zero) rest ops = refl
  literal_follows kinds.Bit (pos (suc zero)) rest ops = refl
  literal_follows kinds.Bit (pos (suc (suc n))) rest ops = refl
  literal_follows kinds.Bit (negsuc n) rest ops = refl

  -- a line for each operator
  operator_follows : (op : BinOp) (side : ValueKind) (x y : Value) (rest : List Instr) (ops : List Value) →
      stretch entries constants total (Binary (operator_number op side) ∷ rest) (y ∷ x ∷ ops) s chain
      ≡ got_on (combined op x y) s chain (λ v. stretch entries constants total rest (v ∷ ops) s chain)
  operator_follows operators.Add side x y rest ops = put_follows (combined operators.Add x y) None ops (stretch entries constants total rest)
  operator_follows operators.Subtract side x y rest ops = put_follows (combined operators.Subtract x y) None ops (stretch entries constants total rest)
  operator_follows operators.Multiply side x y rest ops = put_follows (combined operators.Multiply x y) None ops (stretch entries constants total rest)
  operator_follows operators.Divide side x y rest ops = put_follows (combined operators.Divide x y) None ops (stretch entries constants total rest)
  operator_follows operators.Remainder side x y rest ops = put_follows (combined operators.Remainder x y) None ops (stretch entries constants total rest)
  operator_follows operators.BitAnd kinds.Int x y rest ops = put_follows (combined operators.BitAnd x y) None ops (stretch entries constants total rest)
  operator_follows operators.BitAnd kinds.Bit x y rest ops = put_follows (combined operators.BitAnd x y) None ops (stretch entries constants total rest)
  operator_follows operators.BitOr kinds.Int x y rest ops = put_follows (combined operators.BitOr x y) None ops (stretch entries constants total rest)
  operator_follows operators.BitOr kinds.Bit x y rest ops = put_follows (combined operators.BitOr x y) None ops (stretch entries constants total rest)
  operator_follows operators.BitXor kinds.Int x y rest ops = put_follows (combined operators.BitXor x y) None ops (stretch entries constants total rest)
  operator_follows operators.BitXor kinds.Bit x y rest ops = put_follows (combined operators.BitXor x y) None ops (stretch entries constants total rest)
  operator_follows operators.ShiftLeft side x y rest ops = put_follows (combined operators.ShiftLeft x y) None ops (stretch entries constants total rest)
  operator_follows operators.ShiftRight side x y rest ops = put_follows (combined operators.ShiftRight x y) None ops (stretch entries constants total rest)
  operator_follows operators.Equal kinds.Int x y rest ops = put_follows (combined operators.Equal x y) None ops (stretch entries constants total rest)
  operator_follows operators.Equal kinds.Bit x y rest ops = put_follows (combined operators.Equal x y) None ops (stretch entries constants total rest)
  operator_follows operators.NotEqual kinds.Int x y rest ops = put_follows (combined operators.NotEqual x y) None ops (stretch entries constants total rest)
  operator_follows operators.NotEqual kinds.Bit x y rest ops = put_follows (combined operators.NotEqual x y) None ops (stretch entries constants total rest)
  operator_follows operators.Less side x y rest ops = put_follows (combined operators.Less x y) None ops (stretch entries constants total rest)
  operator_follows operators.AtMost side x y rest ops = put_follows (combined operators.AtMost x y) None ops (stretch entries constants total rest)
  operator_follows operators.Greater side x y rest ops = put_follows (combined operators.Greater x y) None ops (stretch entries constants total rest)
  operator_follows operators.AtLeast side x y rest ops = put_follows (combined operators.AtLeast x y) None ops (stretch entries constants total rest)
  operator_follows operators.And side x y rest ops = put_follows (combined operators.And x y) None ops (stretch entries constants total rest)
  operator_follows operators.Or side x y rest ops = put_follows (combined operators.Or x y) None ops (stretch entries constants total rest)

  sign_follows : (op : UnOp) (x : Value) (rest : List Instr) (ops : List Value) →
      stretch entries constants total (Unary (sign_number op) ∷ rest) (x ∷ ops) s chain
      ≡ got_on (signed op x) s chain (λ v. stretch entries constants total rest (v ∷ ops) s chain)
  sign_follows signs.Negate x rest ops = put_follows (signed signs.Negate x) None ops (stretch entries constants total rest)
  sign_follows signs.Complement x rest ops = put_follows (signed signs.Complement x) None ops (stretch entries constants total rest)
  sign_follows signs.Not x rest ops = put_follows (signed signs.Not x) None ops (stretch entries constants total rest)

  -- two operands that stay if they are a range
  span_kept : (x y : Value) (g : Got Span) (below : List Value) (go : List Value → State → Chain → Happened) →
      continues chain (on_made entries None below s (then_get (then_get g (λ span. Known y)) (λ z. Known (PutsTwo x y)))) go
      ≡ got_on (then_get g (λ span. Known y)) s chain (λ v. go (v ∷ x ∷ below) s chain)
  span_kept x y (Known span) below go = refl
  span_kept x y (Faults k) below go = refl
  span_kept x y Stuck below go = refl

  range_kept : (x y : Value) (array : Option Held) (below : List Value) (go : List Value → State → Chain → Happened) →
      continues chain (on_made entries None below s (kept (x ∷ y ∷ []) (range_held of_programs array))) go
      ≡ got_on (range_held of_programs array x y) s chain (λ v. go (v ∷ x ∷ below) s chain)
  range_kept x y array below go = by (bits_held array)
    where
      by : (g : Got (List Bool)) →
          continues chain (on_made entries None below s (then_get (then_get g (λ bits. then_get (span_of of_programs (length bits) x y) (λ span. Known y))) (λ z. Known (PutsTwo x y)))) go
          ≡ got_on (then_get g (λ bits. then_get (span_of of_programs (length bits) x y) (λ span. Known y))) s chain (λ v. go (v ∷ x ∷ below) s chain)
      by (Known bits) = span_kept x y (span_of of_programs (length bits) x y) below go
      by (Faults k) = refl
      by Stuck = refl

  test_follows : (look : Lookup) (t : Test) (x : Value) (rest : List Instr) (ops : List Value) →
      stretch entries constants total (test_code t rest) (x ∷ ops) s chain
      ≡ got_on (tested look s.store.variables t (head_of ops) x) s chain (λ v. stretch entries constants total rest (v ∷ ops) s chain)
  test_follows look Plain x rest ops = refl
  test_follows look Character x rest ops = put_follows (character_of x) None ops (stretch entries constants total rest)
  test_follows look (tests.Index n) x rest ops =
      put_follows (index_held (slice_get s.store.variables n) x) None ops (stretch entries constants total rest)
  test_follows look (tests.Range n) x rest [] = refl
  test_follows look (tests.Range n) x rest (high ∷ ops) =
      range_kept high x (slice_get s.store.variables n) ops (stretch entries constants total rest)

  module _ (look : Lookup) where
    mutual
      expr_follows : (kind : ValueKind) (e : ExprTree) (rest : List Instr) (ops : List Value) →
          stretch entries constants total (expr_code look kind e rest) ops s chain
          ≡ got_on (value_of look s.store.variables kind e) s chain (λ v. stretch entries constants total rest (v ∷ ops) s chain)
      expr_follows kind (number z) rest ops = literal_follows kind z rest ops
      expr_follows kind (scalar name) rest ops =
          put_follows (scalar_of (slice_get s.store.variables (look.variable name))) None ops (stretch entries constants total rest)
      expr_follows kind (unary op e) rest ops =
          let k : Value → Happened = λ v. stretch entries constants total rest (v ∷ ops) s chain in
          let value : Got Value = value_of look s.store.variables (unary_side op) e in
          expr_follows (unary_side op) e (Unary (sign_number op) ∷ rest) ops
          ∙ with_same value s chain _ (λ x. got_on (signed op x) s chain k) (λ x. sign_follows op x rest ops)
          ∙ with_then value (signed op) s chain k
      expr_follows kind (binary op a b) rest ops =
          let side : ValueKind = sides look op a b in
          let k : Value → Happened = λ v. stretch entries constants total rest (v ∷ ops) s chain in
          let left : Got Value = value_of look s.store.variables side a in
          let right : Got Value = value_of look s.store.variables side b in
          expr_follows side a (expr_code look side b (Binary (operator_number op side) ∷ rest)) ops
          ∙ with_same left s chain _ (λ x. got_on (then_get right (λ y. combined op x y)) s chain k) (λ x.
          expr_follows side b (Binary (operator_number op side) ∷ rest) (x ∷ ops)
          ∙ with_same right s chain _ (λ y. got_on (combined op x y) s chain k) (λ y. operator_follows op side x y rest ops)
          ∙ with_then right (λ y. combined op x y) s chain k)
          ∙ with_then left (λ x. then_get right (λ y. combined op x y)) s chain k
      expr_follows kind (abs e) rest ops =
          let k : Value → Happened = λ v. stretch entries constants total rest (v ∷ ops) s chain in
          let value : Got Value = value_of look s.store.variables kinds.Int e in
          expr_follows kinds.Int e (Unary absolute_number ∷ rest) ops
          ∙ with_same value s chain _ (λ x. got_on (absolute x) s chain k) (λ x. put_follows (absolute x) None ops (stretch entries constants total rest))
          ∙ with_then value absolute s chain k
      expr_follows kind (element name index) rest ops =
          let k : Value → Happened = λ v. stretch entries constants total rest (v ∷ ops) s chain in
          let array : Option Held = slice_get s.store.variables (look.variable name) in
          let value : Got Value = value_of look s.store.variables kinds.Int index in
          expr_follows kinds.Int index (LoadAt (look.variable name) ∷ rest) ops
          ∙ with_same value s chain _ (λ x. got_on (element_of array x) s chain k) (λ x. put_follows (element_of array x) None ops (stretch entries constants total rest))
          ∙ with_then value (element_of array) s chain k
      expr_follows kind (int a) rest ops = int_follows a rest ops

      int_follows : (a : ArrayTree) (rest : List Instr) (ops : List Value) →
          stretch entries constants total (int_code look a rest) ops s chain
          ≡ got_on (then_get (source_values look s.store.variables a) (source_integer s.store.variables (source_of look a))) s chain
          (λ v. stretch entries constants total rest (v ∷ ops) s chain)
      int_follows (bit_literal bits) rest ops = refl
      int_follows (whole name) rest ops =
          put_follows (source_integer s.store.variables (Whole (look.variable name)) []) None ops (stretch entries constants total rest)
      int_follows (range name a b) rest ops =
          let n : ℕ = look.variable name in
          let k : Value → Happened = λ v. stretch entries constants total rest (v ∷ ops) s chain in
          let integer : List Value → Got Value = source_integer s.store.variables (Range of_programs n) in
          let left : Got Value = value_of look s.store.variables kinds.Int a in
          let right : Got Value = value_of look s.store.variables kinds.Int b in
          let both : Value → Got (List Value) = λ x. then_get right (λ y. Known (x ∷ y ∷ [])) in
          let read : List Value → Happened = λ vs. got_on (integer vs) s chain k in
          expr_follows kinds.Int a (expr_code look kinds.Int b (ToInt (sources.Range n) ∷ rest)) ops
          ∙ with_same left s chain _ (λ x. got_on (both x) s chain read) (λ x.
          expr_follows kinds.Int b (ToInt (sources.Range n) ∷ rest) (x ∷ ops)
          ∙ with_same right s chain _ (λ y. read (x ∷ y ∷ [])) (λ y. put_follows (integer (x ∷ y ∷ [])) None ops (stretch entries constants total rest))
          ∙ with_then right (λ y. Known (x ∷ y ∷ [])) s chain read)
          ∙ with_then left both s chain read
          ∙ with_then (then_get left both) integer s chain k
      int_follows (of_int e) rest ops =
          let k : Value → Happened = λ v. stretch entries constants total rest (v ∷ ops) s chain in
          let integer : List Value → Got Value = source_integer s.store.variables OfInt in
          let value : Got Value = value_of look s.store.variables kinds.Int e in
          let read : List Value → Happened = λ vs. got_on (integer vs) s chain k in
          expr_follows kinds.Int e (ToInt sources.FromInt ∷ rest) ops
          ∙ with_same value s chain _ (λ x. read (x ∷ [])) (λ x. put_follows (integer (x ∷ [])) None ops (stretch entries constants total rest))
          ∙ with_then value (λ x. Known (x ∷ [])) s chain read
          ∙ with_then (then_get value (λ x. Known (x ∷ []))) integer s chain k

    operand_follows : (o : Operand) (rest : List Instr) (ops : List Value) →
        stretch entries constants total (expr_code look o.kind o.expr (test_code o.test rest)) ops s chain
        ≡ got_on (operand_value look s.store.variables (head_of ops) o) s chain (λ v. stretch entries constants total rest (v ∷ ops) s chain)
    operand_follows o rest ops =
        let value : Got Value = value_of look s.store.variables o.kind o.expr in
        let test : Value → Got Value = tested look s.store.variables o.test (head_of ops) in
        let k : Value → Happened = λ v. stretch entries constants total rest (v ∷ ops) s chain in
        expr_follows o.kind o.expr (test_code o.test rest) ops
        ∙ with_same value s chain _ (λ x. got_on (test x) s chain k) (λ x. test_follows look o.test x rest ops)
        ∙ with_then value test s chain k

    pub operands_follow : (os : List Operand) (rest : List Instr) (ops : List Value) →
        stretch entries constants total (operands_code look os rest) ops s chain
        ≡ got_on (values_after look s.store.variables (head_of ops) os) s chain (λ vs. stretch entries constants total rest (onto vs ops) s chain)
    operands_follow [] rest ops = refl
    operands_follow (o ∷ os) rest ops =
        let one : Got Value = operand_value look s.store.variables (head_of ops) o in
        let more : Value → Got (List Value) = λ v. values_after look s.store.variables (Some v) os in
        let k : List Value → Happened = λ vs. stretch entries constants total rest (onto vs ops) s chain in
        operand_follows o (operands_code look os rest) ops
        ∙ with_same one s chain _ (λ v. got_on (then_get (more v) (λ vs. Known (v ∷ vs))) s chain k) (λ v.
        operands_follow os rest (v ∷ ops) ∙ with_then (more v) (λ vs. Known (v ∷ vs)) s chain k)
        ∙ with_then one (λ v. then_get (more v) (λ vs. Known (v ∷ vs))) s chain k

-- a value for each operand

one_more : (v : Value) (more : Got (List Value)) (n : ℕ) (vs : List Value) → ((ws : List Value) → more ≡ Known ws → n ≡ length ws) →
    then_get more (λ ws. Known (v ∷ ws)) ≡ Known vs → suc n ≡ length vs
one_more v (Known ws) n vs each e = let both : v ∷ ws ≡ vs = cc in ap suc (each ws refl) ∙ ap length both
one_more v (Faults f) n vs each e = absurd cc
one_more v Stuck n vs each e = absurd cc

first_more : (one : Got Value) (more : Value → Got (List Value)) (n : ℕ) (vs : List Value) → ((v : Value) (ws : List Value) → more v ≡ Known ws → n ≡ length ws) →
    then_get one (λ v. then_get (more v) (λ ws. Known (v ∷ ws))) ≡ Known vs → suc n ≡ length vs
first_more (Known v) more n vs each e = one_more v (more v) n vs (each v) e
first_more (Faults f) more n vs each e = absurd cc
first_more Stuck more n vs each e = absurd cc

each_one : (look : Lookup) (s : State) (before : Option Value) (os : List Operand) (vs : List Value) → values_after look s.store.variables before os ≡ Known vs → length os ≡ length vs
each_one look s before [] vs e = let same : [] ≡ vs = cc in ap length same
each_one look s before (o ∷ os) vs e =
    first_more (operand_value look s.store.variables before o) (λ v. values_after look s.store.variables (Some v) os) (length os) vs (λ v. each_one look s (Some v) os) e

pub one_each : (look : Lookup) (s : State) (os : List Operand) (vs : List Value) → values_of look s.store.variables os ≡ Known vs → length os ≡ length vs
one_each look s os vs e = each_one look s None os vs e
