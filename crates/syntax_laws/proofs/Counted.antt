-- What is printed for a statement has as many operator marks as the statement has operators, and as many IF as it has
-- conditions. Each other writing has as many.
use Rattle.std.proofs.Common.{◌≡◌, ℕ, ℤ, pos, negsuc, ◌+◌, ◌-◌, Bool, true, false, List, [], ◌∷◌, ◌++◌, Option, Some, None, inl, inr, refl, ap, arith}
use Rattle.std.specs.Prelude.{nat_lt}
use Rattle.stapl_lexer.specs.Depth.{is_condition, is_operator}
use Rattle.stapl_lexer.specs.declared.terminal.InnerWord.TheVariants as inner_words
use Rattle.stapl_lexer.specs.declared.terminal.JoinWord.TheVariants as joins
use Rattle.stapl_lexer.specs.declared.terminal.OuterWord.TheVariants as outer_words
use Rattle.stapl_lexer.specs.declared.terminal.PortWord.TheVariants as port_words
use Rattle.stapl_lexer.specs.declared.terminal.SimpleWord.TheVariants as simple_words
use Rattle.stapl_syntax.specs.declared.signs.UnOp.{UnOp}
use Rattle.stapl_syntax.specs.declared.signs.UnOp.TheVariants.{Negate, Complement, Not}
use Rattle.stapl_syntax.specs.declared.statement.ItemChoice.{ItemChoice}
use Rattle.stapl_syntax.specs.declared.statement.ItemChoice.TheVariants as choices
use Rattle.stapl_syntax.specs.Symbols.{Symbol}
use Rattle.stapl_syntax.specs.Expressions.{level_of, operator, left_round, right_round, left_square, right_square, dots}
use Rattle.stapl_syntax.specs.Trees.{ExprTree, number, scalar, element, unary, binary, abs, int, ArrayTree, literal, whole, range, of_int}
use Rattle.stapl_syntax.specs.Trees.{PartTree, string, value, character, ExportTree, exported_value, exported_array}
use Rattle.stapl_syntax.specs.Trees.{BodyTree, note, action, procedure, data_block, end_data, crc, end_procedure, boolean, boolean_array, integer}
use Rattle.stapl_syntax.specs.Trees.{integer_array, assign, assign_element, assign_array, assign_range, call, goto, if_then, for_loop, next, push, pop, print}
use Rattle.stapl_syntax.specs.Trees.{export, exit, scan, stop, pad, state_list, wait_cycles, wait_usec, frequency}
use Rattle.stapl_syntax.specs.Parts.{Part, a_name, a_state, a_number, a_signed, a_bit, a_text, a_literal, a_check_word, a_choice, an_expr}
use Rattle.stapl_syntax.specs.Parts.{an_array, a_cell, a_target, a_print_part, an_export, some_states, after, before, maybe_hz, both, maybe, either, listed, hz, comma, equals, join}
use Rattle.stapl_syntax.specs.Parts.{action_part, procedure_part, size_part, signed_list_part, for_part, print_part}
use Rattle.stapl_syntax.specs.Parts.{export_part, scan_part, pad_part, last_part, usec_part, first_part, frequency_part}
use Rattle.stapl_syntax.specs.Statements.{outer, inner, simple, port}
use Rattle.canonical_text.specs.PrintedTokens.{Printed, Seen, unary_symbol}
use Rattle.canonical_text.specs.PrintedStatements.{bracketed_if, expr_tokens, array_tokens, signed_tokens, bit_tokens, choice_tokens, print_part_tokens}
use Rattle.canonical_text.specs.PrintedStatements.{export_tokens, separated_tokens, states_tokens, part_tokens, body_tokens}
use Rattle.canonical_text.specs.Printable.{sign_terminal, symbol_terminal, conditions, operators, one_if, weight}
use Rattle.canonical_text.proofs.Grammar.{symbols}
use Rattle.canonical_text.proofs.Kept.{weight-printed}
use Rattle.syntax_laws.specs.Sizes.{operators_of, operators_of_array, operand_operators, print_operands, export_operands, maybe_expression, total, operators_in, conditions_in}

-- ---- expressions

bracketed : (f : Symbol → Bool) (b : Bool) (ts : List Printed) → one_if (f left_round) ≡ 0 → one_if (f right_round) ≡ 0 →
    weight f (symbols (bracketed_if b ts)) ≡ weight f (symbols ts)
bracketed f true ts left right = let both = weight-printed f ts (Seen right_round ∷ []) in omega (arith, both, left, right)
bracketed f false ts left right = refl

marked : (op : UnOp) → one_if (operators (unary_symbol op)) ≡ 1
unfolding symbol_terminal sign_terminal is_operator unary_symbol
marked Negate = refl
marked Complement = refl
marked Not = refl

mutual
  unfolding symbol_terminal sign_terminal is_operator

  pub expr_operators : (n : ℕ) (e : ExprTree) → weight operators (symbols (expr_tokens n e)) ≡ operators_of e
  expr_operators n (number z) = refl
  expr_operators n (scalar v) = refl
  expr_operators n (element v i) =
      let both = weight-printed operators (expr_tokens 10 i) (Seen right_square ∷ []) in let own = expr_operators 10 i in omega (arith, both, own)
  expr_operators n (unary op x) = let mark = marked op in let own = expr_operators 0 x in omega (arith, mark, own)
  expr_operators n (binary op x y) =
      let inside = expr_tokens (level_of op) x ++ Seen (operator op) ∷ expr_tokens (level_of op - 1) y in
      let around = bracketed operators (nat_lt n (level_of op)) inside refl refl in
      let both = weight-printed operators (expr_tokens (level_of op) x) (Seen (operator op) ∷ expr_tokens (level_of op - 1) y) in
      let left = expr_operators (level_of op) x in
      let right = expr_operators (level_of op - 1) y in
      omega (arith, around, both, left, right)
  expr_operators n (abs x) =
      let both = weight-printed operators (expr_tokens 10 x) (Seen right_round ∷ []) in let own = expr_operators 10 x in omega (arith, both, own)
  expr_operators n (int a) =
      let both = weight-printed operators (array_tokens a) (Seen right_round ∷ []) in let own = array_operators a in omega (arith, both, own)

  pub array_operators : (a : ArrayTree) → weight operators (symbols (array_tokens a)) ≡ operators_of_array a
  array_operators (literal bits) = refl
  array_operators (whole v) = refl
  array_operators (range v h l) =
      let both = weight-printed operators (expr_tokens 10 h) (Seen dots ∷ (expr_tokens 10 l ++ Seen right_square ∷ [])) in
      let last = weight-printed operators (expr_tokens 10 l) (Seen right_square ∷ []) in
      let first = expr_operators 10 h in
      let second = expr_operators 10 l in
      omega (arith, both, last, first, second)
  array_operators (of_int x) =
      let both = weight-printed operators (expr_tokens 10 x) (Seen right_round ∷ []) in let own = expr_operators 10 x in omega (arith, both, own)

unmarked : (op : UnOp) → one_if (conditions (unary_symbol op)) ≡ 0
unfolding symbol_terminal sign_terminal is_condition unary_symbol
unmarked Negate = refl
unmarked Complement = refl
unmarked Not = refl

mutual
  unfolding symbol_terminal sign_terminal is_condition

  pub expr_conditions : (n : ℕ) (e : ExprTree) → weight conditions (symbols (expr_tokens n e)) ≡ 0
  expr_conditions n (number z) = refl
  expr_conditions n (scalar v) = refl
  expr_conditions n (element v i) =
      let both = weight-printed conditions (expr_tokens 10 i) (Seen right_square ∷ []) in let own = expr_conditions 10 i in omega (arith, both, own)
  expr_conditions n (unary op x) = let mark = unmarked op in let own = expr_conditions 0 x in omega (arith, mark, own)
  expr_conditions n (binary op x y) =
      let inside = expr_tokens (level_of op) x ++ Seen (operator op) ∷ expr_tokens (level_of op - 1) y in
      let around = bracketed conditions (nat_lt n (level_of op)) inside refl refl in
      let both = weight-printed conditions (expr_tokens (level_of op) x) (Seen (operator op) ∷ expr_tokens (level_of op - 1) y) in
      let left = expr_conditions (level_of op) x in
      let right = expr_conditions (level_of op - 1) y in
      omega (arith, around, both, left, right)
  expr_conditions n (abs x) =
      let both = weight-printed conditions (expr_tokens 10 x) (Seen right_round ∷ []) in let own = expr_conditions 10 x in omega (arith, both, own)
  expr_conditions n (int a) =
      let both = weight-printed conditions (array_tokens a) (Seen right_round ∷ []) in let own = array_conditions a in omega (arith, both, own)

  pub array_conditions : (a : ArrayTree) → weight conditions (symbols (array_tokens a)) ≡ 0
  array_conditions (literal bits) = refl
  array_conditions (whole v) = refl
  array_conditions (range v h l) =
      let both = weight-printed conditions (expr_tokens 10 h) (Seen dots ∷ (expr_tokens 10 l ++ Seen right_square ∷ [])) in
      let last = weight-printed conditions (expr_tokens 10 l) (Seen right_square ∷ []) in
      let first = expr_conditions 10 h in
      let second = expr_conditions 10 l in
      omega (arith, both, last, first, second)
  array_conditions (of_int x) =
      let both = weight-printed conditions (expr_tokens 10 x) (Seen right_round ∷ []) in let own = expr_conditions 10 x in omega (arith, both, own)

-- ---- parts

-- the sum over a list
abbrev pub sum_over : {A : Type 0} → (A → ℕ) → ℕ → List A → ℕ
sum_over size between [] = 0
sum_over size between (x ∷ []) = size x
sum_over size between (x ∷ y ∷ ys) = size x + (between + sum_over size between (y ∷ ys))

-- what a part weighs, if each expression weighs so much
module _ (f : Symbol → Bool) (of_expr : ExprTree → ℕ) (of_array : ArrayTree → ℕ) where
  abbrev pub part_weight : {A : Type 0} → Part A → A → ℕ
  part_weight an_expr e = of_expr e
  part_weight an_array a = of_array a
  part_weight a_cell e = of_expr e
  part_weight a_target a = of_array a
  part_weight (after t p) x = one_if (f t) + part_weight p x
  part_weight (before p t) x = part_weight p x + one_if (f t)
  part_weight (maybe_hz p) x = part_weight p x + one_if (f hz)
  part_weight (both p q) x = part_weight p x.0 + part_weight q x.1
  part_weight (maybe p) None = 0
  part_weight (maybe p) (Some x) = part_weight p x
  part_weight (either p q) (inl x) = part_weight p x
  part_weight (either p q) (inr y) = part_weight q y
  part_weight (listed t p) xs = sum_over (part_weight p) (one_if (f t)) xs
  part_weight p x = weight f (symbols (part_tokens p x))

module _ (f : Symbol → Bool) (of_expr : ExprTree → ℕ) (of_array : ArrayTree → ℕ)
    (expr_is : (e : ExprTree) → weight f (symbols (expr_tokens 10 e)) ≡ of_expr e) (array_is : (a : ArrayTree) → weight f (symbols (array_tokens a)) ≡ of_array a) where
  separated_is : {A : Type 0} (write : A → List Printed) (size : A → ℕ) (t : Symbol) → ((x : A) → weight f (symbols (write x)) ≡ size x) →
      (xs : List A) → weight f (symbols (separated_tokens write (Seen t) xs)) ≡ sum_over size (one_if (f t)) xs
  separated_is write size t each [] = refl
  separated_is write size t each (x ∷ []) = each x
  separated_is write size t each (x ∷ y ∷ ys) =
      let both = weight-printed f (write x) (Seen t ∷ separated_tokens write (Seen t) (y ∷ ys)) in
      let first = each x in
      let rest = separated_is write size t each (y ∷ ys) in
      omega (arith, both, first, rest)

  pub part_is : {A : Type 0} (p : Part A) (x : A) → weight f (symbols (part_tokens p x)) ≡ part_weight f of_expr of_array p x
  part_is a_name x = refl
  part_is a_state x = refl
  part_is a_number x = refl
  part_is a_signed x = refl
  part_is a_bit x = refl
  part_is a_text x = refl
  part_is a_literal x = refl
  part_is a_check_word x = refl
  part_is a_choice x = refl
  part_is an_expr e = expr_is e
  part_is an_array a = array_is a
  part_is a_cell e = expr_is e
  part_is a_target a = array_is a
  part_is a_print_part x = refl
  part_is an_export x = refl
  part_is some_states x = refl
  part_is (after t p) x = ap (λ (n : ℕ). one_if (f t) + n) (part_is p x)
  part_is (before p t) x = let both = weight-printed f (part_tokens p x) (Seen t ∷ []) in let own = part_is p x in omega (arith, both, own)
  part_is (maybe_hz p) x = let both = weight-printed f (part_tokens p x) (Seen hz ∷ []) in let own = part_is p x in omega (arith, both, own)
  part_is (both p q) x =
      let joined = weight-printed f (part_tokens p x.0) (part_tokens q x.1) in let first = part_is p x.0 in let second = part_is q x.1 in omega (arith, joined, first, second)
  part_is (maybe p) None = refl
  part_is (maybe p) (Some x) = part_is p x
  part_is (either p q) (inl x) = part_is p x
  part_is (either p q) (inr y) = part_is q y
  part_is (listed t p) xs = separated_is (part_tokens p) (part_weight f of_expr of_array p) t (part_is p) xs

-- a list whose items weigh nothing
pub light_sum : {A : Type 0} (size : A → ℕ) (between : ℕ) → between ≡ 0 → ((x : A) → size x ≡ 0) → (xs : List A) → sum_over size between xs ≡ 0
light_sum size between e each [] = refl
light_sum size between e each (x ∷ []) = each x
light_sum size between e each (x ∷ y ∷ ys) = let first = each x in let rest = light_sum size between e each (y ∷ ys) in omega (arith, e, first, rest)

-- ---- operators

op_part : {A : Type 0} (p : Part A) (x : A) → weight operators (symbols (part_tokens p x)) ≡ part_weight operators operators_of operators_of_array p x
op_part p x = part_is operators operators_of operators_of_array (expr_operators 10) array_operators p x

no_choice : (c : ItemChoice) → weight operators (symbols (choice_tokens c)) ≡ 0
unfolding symbol_terminal sign_terminal is_operator choice_tokens
no_choice choices.Optional = refl
no_choice choices.Recommended = refl

no_item : (x : List ℕ × Option ItemChoice) → part_weight operators operators_of operators_of_array (both a_name (maybe a_choice)) x ≡ 0
unfolding symbol_terminal sign_terminal is_operator
no_item x = by x.1
  where
    by : (c : Option ItemChoice) → 0 + part_weight operators operators_of operators_of_array (maybe a_choice) c ≡ 0
    by None = refl
    by (Some c) = let none = no_choice c in omega (arith, none)

no_states : (states : List ℕ) → weight operators (symbols (states_tokens states)) ≡ 0
unfolding symbol_terminal sign_terminal is_operator
no_states [] = refl
no_states (k ∷ []) = refl
no_states (k ∷ j ∷ ks) = let rest = no_states (j ∷ ks) in omega (arith, rest)

print_operators : (parts : List PartTree) → sum_over (part_weight operators operators_of operators_of_array a_print_part) (one_if (operators comma)) parts ≡ total operand_operators (print_operands parts)
unfolding symbol_terminal sign_terminal is_operator
print_operators [] = refl
print_operators (x ∷ []) = one x
  where
    one : (x : PartTree) → weight operators (symbols (print_part_tokens x)) ≡ total operand_operators (print_operands (x ∷ []))
    one (string bytes) = refl
    one (value e) = let own = expr_operators 10 e in omega (arith, own)
    one (character e) =
        let both = weight-printed operators (expr_tokens 10 e) (Seen right_round ∷ []) in let own = expr_operators 10 e in omega (arith, both, own)
print_operators (x ∷ y ∷ ys) = more x (print_operators (y ∷ ys))
  where
    more : (x : PartTree) → sum_over (part_weight operators operators_of operators_of_array a_print_part) (one_if (operators comma)) (y ∷ ys) ≡ total operand_operators (print_operands (y ∷ ys)) →
        weight operators (symbols (print_part_tokens x)) + (one_if (operators comma) + sum_over (part_weight operators operators_of operators_of_array a_print_part) (one_if (operators comma)) (y ∷ ys)) ≡ total operand_operators (print_operands (x ∷ y ∷ ys))
    more (string bytes) rest = omega (arith, rest)
    more (value e) rest = let own = expr_operators 10 e in omega (arith, own, rest)
    more (character e) rest =
        let both = weight-printed operators (expr_tokens 10 e) (Seen right_round ∷ []) in let own = expr_operators 10 e in omega (arith, both, own, rest)

export_operators : (x : ExportTree) → weight operators (symbols (export_tokens x)) ≡ total operand_operators (export_operands x)
export_operators (exported_value e) = let own = expr_operators 10 e in omega (arith, own)
export_operators (exported_array a) = let own = array_operators a in omega (arith, own)

bits_weigh_nothing : (b : Bool) → weight operators (symbols (bit_tokens b)) ≡ 0
unfolding symbol_terminal sign_terminal is_operator
bits_weigh_nothing true = refl
bits_weigh_nothing false = refl

no_first : (k : Option ℕ) → part_weight operators operators_of operators_of_array first_part k ≡ 0
unfolding symbol_terminal sign_terminal is_operator
no_first None = refl
no_first (Some k) = refl

no_last : (k : Option ℕ) → part_weight operators operators_of operators_of_array last_part k ≡ 0
unfolding symbol_terminal sign_terminal is_operator
no_last None = refl
no_last (Some k) = refl

usec_operators : (u : Option ExprTree) → part_weight operators operators_of operators_of_array usec_part u ≡ total operand_operators (maybe_expression u)
unfolding symbol_terminal sign_terminal is_operator
usec_operators None = refl
usec_operators (Some x) = omega arith

-- no declaration of an INTEGER, also not after THEN
abbrev pub IsPlain : BodyTree → Type 0
IsPlain (integer v z) = ⊥
IsPlain (integer_array v n zs) = ⊥
IsPlain (if_then e b) = IsPlain b
IsPlain _ = Unit {0}

pub body_operators : (b : BodyTree) → IsPlain b → weight operators (symbols (body_tokens b)) ≡ operators_in b
unfolding symbol_terminal sign_terminal is_operator
body_operators (note key text) e = refl
body_operators (action v None items) e =
    let own = op_part (after (outer outer_words.Action) action_part) (v, (None, items)) in
    let none = light_sum _ (one_if (operators comma)) refl no_item items in
    omega (arith, own, none)
body_operators (action v (Some text) items) e =
    let own = op_part (after (outer outer_words.Action) action_part) (v, (Some text, items)) in
    let none = light_sum _ (one_if (operators comma)) refl no_item items in
    omega (arith, own, none)
body_operators (procedure v None) e = refl
body_operators (procedure v (Some uses)) e =
    let own = op_part (after (outer outer_words.Procedure) procedure_part) (v, Some uses) in
    let none = light_sum (part_weight operators operators_of operators_of_array a_name) (one_if (operators comma)) refl (λ x. refl) uses in
    omega (arith, own, none)
body_operators (data_block v) e = refl
body_operators end_data e = refl
body_operators (crc n) e = refl
body_operators end_procedure e = refl
body_operators (boolean v None) e = refl
body_operators (boolean v (Some bit)) e = let none = bits_weigh_nothing bit in omega (arith, none)
body_operators (boolean_array v n None) e = refl
body_operators (boolean_array v n (Some bits)) e = refl
body_operators (integer v z) e = absurd e
body_operators (integer_array v n zs) e = absurd e
body_operators (assign v x) e = let own = op_part (both a_name (after equals an_expr)) (v, x) in omega (arith, own)
body_operators (assign_element v i x) e =
    let own = op_part (both a_name (after left_square (both an_expr (after right_square (after equals an_expr))))) (v, (i, x)) in omega (arith, own)
body_operators (assign_array v a) e = let own = op_part (both a_name (after left_square (after right_square (after equals an_array)))) (v, a) in omega (arith, own)
body_operators (assign_range v h l a) e =
    let own = op_part (both a_name (after left_square (both an_expr (after dots (both an_expr (after right_square (after equals an_array))))))) (v, (h, (l, a))) in
    omega (arith, own)
body_operators (call v) e = refl
body_operators (goto v) e = refl
body_operators (if_then x b) e =
    let both = weight-printed operators (expr_tokens 10 x) (Seen (join joins.Then) ∷ body_tokens b) in
    let first = expr_operators 10 x in
    let rest = body_operators b e in
    omega (arith, both, first, rest)
body_operators (for_loop v a b None) e = let own = op_part (after (simple simple_words.For) for_part) (v, (a, (b, None))) in omega (arith, own)
body_operators (for_loop v a b (Some c)) e = let own = op_part (after (simple simple_words.For) for_part) (v, (a, (b, Some c))) in omega (arith, own)
body_operators (next v) e = refl
body_operators (push x) e = let own = op_part (after (simple simple_words.Push) an_expr) x in omega (arith, own)
body_operators (pop x) e = let own = op_part (after (simple simple_words.Pop) a_cell) x in omega (arith, own)
body_operators (print parts) e =
    let own = op_part (after (simple simple_words.Print) print_part) parts in let sum = print_operators parts in omega (arith, own, sum)
body_operators (export key x) e =
    let own = op_part (after (simple simple_words.Export) export_part) (key, x) in let sum = export_operators x in omega (arith, own, sum)
body_operators (exit x) e = let own = op_part (after (simple simple_words.Exit) an_expr) x in omega (arith, own)
body_operators (scan k x a None None) e = let own = op_part (after (port (port_words.Scan k)) scan_part) (x, (a, (None, None))) in omega (arith, own)
body_operators (scan k x a (Some t) None) e = let own = op_part (after (port (port_words.Scan k)) scan_part) (x, (a, (Some t, None))) in omega (arith, own)
body_operators (scan k x a None (Some c)) e = let own = op_part (after (port (port_words.Scan k)) scan_part) (x, (a, (None, Some c))) in omega (arith, own)
body_operators (scan k x a (Some t) (Some c)) e = let own = op_part (after (port (port_words.Scan k)) scan_part) (x, (a, (Some t, Some c))) in omega (arith, own)
body_operators (stop k state) e = refl
body_operators (pad k x None) e = let own = op_part (after (port (port_words.Pad k)) pad_part) (x, None) in omega (arith, own)
body_operators (pad k x (Some a)) e = let own = op_part (after (port (port_words.Pad k)) pad_part) (x, Some a) in omega (arith, own)
body_operators (state_list states) e = let none = no_states states in omega (arith, none)
body_operators (wait_cycles k x u l) e =
    let own = op_part (after (port port_words.Wait) (both first_part (both an_expr (after (join joins.Cycles) (both usec_part last_part))))) (k, (x, (u, l))) in
    let first = no_first k in let usec = usec_operators u in let last = no_last l in omega (arith, own, first, usec, last)
body_operators (wait_usec k x l) e =
    let own = op_part (after (port port_words.Wait) (both first_part (both an_expr (after (join joins.Usec) last_part)))) (k, (x, l)) in
    let first = no_first k in let last = no_last l in omega (arith, own, first, last)
body_operators (frequency None) e = refl
body_operators (frequency (Some x)) e = let own = op_part (after (port port_words.Frequency) frequency_part) (Some x) in omega (arith, own)

-- ---- conditions

con_part : {A : Type 0} (p : Part A) (x : A) → weight conditions (symbols (part_tokens p x)) ≡ part_weight conditions (λ e. 0) (λ a. 0) p x
con_part p x = part_is conditions (λ e. 0) (λ a. 0) (expr_conditions 10) array_conditions p x

no_signed_if : (z : ℤ) → weight conditions (symbols (signed_tokens z)) ≡ 0
unfolding symbol_terminal sign_terminal is_condition unary_symbol
no_signed_if (pos n) = refl
no_signed_if (negsuc n) = refl

no_choice_if : (c : ItemChoice) → weight conditions (symbols (choice_tokens c)) ≡ 0
unfolding symbol_terminal sign_terminal is_condition choice_tokens
no_choice_if choices.Optional = refl
no_choice_if choices.Recommended = refl

no_item_if : (x : List ℕ × Option ItemChoice) → part_weight conditions (λ e. 0) (λ a. 0) (both a_name (maybe a_choice)) x ≡ 0
unfolding symbol_terminal sign_terminal is_condition
no_item_if x = by x.1
  where
    by : (c : Option ItemChoice) → 0 + part_weight conditions (λ e. 0) (λ a. 0) (maybe a_choice) c ≡ 0
    by None = refl
    by (Some c) = let none = no_choice_if c in omega (arith, none)

no_states_if : (states : List ℕ) → weight conditions (symbols (states_tokens states)) ≡ 0
unfolding symbol_terminal sign_terminal is_condition
no_states_if [] = refl
no_states_if (k ∷ []) = refl
no_states_if (k ∷ j ∷ ks) = let rest = no_states_if (j ∷ ks) in omega (arith, rest)

print_conditions : (parts : List PartTree) → sum_over (part_weight conditions (λ e. 0) (λ a. 0) a_print_part) (one_if (conditions comma)) parts ≡ 0
unfolding symbol_terminal sign_terminal is_condition
print_conditions [] = refl
print_conditions (x ∷ []) = one x
  where
    one : (x : PartTree) → weight conditions (symbols (print_part_tokens x)) ≡ 0
    one (string bytes) = refl
    one (value e) = let own = expr_conditions 10 e in omega (arith, own)
    one (character e) =
        let both = weight-printed conditions (expr_tokens 10 e) (Seen right_round ∷ []) in let own = expr_conditions 10 e in omega (arith, both, own)
print_conditions (x ∷ y ∷ ys) = more x (print_conditions (y ∷ ys))
  where
    more : (x : PartTree) → sum_over (part_weight conditions (λ e. 0) (λ a. 0) a_print_part) (one_if (conditions comma)) (y ∷ ys) ≡ 0 →
        weight conditions (symbols (print_part_tokens x)) + (one_if (conditions comma) + sum_over (part_weight conditions (λ e. 0) (λ a. 0) a_print_part) (one_if (conditions comma)) (y ∷ ys)) ≡ 0
    more (string bytes) rest = omega (arith, rest)
    more (value e) rest = let own = expr_conditions 10 e in omega (arith, own, rest)
    more (character e) rest =
        let both = weight-printed conditions (expr_tokens 10 e) (Seen right_round ∷ []) in let own = expr_conditions 10 e in omega (arith, both, own, rest)

export_conditions : (x : ExportTree) → weight conditions (symbols (export_tokens x)) ≡ 0
export_conditions (exported_value e) = let own = expr_conditions 10 e in omega (arith, own)
export_conditions (exported_array a) = let own = array_conditions a in omega (arith, own)

bits_weigh_nothing_if : (b : Bool) → weight conditions (symbols (bit_tokens b)) ≡ 0
unfolding symbol_terminal sign_terminal is_condition
bits_weigh_nothing_if true = refl
bits_weigh_nothing_if false = refl

no_first_if : (k : Option ℕ) → part_weight conditions (λ e. 0) (λ a. 0) first_part k ≡ 0
unfolding symbol_terminal sign_terminal is_condition
no_first_if None = refl
no_first_if (Some k) = refl

no_last_if : (k : Option ℕ) → part_weight conditions (λ e. 0) (λ a. 0) last_part k ≡ 0
unfolding symbol_terminal sign_terminal is_condition
no_last_if None = refl
no_last_if (Some k) = refl

usec_conditions : (u : Option ExprTree) → part_weight conditions (λ e. 0) (λ a. 0) usec_part u ≡ 0
unfolding symbol_terminal sign_terminal is_condition
usec_conditions None = refl
usec_conditions (Some x) = omega arith

pub body_conditions : (b : BodyTree) → weight conditions (symbols (body_tokens b)) ≡ conditions_in b
unfolding symbol_terminal sign_terminal is_condition
body_conditions (note key text) = refl
body_conditions (action v None items) =
    let own = con_part (after (outer outer_words.Action) action_part) (v, (None, items)) in
    let none = light_sum _ (one_if (conditions comma)) refl no_item_if items in
    omega (arith, own, none)
body_conditions (action v (Some text) items) =
    let own = con_part (after (outer outer_words.Action) action_part) (v, (Some text, items)) in
    let none = light_sum _ (one_if (conditions comma)) refl no_item_if items in
    omega (arith, own, none)
body_conditions (procedure v None) = refl
body_conditions (procedure v (Some uses)) =
    let own = con_part (after (outer outer_words.Procedure) procedure_part) (v, Some uses) in
    let none = light_sum (part_weight conditions (λ e. 0) (λ a. 0) a_name) (one_if (conditions comma)) refl (λ x. refl) uses in
    omega (arith, own, none)
body_conditions (data_block v) = refl
body_conditions end_data = refl
body_conditions (crc n) = refl
body_conditions end_procedure = refl
body_conditions (boolean v None) = refl
body_conditions (boolean v (Some bit)) = let none = bits_weigh_nothing_if bit in omega (arith, none)
body_conditions (boolean_array v n None) = refl
body_conditions (boolean_array v n (Some bits)) = refl
body_conditions (integer v None) = refl
body_conditions (integer v (Some z)) = let none = no_signed_if z in omega (arith, none)
body_conditions (integer_array v n None) = refl
body_conditions (integer_array v n (Some zs)) =
    let own = con_part (after (inner inner_words.Integer) (both a_name (both size_part signed_list_part))) (v, (n, Some zs)) in
    let none = light_sum (part_weight conditions (λ e. 0) (λ a. 0) a_signed) (one_if (conditions comma)) refl no_signed_if zs in
    omega (arith, own, none)
body_conditions (assign v x) = let own = con_part (both a_name (after equals an_expr)) (v, x) in omega (arith, own)
body_conditions (assign_element v i x) =
    let own = con_part (both a_name (after left_square (both an_expr (after right_square (after equals an_expr))))) (v, (i, x)) in omega (arith, own)
body_conditions (assign_array v a) = let own = con_part (both a_name (after left_square (after right_square (after equals an_array)))) (v, a) in omega (arith, own)
body_conditions (assign_range v h l a) =
    let own = con_part (both a_name (after left_square (both an_expr (after dots (both an_expr (after right_square (after equals an_array))))))) (v, (h, (l, a))) in
    omega (arith, own)
body_conditions (call v) = refl
body_conditions (goto v) = refl
body_conditions (if_then x b) =
    let both = weight-printed conditions (expr_tokens 10 x) (Seen (join joins.Then) ∷ body_tokens b) in
    let first = expr_conditions 10 x in
    let rest = body_conditions b in
    omega (arith, both, first, rest)
body_conditions (for_loop v a b None) = let own = con_part (after (simple simple_words.For) for_part) (v, (a, (b, None))) in omega (arith, own)
body_conditions (for_loop v a b (Some c)) = let own = con_part (after (simple simple_words.For) for_part) (v, (a, (b, Some c))) in omega (arith, own)
body_conditions (next v) = refl
body_conditions (push x) = let own = con_part (after (simple simple_words.Push) an_expr) x in omega (arith, own)
body_conditions (pop x) = let own = con_part (after (simple simple_words.Pop) a_cell) x in omega (arith, own)
body_conditions (print parts) =
    let own = con_part (after (simple simple_words.Print) print_part) parts in let sum = print_conditions parts in omega (arith, own, sum)
body_conditions (export key x) =
    let own = con_part (after (simple simple_words.Export) export_part) (key, x) in let sum = export_conditions x in omega (arith, own, sum)
body_conditions (exit x) = let own = con_part (after (simple simple_words.Exit) an_expr) x in omega (arith, own)
body_conditions (scan k x a None None) = let own = con_part (after (port (port_words.Scan k)) scan_part) (x, (a, (None, None))) in omega (arith, own)
body_conditions (scan k x a (Some t) None) = let own = con_part (after (port (port_words.Scan k)) scan_part) (x, (a, (Some t, None))) in omega (arith, own)
body_conditions (scan k x a None (Some c)) = let own = con_part (after (port (port_words.Scan k)) scan_part) (x, (a, (None, Some c))) in omega (arith, own)
body_conditions (scan k x a (Some t) (Some c)) = let own = con_part (after (port (port_words.Scan k)) scan_part) (x, (a, (Some t, Some c))) in omega (arith, own)
body_conditions (stop k state) = refl
body_conditions (pad k x None) = let own = con_part (after (port (port_words.Pad k)) pad_part) (x, None) in omega (arith, own)
body_conditions (pad k x (Some a)) = let own = con_part (after (port (port_words.Pad k)) pad_part) (x, Some a) in omega (arith, own)
body_conditions (state_list states) = let none = no_states_if states in omega (arith, none)
body_conditions (wait_cycles k x u l) =
    let own = con_part (after (port port_words.Wait) (both first_part (both an_expr (after (join joins.Cycles) (both usec_part last_part))))) (k, (x, (u, l))) in
    let first = no_first_if k in let usec = usec_conditions u in let last = no_last_if l in omega (arith, own, first, usec, last)
body_conditions (wait_usec k x l) =
    let own = con_part (after (port port_words.Wait) (both first_part (both an_expr (after (join joins.Usec) last_part)))) (k, (x, l)) in
    let first = no_first_if k in let last = no_last_if l in omega (arith, own, first, last)
body_conditions (frequency None) = refl
body_conditions (frequency (Some x)) = let own = con_part (after (port port_words.Frequency) frequency_part) (Some x) in omega (arith, own)
