-- What is printed for a statement holds as many symbols of a kind as each other writing of it, commas and HZ left aside,
-- and no more brackets.
use Rattle.std.proofs.Common.{◌≡◌, ℕ, ℤ, ◌+◌, ◌-◌, ◌≤◌, suc, Bool, true, false, List, [], ◌∷◌, ◌++◌, Option, Some, None, inl, inr, refl, sym, ap, subst, ◌∙◌, arith}
use Rattle.stapl_lexer.specs.declared.terminal.BinOp.TheVariants.{Subtract}
use Rattle.stapl_lexer.specs.declared.terminal.JoinWord.TheVariants as joins
use Rattle.stapl_lexer.specs.declared.terminal.Mark.TheVariants as marks
use Rattle.stapl_syntax.specs.declared.signs.Sign.TheVariants as signs
use Rattle.stapl_syntax.specs.Symbols.{Symbol, Plain}
use Rattle.stapl_syntax.specs.Expressions.{level_of, operator, mark, left_round, right_round, left_square, right_square, dots, IsExpr, of_unary, tighter}
use Rattle.stapl_syntax.specs.Expressions.{of_binary, IsUnary, negation, complement, negated, of_primary, IsPrimary, of_number, of_cell, of_brackets, of_abs}
use Rattle.stapl_syntax.specs.Expressions.{of_array, IsCell, of_scalar, of_element, IsTarget, of_whole, of_range, IsArray, of_literal, of_target, of_expr}
use Rattle.stapl_lexer.specs.declared.terminal.InnerWord.TheVariants as inner_words
use Rattle.stapl_lexer.specs.declared.terminal.OuterWord.TheVariants as outer_words
use Rattle.stapl_lexer.specs.declared.terminal.PortWord.TheVariants as port_words
use Rattle.stapl_lexer.specs.declared.terminal.SimpleWord.TheVariants as simple_words
use Rattle.stapl_syntax.specs.Trees.{ExprTree, ArrayTree, PartTree, ExportTree, BodyTree, note, action, procedure, data_block, end_data, crc, end_procedure}
use Rattle.stapl_syntax.specs.Trees.{boolean, boolean_array, integer, integer_array, assign, assign_element, assign_array, assign_range, call, goto, if_then}
use Rattle.stapl_syntax.specs.Trees.{for_loop, next, push, pop, print, export, exit, scan, stop, pad, state_list, wait_cycles, wait_usec, frequency, StmtTree}
use Rattle.stapl_syntax.specs.Parts.{IsSigned, IsBit, zero_bit, one_bit, IsChoice, optional_item, recommended_item, IsPrintPart, of_string, of_value}
use Rattle.stapl_syntax.specs.Parts.{of_character, IsExported, of_exported_value, of_exported_array, AreStates, one_state, more_states, more_after_comma}
use Rattle.stapl_syntax.specs.Parts.{Part, a_name, a_state, a_number, a_signed, a_bit, a_text, a_literal, a_check_word, a_choice, an_expr, an_array, a_cell}
use Rattle.stapl_syntax.specs.Parts.{a_target, a_print_part, an_export, some_states, after, before, maybe_hz, both, maybe, either, listed, Separated, IsPart}
use Rattle.stapl_syntax.specs.Parts.{hz, comma, equals, join, note_part, action_part, procedure_part, size_part, bit_part, bits_part, signed_part}
use Rattle.stapl_syntax.specs.Parts.{signed_list_part, for_part, print_part, export_part, scan_part, pad_part, last_part, usec_part, first_part}
use Rattle.stapl_syntax.specs.Parts.{frequency_part}
use Rattle.stapl_syntax.specs.Statements.{outer, inner, simple, if_word, port, IsBody, IsLabelled, Means}
use Rattle.std.proofs.lemmas.Bool.{and_parts}
use Rattle.canonical_text.specs.PrintedTokens.{Printed, Seen, unary_symbol}
use Rattle.canonical_text.specs.PrintedStatements.{expr_tokens, array_tokens, signed_tokens, bit_tokens, choice_tokens, print_part_tokens}
use Rattle.canonical_text.specs.PrintedStatements.{export_tokens, separated_tokens, states_tokens, part_tokens, body_tokens, label_tokens, stmt_tokens}
use Rattle.canonical_text.specs.Printable.{one_if, weight}
use Rattle.canonical_text.proofs.Grammar.{symbols, symbols-append}
use Rattle.canonical_text.proofs.Standing.{sides_at, Stands, plain, looser, stands}
use Rattle.canonical_text.proofs.Statements.{signless}

pub weight-append : (f : Symbol → Bool) (a b : List Symbol) → weight f (a ++ b) ≡ weight f a + weight f b
weight-append f [] b = omega arith
weight-append f (t ∷ a) b = omega (arith, weight-append f a b)

-- the same of printed tokens
pub weight-printed : (f : Symbol → Bool) (a b : List Printed) → weight f (symbols (a ++ b)) ≡ weight f (symbols a) + weight f (symbols b)
weight-printed f a b = ap (weight f) (symbols-append a b) ∙ weight-append f (symbols a) (symbols b)

-- a test of symbols, and a relation of counts, that leave open what the grammar does: a pair of brackets more in the
-- other writing, commas, and HZ
pub record LeavesOpen (f : Symbol → Bool) (R : ℕ → ℕ → Type 0) : Type 0 where
  pub wider : (a b : ℕ) → R a b → R a (one_if (f left_round) + (b + one_if (f right_round)))
  pub between : f comma ≡ false
  pub unit : f hz ≡ false

module _ (f : Symbol → Bool) (R : ℕ → ℕ → Type 0) (out : LeavesOpen f R) (same : (n : ℕ) → R n n)
    (sum : (a b c d : ℕ) → R a b → R c d → R (a + c) (b + d)) where
  moved : (a b c d : ℕ) → c ≡ a → d ≡ b → R a b → R c d
  moved a b c d e g r = subst (λ (k : ℕ). R k d) (sym e) (subst (R a) (sym g) r)

  -- a symbol, and then more
  then : (k a b : ℕ) → R a b → R (k + a) (k + b)
  then k a b r = sum k k a b (same k) r

  -- the insides between a first symbol and a last one, and what stands before them
  enclosed : (t : Symbol) (ts : List Printed) (s : List Symbol) → R (weight f (symbols ts)) (weight f s) →
      R (weight f (symbols (ts ++ Seen t ∷ []))) (weight f (s ++ t ∷ []))
  enclosed t ts s r =
      moved (weight f (symbols ts) + one_if (f t)) (weight f s + one_if (f t)) _ _
      (omega (arith, weight-printed f ts (Seen t ∷ []))) (omega (arith, weight-append f s (t ∷ [])))
      (sum (weight f (symbols ts)) (weight f s) (one_if (f t)) (one_if (f t)) r (same (one_if (f t))))

  joined : (ts us : List Printed) (a b : List Symbol) → R (weight f (symbols ts)) (weight f a) → R (weight f (symbols us)) (weight f b) →
      R (weight f (symbols (ts ++ us))) (weight f (a ++ b))
  joined ts us a b r q =
      moved (weight f (symbols ts) + weight f (symbols us)) (weight f a + weight f b) _ _ (weight-printed f ts us) (weight-append f a b)
      (sum (weight f (symbols ts)) (weight f a) (weight f (symbols us)) (weight f b) r q)

  ten : 10 ≤ 10
  ten = omega arith

  -- a pair of brackets around an expression: it is printed there, or it is one more
  around : (n : ℕ) (e : ExprTree) (s : List Symbol) → Stands n e →
      R (weight f (symbols (expr_tokens 10 e))) (weight f s) →
      R (weight f (symbols (expr_tokens n e))) (weight f (left_round ∷ (s ++ right_round ∷ [])))
  around n e s (plain is) r =
      moved _ _ _ _ (ap (λ v. weight f (symbols v)) is) (omega (arith, weight-append f s (right_round ∷ [])))
      (out.wider _ _ r)
  around n e s (looser is) r =
      moved _ _ _ _ (ap (λ v. weight f (symbols v)) is) refl
      (then (one_if (f left_round)) _ _ (enclosed right_round (expr_tokens 10 e) s r))

  mutual
    unfolding unary_symbol

    pub expr_kept : (m n : ℕ) (s : List Symbol) (e : ExprTree) → IsExpr m s e → m ≤ n →
        R (weight f (symbols (expr_tokens n e))) (weight f s)
    expr_kept _ n _ _ (of_unary {s = s} {e = e} d) le = unary_kept n s e d
    expr_kept _ n _ _ (tighter {n = m} {s = s} {e = e} d) le = expr_kept m n s e d (omega arith)
    expr_kept _ n _ _ (of_binary {n = m} {a = a} {b = b} {x = x} {y = y} op level left right) le =
        moved _ _ _ _ (ap (λ v. weight f (symbols v)) (sides_at n op x y (omega (arith, level)))) refl
        (joined (expr_tokens (level_of op) x) (Seen (operator op) ∷ expr_tokens (level_of op - 1) y) a (operator op ∷ b)
        (expr_kept (suc m) (level_of op) a x left (omega (arith, level)))
        (then (one_if (f (operator op))) _ _ (expr_kept m (level_of op - 1) b y right (omega (arith, level)))))

    pub unary_kept : (n : ℕ) (s : List Symbol) (e : ExprTree) → IsUnary s e → R (weight f (symbols (expr_tokens n e))) (weight f s)
    unary_kept n _ _ (negation {s = s} {e = e} d) = then (one_if (f (operator Subtract))) _ _ (unary_kept 0 s e d)
    unary_kept n _ _ (complement {s = s} {e = e} d) = then (one_if (f (mark marks.Tilde))) _ _ (unary_kept 0 s e d)
    unary_kept n _ _ (negated {s = s} {e = e} d) = then (one_if (f (mark marks.Exclamation))) _ _ (unary_kept 0 s e d)
    unary_kept n _ _ (of_primary {s = s} {e = e} d) = primary_kept n s e d

    pub primary_kept : (n : ℕ) (s : List Symbol) (e : ExprTree) → IsPrimary s e → R (weight f (symbols (expr_tokens n e))) (weight f s)
    primary_kept n _ _ of_number = same _
    primary_kept n _ _ (of_cell {s = s} {e = e} d) = cell_kept n s e d
    primary_kept n _ _ (of_brackets {s = s} {e = e} d) =
        around n e s (stands n e) (expr_kept 10 10 s e d ten)
    primary_kept n _ _ (of_abs {s = s} {e = e} d) = then _ _ _ (then _ _ _ (enclosed right_round (expr_tokens 10 e) s (expr_kept 10 10 s e d ten)))
    primary_kept n _ _ (of_array {s = s} {a = a} d) = then _ _ _ (then _ _ _ (enclosed right_round (array_tokens a) s (array_kept s a d)))

    pub cell_kept : (n : ℕ) (s : List Symbol) (e : ExprTree) → IsCell s e → R (weight f (symbols (expr_tokens n e))) (weight f s)
    cell_kept n _ _ of_scalar = same _
    cell_kept n _ _ (of_element {s = s} {e = e} d) = then _ _ _ (then _ _ _ (enclosed right_square (expr_tokens 10 e) s (expr_kept 10 10 s e d ten)))

    pub target_kept : (s : List Symbol) (a : ArrayTree) → IsTarget s a → R (weight f (symbols (array_tokens a))) (weight f s)
    target_kept _ _ of_whole = same _
    target_kept _ _ (of_range {a = a} {b = b} {x = x} {y = y} c d) = then _ _ _ (then _ _ _
        (joined (expr_tokens 10 x) (Seen dots ∷ (expr_tokens 10 y ++ Seen right_square ∷ [])) a (dots ∷ (b ++ right_square ∷ []))
        (expr_kept 10 10 a x c ten) (then _ _ _ (enclosed right_square (expr_tokens 10 y) b (expr_kept 10 10 b y d ten)))))

    pub array_kept : (s : List Symbol) (a : ArrayTree) → IsArray s a → R (weight f (symbols (array_tokens a))) (weight f s)
    array_kept _ _ of_literal = same _
    array_kept _ _ (of_target {s = s} {a = a} d) = target_kept s a d
    array_kept _ _ (of_expr {s = s} {e = e} d) = then _ _ _ (then _ _ _ (enclosed right_round (expr_tokens 10 e) s (expr_kept 10 10 s e d ten)))

  bit_kept : (s : List Symbol) (b : Bool) → IsBit s b → R (weight f (symbols (bit_tokens b))) (weight f s)
  bit_kept _ _ zero_bit = same _
  bit_kept _ _ one_bit = same _

  choice_kept : {s : List Symbol} {c : _} → IsChoice s c → R (weight f (symbols (choice_tokens c))) (weight f s)
  unfolding choice_tokens
  choice_kept optional_item = same _
  choice_kept recommended_item = same _

  print_part_kept : (s : List Symbol) (x : PartTree) → IsPrintPart s x → R (weight f (symbols (print_part_tokens x))) (weight f s)
  print_part_kept _ _ of_string = same _
  print_part_kept _ _ (of_value {s = s} {e = e} d) = expr_kept 10 10 s e d ten
  print_part_kept _ _ (of_character {s = s} {e = e} d) = then _ _ _ (then _ _ _ (enclosed right_round (expr_tokens 10 e) s (expr_kept 10 10 s e d ten)))

  export_kept : (s : List Symbol) (x : ExportTree) → IsExported s x → R (weight f (symbols (export_tokens x))) (weight f s)
  export_kept _ _ (of_exported_value {s = s} {e = e} d) = expr_kept 10 10 s e d ten
  export_kept _ _ (of_exported_array {s = s} {a = a} d) = array_kept s a d

  no_comma : one_if (f comma) ≡ 0
  no_comma = ap one_if out.between

  more_kept : (k : ℕ) (ks : List ℕ) (s r : List Symbol) → weight f r ≡ weight f s → R (weight f (symbols (states_tokens ks))) (weight f s) →
      R (weight f (symbols (states_tokens (k ∷ ks)))) (weight f (Plain (signs.State k) ∷ r))
  more_kept k [] s r e h = moved _ _ _ _ refl (ap (λ (n : ℕ). one_if (f (Plain (signs.State k))) + n) e) (then (one_if (f (Plain (signs.State k)))) _ _ h)
  more_kept k (j ∷ ks) s r e h =
      moved _ _ _ _ (omega (arith, no_comma)) (ap (λ (n : ℕ). one_if (f (Plain (signs.State k))) + n) e) (then (one_if (f (Plain (signs.State k)))) _ _ h)

  states_kept : (s : List Symbol) (ks : List ℕ) → AreStates s ks → R (weight f (symbols (states_tokens ks))) (weight f s)
  states_kept _ _ one_state = same _
  states_kept _ _ (more_states {k = k} {s = s} {ks = ks} d) = more_kept k ks s s refl (states_kept s ks d)
  states_kept _ _ (more_after_comma {k = k} {s = s} {ks = ks} d) = more_kept k ks s (comma ∷ s) (omega (arith, no_comma)) (states_kept s ks d)

  separated_kept : {A : Type 0} (P : A → List Symbol → Type 0) (write : A → List Printed) (t : Symbol) →
      ((x : A) (s : List Symbol) → P x s → R (weight f (symbols (write x))) (weight f s)) →
      (xs : List A) (s : List Symbol) → Separated P t xs s → R (weight f (symbols (separated_tokens write (Seen t) xs))) (weight f s)
  separated_kept P write t each [] s is = absurd is
  separated_kept P write t each (x ∷ []) s is = each x s is
  separated_kept P write t each (x ∷ y ∷ ys) s is =
      moved _ _ _ _ refl (ap (weight f) is.2)
      (joined (write x) (Seen t ∷ separated_tokens write (Seen t) (y ∷ ys)) is.0 (t ∷ is.1) (each x is.0 is.3)
      (then _ _ _ (separated_kept P write t each (y ∷ ys) is.1 is.4)))

  -- what is asked of the initial values in a part
  abbrev pub KeepsSigned : {A : Type 0} → Part A → Type 0
  KeepsSigned a_signed = (s : List Symbol) (z : ℤ) → IsSigned s z → R (weight f (symbols (signed_tokens z))) (weight f s)
  KeepsSigned (after t p) = KeepsSigned p
  KeepsSigned (before p t) = KeepsSigned p
  KeepsSigned (maybe_hz p) = KeepsSigned p
  KeepsSigned (both p q) = KeepsSigned p × KeepsSigned q
  KeepsSigned (maybe p) = KeepsSigned p
  KeepsSigned (either p q) = KeepsSigned p × KeepsSigned q
  KeepsSigned (listed t p) = KeepsSigned p
  KeepsSigned _ = Unit {0}

  no_unit : one_if (f hz) ≡ 0
  no_unit = ap one_if out.unit

  pub part_kept : {A : Type 0} (p : Part A) (x : A) (s : List Symbol) → KeepsSigned p → IsPart p x s → R (weight f (symbols (part_tokens p x))) (weight f s)
  part_kept a_name v s k is = moved _ _ _ _ refl (ap (weight f) is) (same _)
  part_kept a_state v s k is = moved _ _ _ _ refl (ap (weight f) is) (same _)
  part_kept a_number v s k is = moved _ _ _ _ refl (ap (weight f) is) (same _)
  part_kept a_signed z s k is = k s z is
  part_kept a_bit b s k is = bit_kept s b is
  part_kept a_text v s k is = moved _ _ _ _ refl (ap (weight f) is) (same _)
  part_kept a_literal v s k is = moved _ _ _ _ refl (ap (weight f) is) (same _)
  part_kept a_check_word v s k is = moved _ _ _ _ refl (ap (weight f) is) (same _)
  part_kept a_choice c s k is = choice_kept is
  part_kept an_expr e s k is = expr_kept 10 10 s e is ten
  part_kept an_array a s k is = array_kept s a is
  part_kept a_cell e s k is = cell_kept 10 s e is
  part_kept a_target a s k is = target_kept s a is
  part_kept a_print_part x s k is = print_part_kept s x is
  part_kept an_export x s k is = export_kept s x is
  part_kept some_states ks s k is = states_kept s ks is
  part_kept (after t p) x s k is = moved _ _ _ _ refl (ap (weight f) is.1) (then (one_if (f t)) _ _ (part_kept p x is.0 k is.2))
  part_kept (before p t) x s k is = moved _ _ _ _ refl (ap (weight f) is.1) (enclosed t (part_tokens p x) is.0 (part_kept p x is.0 k is.2))
  part_kept (maybe_hz p) x s k (inl is) =
      moved _ _ _ _ (omega (arith, weight-printed f (part_tokens p x) (Seen hz ∷ []), no_unit)) refl (part_kept p x s k is)
  part_kept (maybe_hz p) x s k (inr is) = moved _ _ _ _ refl (ap (weight f) is.1) (enclosed hz (part_tokens p x) is.0 (part_kept p x is.0 k is.2))
  part_kept (both p q) x s k is =
      moved _ _ _ _ refl (ap (weight f) is.2)
      (joined (part_tokens p x.0) (part_tokens q x.1) is.0 is.1 (part_kept p x.0 is.0 k.0 is.3) (part_kept q x.1 is.1 k.1 is.4))
  part_kept (maybe p) None s k is = moved _ _ _ _ refl (ap (weight f) is) (same _)
  part_kept (maybe p) (Some x) s k is = part_kept p x s k is
  part_kept (either p q) (inl x) s k is = part_kept p x s k.0 is
  part_kept (either p q) (inr y) s k is = part_kept q y s k.1 is
  part_kept (listed t p) xs s k is = separated_kept (IsPart p) (part_tokens p) t (λ x s is. part_kept p x s k is) xs s is

  pub keeps : {A : Type 0} (p : Part A) → signless p ≡ true → KeepsSigned p
  keeps a_name e = tt
  keeps a_state e = tt
  keeps a_number e = tt
  keeps a_signed e = absurd cc
  keeps a_bit e = tt
  keeps a_text e = tt
  keeps a_literal e = tt
  keeps a_check_word e = tt
  keeps a_choice e = tt
  keeps an_expr e = tt
  keeps an_array e = tt
  keeps a_cell e = tt
  keeps a_target e = tt
  keeps a_print_part e = tt
  keeps an_export e = tt
  keeps some_states e = tt
  keeps (after t p) e = keeps p e
  keeps (before p t) e = keeps p e
  keeps (maybe_hz p) e = keeps p e
  keeps (both p q) e = let c = and_parts (signless p) (signless q) e in (keeps p c.0, keeps q c.1)
  keeps (maybe p) e = keeps p e
  keeps (either p q) e = let c = and_parts (signless p) (signless q) e in (keeps p c.0, keeps q c.1)
  keeps (listed t p) e = keeps p e

  -- what is asked of initial values, where a statement has them
  abbrev pub NeedsSigned : BodyTree → Type 0
  NeedsSigned (integer v z) = KeepsSigned a_signed
  NeedsSigned (integer_array v n zs) = KeepsSigned a_signed
  NeedsSigned (if_then e b) = NeedsSigned b
  NeedsSigned _ = Unit {0}

  by_part : {A : Type 0} (p : Part A) → signless p ≡ true → (x : A) (s : List Symbol) → IsPart p x s → R (weight f (symbols (part_tokens p x))) (weight f s)
  by_part p e x s is = part_kept p x s (keeps p e) is

  pub body_kept : (s : List Symbol) (b : BodyTree) → NeedsSigned b → IsBody s b → R (weight f (symbols (body_tokens b))) (weight f s)
  body_kept s (note key text) q is = by_part (after (outer outer_words.Note) note_part) refl (key, text) s is
  body_kept s (action v text items) q is = by_part (after (outer outer_words.Action) action_part) refl (v, (text, items)) s is
  body_kept s (procedure v uses) q is = by_part (after (outer outer_words.Procedure) procedure_part) refl (v, uses) s is
  body_kept s (data_block v) q is = by_part (after (outer outer_words.Data) a_name) refl v s is
  body_kept s end_data q is = moved _ _ _ _ refl (ap (weight f) is) (same _)
  body_kept s (crc n) q is = by_part (after (outer outer_words.Crc) a_check_word) refl n s is
  body_kept s end_procedure q is = moved _ _ _ _ refl (ap (weight f) is) (same _)
  body_kept s (boolean v start) q is = by_part (after (inner inner_words.Boolean) (both a_name bit_part)) refl (v, start) s is
  body_kept s (boolean_array v n bits) q is = by_part (after (inner inner_words.Boolean) (both a_name (both size_part bits_part))) refl (v, (n, bits)) s is
  body_kept s (integer v start) q is = part_kept (after (inner inner_words.Integer) (both a_name signed_part)) (v, start) s (tt, q) is
  body_kept s (integer_array v n start) q is = part_kept (after (inner inner_words.Integer) (both a_name (both size_part signed_list_part))) (v, (n, start)) s (tt, (tt, q)) is
  body_kept s (assign v e) q is = by_part (both a_name (after equals an_expr)) refl (v, e) s is
  body_kept s (assign_element v i e) q is = by_part (both a_name (after left_square (both an_expr (after right_square (after equals an_expr))))) refl (v, (i, e)) s is
  body_kept s (assign_array v a) q is = by_part (both a_name (after left_square (after right_square (after equals an_array)))) refl (v, a) s is
  body_kept s (assign_range v h l a) q is = by_part (both a_name (after left_square (both an_expr (after dots (both an_expr (after right_square (after equals an_array))))))) refl (v, (h, (l, a))) s is
  body_kept s (call v) q is = by_part (after (simple simple_words.Call) a_name) refl v s is
  body_kept s (goto v) q is = by_part (after (simple simple_words.Goto) a_name) refl v s is
  body_kept s (if_then e b) q is =
      moved _ _ _ _ refl (ap (weight f) is.2)
      (then (one_if (f if_word)) _ _ (joined (expr_tokens 10 e) (Seen (join joins.Then) ∷ body_tokens b) is.0 (join joins.Then ∷ is.1)
      (expr_kept 10 10 is.0 e is.3 ten) (then (one_if (f (join joins.Then))) _ _ (body_kept is.1 b q is.6))))
  body_kept s (for_loop v a b c) q is = by_part (after (simple simple_words.For) for_part) refl (v, (a, (b, c))) s is
  body_kept s (next v) q is = by_part (after (simple simple_words.Next) a_name) refl v s is
  body_kept s (push e) q is = by_part (after (simple simple_words.Push) an_expr) refl e s is
  body_kept s (pop e) q is = by_part (after (simple simple_words.Pop) a_cell) refl e s is
  body_kept s (print parts) q is = by_part (after (simple simple_words.Print) print_part) refl parts s is
  body_kept s (export key x) q is = by_part (after (simple simple_words.Export) export_part) refl (key, x) s is
  body_kept s (exit e) q is = by_part (after (simple simple_words.Exit) an_expr) refl e s is
  body_kept s (scan k e a t c) q is = by_part (after (port (port_words.Scan k)) scan_part) refl (e, (a, (t, c))) s is
  body_kept s (stop k state) q is = by_part (after (port (port_words.Stop k)) a_state) refl state s is
  body_kept s (pad k e a) q is = by_part (after (port (port_words.Pad k)) pad_part) refl (e, a) s is
  body_kept s (state_list states) q is = by_part (after (port port_words.State) some_states) refl states s is
  body_kept s (wait_cycles k e u l) q is = by_part (after (port port_words.Wait) (both first_part (both an_expr (after (join joins.Cycles) (both usec_part last_part))))) refl (k, (e, (u, l))) s is
  body_kept s (wait_usec k e l) q is = by_part (after (port port_words.Wait) (both first_part (both an_expr (after (join joins.Usec) last_part)))) refl (k, (e, l)) s is
  body_kept s (frequency e) q is = by_part (after (port port_words.Frequency) frequency_part) refl e s is

  labelled_kept : (s : List Symbol) (label : Option (List ℕ)) (b : BodyTree) → NeedsSigned b → IsLabelled s label b →
      R (weight f (symbols (label_tokens label ++ body_tokens b))) (weight f s)
  labelled_kept s None b k is = body_kept s b k is
  labelled_kept s (Some v) b k is = moved _ _ _ _ refl (ap (weight f) is.1) (then _ _ _ (then _ _ _ (body_kept is.0 b k is.3)))

  pub means_kept : (s : List Symbol) (st : StmtTree) → NeedsSigned st.body → Means s st → R (weight f (symbols (stmt_tokens st))) (weight f s)
  means_kept s st k is = labelled_kept s st.label st.body k is
