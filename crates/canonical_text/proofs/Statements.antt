-- The tokens that are printed for a statement mean it by the grammar.
use Rattle.std.proofs.Common.{◌≡◌, ℕ, ℤ, pos, negsuc, ◌-◌, ◌^◌, ◌%◌, ◌<◌, Bool, true, false, ◌&&◌, List, [], ◌∷◌, ◌++◌, Option, Some, None, inl, inr, refl, sym, ap, subst, ◌∙◌, arith}
use Rattle.std.specs.Int.{w32, int_wrapping_neg, cast_signed, cast_unsigned}
use Rattle.std.specs.Int.RustNames.{FitsSigned}
use Rattle.std.specs.List.{AllByRecursion}
use Rattle.std.proofs.lemmas.Bool.{and_parts}
use Rattle.std.proofs.lemmas.Int.{to_z-of_z, of_z-to_z}
use Rattle.std.proofs.Math.Facts.{Fits-of_z}
use Rattle.stapl_lexer.specs.declared.terminal.Function.TheVariants as functions
use Rattle.stapl_lexer.specs.declared.terminal.JoinWord.TheVariants as joins
use Rattle.stapl_lexer.specs.declared.terminal.InnerWord.TheVariants as inner_words
use Rattle.stapl_lexer.specs.declared.terminal.OuterWord.TheVariants as outer_words
use Rattle.stapl_lexer.specs.declared.terminal.PortWord.TheVariants as port_words
use Rattle.stapl_lexer.specs.declared.terminal.SimpleWord.TheVariants as simple_words
use Rattle.stapl_syntax.specs.declared.statement.ItemChoice.{ItemChoice}
use Rattle.stapl_syntax.specs.declared.statement.ItemChoice.TheVariants as choices
use Rattle.stapl_syntax.specs.Symbols.{Symbol}
use Rattle.stapl_syntax.specs.Trees.{ExprTree, element, ArrayTree, range, PartTree, string, value, character, ExportTree, exported_value, exported_array}
use Rattle.stapl_syntax.specs.Trees.{BodyTree, note, action, procedure, data_block, end_data, crc, end_procedure, boolean, boolean_array, integer}
use Rattle.stapl_syntax.specs.Trees.{integer_array, assign, assign_element, assign_array, assign_range, call, goto, if_then, for_loop, next, push, pop, print}
use Rattle.stapl_syntax.specs.Trees.{export, exit, scan, stop, pad, state_list, wait_cycles, wait_usec, frequency, StmtTree}
use Rattle.stapl_syntax.specs.Expressions.{function, name, left_round, right_round, left_square, right_square, dots, IsCell, of_scalar, of_element, IsTarget, of_whole, of_range}
use Rattle.stapl_syntax.specs.Parts.{IsSigned, unsigned, minus, IsBit, zero_bit, one_bit, IsChoice, optional_item, recommended_item, IsPrintPart, of_string}
use Rattle.stapl_syntax.specs.Parts.{of_value, of_character, IsExported, of_exported_value, of_exported_array, AreStates, one_state, more_after_comma, Part}
use Rattle.stapl_syntax.specs.Parts.{a_name, a_state, a_number, a_signed, a_bit, a_text, a_literal, a_check_word, a_choice, an_expr, an_array, a_cell}
use Rattle.stapl_syntax.specs.Parts.{a_target, a_print_part, an_export, some_states, after, before, maybe_hz, both, maybe, either, listed, Separated, IsPart}
use Rattle.stapl_syntax.specs.Parts.{hz, equals, join, note_part, action_part, procedure_part, size_part, bit_part, bits_part, signed_part, signed_list_part}
use Rattle.stapl_syntax.specs.Parts.{for_part, print_part, export_part, scan_part, pad_part, last_part, usec_part, first_part, frequency_part}
use Rattle.stapl_syntax.specs.Statements.{outer, inner, simple, if_word, port, IsBody, IsLabelled, Means}
use Rattle.canonical_text.specs.PrintedTokens.{Printed, Seen, unary_symbol}
use Rattle.canonical_text.specs.PrintedStatements.{expr_tokens, array_tokens, signed_tokens, bit_tokens, choice_tokens, print_part_tokens, export_tokens}
use Rattle.canonical_text.specs.PrintedStatements.{separated_tokens, states_tokens, part_tokens, body_tokens, label_tokens, stmt_tokens}
use Rattle.canonical_text.specs.InitialValues.{HoldsValues, HoldsInitialValues}
use Rattle.canonical_text.proofs.Grammar.{symbols, symbols-append, expr_is, array_is}

-- ---- leaves

-- the wrapped negation of a wrapped negation
twice : (z : ℤ) → FitsSigned w32 z → int_wrapping_neg w32 (int_wrapping_neg w32 z) ≡ z
twice z fits =
    let u : ℕ = cast_unsigned w32 z in
    let below : u < 2 ^ 32 = (Fits-of_z fits).fits in
    let once : (2 ^ 32 - u) % 2 ^ 32 < 2 ^ 32 = omega arith in
    let back : (2 ^ 32 - (2 ^ 32 - u) % 2 ^ 32) % 2 ^ 32 ≡ u = omega arith in
    ap (λ (n : ℕ). cast_signed w32 ((2 ^ 32 - n) % 2 ^ 32)) (of_z-to_z w32 ((2 ^ 32 - u) % 2 ^ 32) once)
    ∙ ap (cast_signed w32) back ∙ to_z-of_z w32 z fits

signed_is : (z : ℤ) → FitsSigned w32 z → IsSigned (symbols (signed_tokens z)) z
unfolding unary_symbol
signed_is (pos n) fits = unsigned
signed_is (negsuc n) fits = subst (IsSigned (symbols (signed_tokens (negsuc n)))) (twice (negsuc n) fits) minus

bit_is : (bit : Bool) → IsBit (symbols (bit_tokens bit)) bit
bit_is false = zero_bit
bit_is true = one_bit

choice_is : (c : ItemChoice) → IsChoice (symbols (choice_tokens c)) c
unfolding choice_tokens
choice_is choices.Optional = optional_item
choice_is choices.Recommended = recommended_item

cell_is : (s : List Symbol) (e : ExprTree) → IsCell s e → IsCell (symbols (expr_tokens 10 e)) e
cell_is _ _ of_scalar = of_scalar
cell_is _ _ (of_element {v = v} {e = e} d) =
    subst (λ (s : List Symbol). IsCell (name v ∷ left_square ∷ s) (element v e))
    (sym (symbols-append (expr_tokens 10 e) (Seen right_square ∷ []))) (of_element (expr_is 10 e))

target_is : (s : List Symbol) (a : ArrayTree) → IsTarget s a → IsTarget (symbols (array_tokens a)) a
target_is _ _ of_whole = of_whole
target_is _ _ (of_range {v = v} {x = h} {y = l} c d) =
    subst (λ (s : List Symbol). IsTarget (name v ∷ left_square ∷ s) (range v h l))
    (sym (symbols-append (expr_tokens 10 h) (Seen dots ∷ (expr_tokens 10 l ++ Seen right_square ∷ []))
    ∙ ap (λ (s : List Symbol). symbols (expr_tokens 10 h) ++ (dots ∷ s)) (symbols-append (expr_tokens 10 l) (Seen right_square ∷ []))))
    (of_range (expr_is 10 h) (expr_is 10 l))

print_part_is : (x : PartTree) → IsPrintPart (symbols (print_part_tokens x)) x
print_part_is (string bytes) = of_string
print_part_is (value e) = of_value (expr_is 10 e)
print_part_is (character e) =
    subst (λ (s : List Symbol). IsPrintPart (function functions.Character ∷ left_round ∷ s) (character e))
    (sym (symbols-append (expr_tokens 10 e) (Seen right_round ∷ []))) (of_character (expr_is 10 e))

export_is : (x : ExportTree) → IsExported (symbols (export_tokens x)) x
export_is (exported_value e) = of_exported_value (expr_is 10 e)
export_is (exported_array a) = of_exported_array (array_is a)

states_are : (s : List Symbol) (ks : List ℕ) → AreStates s ks → AreStates (symbols (states_tokens ks)) ks
states_are s [] d = none d
  where
    none : {s : List Symbol} → AreStates s [] → AreStates (symbols (states_tokens [])) []
    none d = elim d [ ]
states_are s (k ∷ []) d = one_state
states_are s (k ∷ j ∷ ks) d = more_after_comma (later j ks)
  where
    later : (j : ℕ) (ks : List ℕ) → AreStates (symbols (states_tokens (j ∷ ks))) (j ∷ ks)
    later j [] = one_state
    later j (i ∷ ks) = more_after_comma (later i ks)

separated_are : {A : Type 0} (P : A → List Symbol → Type 0) (Q : A → Type 0) (write : A → List Printed) (t : Symbol) →
    ((x : A) (s : List Symbol) → P x s → Q x → P x (symbols (write x))) →
    (xs : List A) (s : List Symbol) → Separated P t xs s → AllByRecursion Q xs → Separated P t xs (symbols (separated_tokens write (Seen t) xs))
separated_are P Q write t each [] s is all = is
separated_are P Q write t each (x ∷ []) s is all = each x s is all.0
separated_are P Q write t each (x ∷ y ∷ ys) s is all = (
  symbols (write x),
  symbols (separated_tokens write (Seen t) (y ∷ ys)),
  symbols-append (write x) (Seen t ∷ separated_tokens write (Seen t) (y ∷ ys)),
  each x is.0 is.3 all.0,
  separated_are P Q write t each (y ∷ ys) is.1 is.4 all.1,
)

-- ---- parts

pub part_is : {A : Type 0} (p : Part A) (x : A) (s : List Symbol) → IsPart p x s → HoldsValues p x → IsPart p x (symbols (part_tokens p x))
part_is a_name v s is holds = refl
part_is a_state k s is holds = refl
part_is a_number z s is holds = refl
part_is a_signed z s is holds = signed_is z holds
part_is a_bit bit s is holds = bit_is bit
part_is a_text bytes s is holds = refl
part_is a_literal bits s is holds = refl
part_is a_check_word n s is holds = refl
part_is a_choice c s is holds = choice_is c
part_is an_expr e s is holds = expr_is 10 e
part_is an_array a s is holds = array_is a
part_is a_cell e s is holds = cell_is s e is
part_is a_target a s is holds = target_is s a is
part_is a_print_part x s is holds = print_part_is x
part_is an_export x s is holds = export_is x
part_is some_states ks s is holds = states_are s ks is
part_is (after t p) x s is holds = (symbols (part_tokens p x), refl, part_is p x is.0 is.2 holds)
part_is (before p t) x s is holds =
    (symbols (part_tokens p x), symbols-append (part_tokens p x) (Seen t ∷ []), part_is p x is.0 is.2 holds)
part_is (maybe_hz p) x s (inl is) holds =
    inr (symbols (part_tokens p x), symbols-append (part_tokens p x) (Seen hz ∷ []), part_is p x s is holds)
part_is (maybe_hz p) x s (inr is) holds =
    inr (symbols (part_tokens p x), symbols-append (part_tokens p x) (Seen hz ∷ []), part_is p x is.0 is.2 holds)
part_is (both p q) x s is holds = (
  symbols (part_tokens p x.0),
  symbols (part_tokens q x.1),
  symbols-append (part_tokens p x.0) (part_tokens q x.1),
  part_is p x.0 is.0 is.3 holds.0,
  part_is q x.1 is.1 is.4 holds.1,
)
part_is (maybe p) None s is holds = refl
part_is (maybe p) (Some x) s is holds = part_is p x s is holds
part_is (either p q) (inl x) s is holds = part_is p x s is holds
part_is (either p q) (inr y) s is holds = part_is q y s is holds
part_is (listed t p) xs s is holds =
    separated_are (IsPart p) (HoldsValues p) (part_tokens p) t (λ x s is holds. part_is p x s is holds) xs s is holds

-- ---- statements

signed_start : (z : Option ℤ) (v : List ℕ) → HoldsInitialValues (integer v z) → HoldsValues signed_part z
signed_start None v holds = tt
signed_start (Some z) v holds = holds

signed_starts : (zs : Option (List ℤ)) (v : List ℕ) (n : ℤ) → HoldsInitialValues (integer_array v n zs) → HoldsValues signed_list_part zs
signed_starts None v n holds = tt
signed_starts (Some zs) v n holds = holds

-- no initial value stands in a part
abbrev pub signless : {A : Type 0} → Part A → Bool
signless a_signed = false
signless (after t p) = signless p
signless (before p t) = signless p
signless (maybe_hz p) = signless p
signless (both p q) = signless p && signless q
signless (maybe p) = signless p
signless (either p q) = signless p && signless q
signless (listed t p) = signless p
signless _ = true

all_held : {A : Type 0} (P : A → Type 0) → ((x : A) → P x) → (xs : List A) → AllByRecursion P xs
all_held P each [] = tt
all_held P each (x ∷ xs) = (each x, all_held P each xs)

pub held : {A : Type 0} (p : Part A) → signless p ≡ true → (x : A) → HoldsValues p x
held a_name e x = tt
held a_state e x = tt
held a_number e x = tt
held a_signed e x = absurd cc
held a_bit e x = tt
held a_text e x = tt
held a_literal e x = tt
held a_check_word e x = tt
held a_choice e x = tt
held an_expr e x = tt
held an_array e x = tt
held a_cell e x = tt
held a_target e x = tt
held a_print_part e x = tt
held an_export e x = tt
held some_states e x = tt
held (after t p) e x = held p e x
held (before p t) e x = held p e x
held (maybe_hz p) e x = held p e x
held (both p q) e x = let c = and_parts (signless p) (signless q) e in (held p c.0 x.0, held q c.1 x.1)
held (maybe p) e None = tt
held (maybe p) e (Some x) = held p e x
held (either p q) e (inl x) = held p (and_parts (signless p) (signless q) e).0 x
held (either p q) e (inr y) = held q (and_parts (signless p) (signless q) e).1 y
held (listed t p) e xs = all_held (HoldsValues p) (held p e) xs

-- a statement whose production holds no initial value
by_part : {A : Type 0} (p : Part A) → signless p ≡ true → (x : A) (s : List Symbol) → IsPart p x s → IsPart p x (symbols (part_tokens p x))
by_part p e x s is = part_is p x s is (held p e x)

pub body_is : (s : List Symbol) (b : BodyTree) → IsBody s b → HoldsInitialValues b → IsBody (symbols (body_tokens b)) b
body_is s (note key text) is holds = by_part (after (outer outer_words.Note) note_part) refl (key, text) s is
body_is s (action v text items) is holds = by_part (after (outer outer_words.Action) action_part) refl (v, (text, items)) s is
body_is s (procedure v uses) is holds = by_part (after (outer outer_words.Procedure) procedure_part) refl (v, uses) s is
body_is s (data_block v) is holds = by_part (after (outer outer_words.Data) a_name) refl v s is
body_is s end_data is holds = refl
body_is s (crc n) is holds = by_part (after (outer outer_words.Crc) a_check_word) refl n s is
body_is s end_procedure is holds = refl
body_is s (boolean v start) is holds = by_part (after (inner inner_words.Boolean) (both a_name bit_part)) refl (v, start) s is
body_is s (boolean_array v n bits) is holds = by_part (after (inner inner_words.Boolean) (both a_name (both size_part bits_part))) refl (v, (n, bits)) s is
body_is s (integer v start) is holds = part_is (after (inner inner_words.Integer) (both a_name signed_part)) (v, start) s is (tt, signed_start start v holds)
body_is s (integer_array v n start) is holds =
    part_is (after (inner inner_words.Integer) (both a_name (both size_part signed_list_part))) (v, (n, start)) s is (tt, (tt, signed_starts start v n holds))
body_is s (assign v e) is holds = by_part (both a_name (after equals an_expr)) refl (v, e) s is
body_is s (assign_element v i e) is holds = by_part (both a_name (after left_square (both an_expr (after right_square (after equals an_expr))))) refl (v, (i, e)) s is
body_is s (assign_array v a) is holds = by_part (both a_name (after left_square (after right_square (after equals an_array)))) refl (v, a) s is
body_is s (assign_range v h l a) is holds = by_part (both a_name (after left_square (both an_expr (after dots (both an_expr (after right_square (after equals an_array))))))) refl (v, (h, (l, a))) s is
body_is s (call v) is holds = by_part (after (simple simple_words.Call) a_name) refl v s is
body_is s (goto v) is holds = by_part (after (simple simple_words.Goto) a_name) refl v s is
body_is s (if_then e b) is holds = (
  symbols (expr_tokens 10 e),
  symbols (body_tokens b),
  ap (λ (r : List Symbol). if_word ∷ r) (symbols-append (expr_tokens 10 e) (Seen (join joins.Then) ∷ body_tokens b)),
  expr_is 10 e,
  is.4,
  is.5,
  body_is is.1 b is.6 holds,
)
body_is s (for_loop v a b c) is holds = by_part (after (simple simple_words.For) for_part) refl (v, (a, (b, c))) s is
body_is s (next v) is holds = by_part (after (simple simple_words.Next) a_name) refl v s is
body_is s (push e) is holds = by_part (after (simple simple_words.Push) an_expr) refl e s is
body_is s (pop e) is holds = by_part (after (simple simple_words.Pop) a_cell) refl e s is
body_is s (print parts) is holds = by_part (after (simple simple_words.Print) print_part) refl parts s is
body_is s (export key x) is holds = by_part (after (simple simple_words.Export) export_part) refl (key, x) s is
body_is s (exit e) is holds = by_part (after (simple simple_words.Exit) an_expr) refl e s is
body_is s (scan k e a t c) is holds = by_part (after (port (port_words.Scan k)) scan_part) refl (e, (a, (t, c))) s is
body_is s (stop k state) is holds = by_part (after (port (port_words.Stop k)) a_state) refl state s is
body_is s (pad k e a) is holds = by_part (after (port (port_words.Pad k)) pad_part) refl (e, a) s is
body_is s (state_list states) is holds = by_part (after (port port_words.State) some_states) refl states s is
body_is s (wait_cycles k e u l) is holds = by_part (after (port port_words.Wait) (both first_part (both an_expr (after (join joins.Cycles) (both usec_part last_part))))) refl (k, (e, (u, l))) s is
body_is s (wait_usec k e l) is holds = by_part (after (port port_words.Wait) (both first_part (both an_expr (after (join joins.Usec) last_part)))) refl (k, (e, l)) s is
body_is s (frequency e) is holds = by_part (after (port port_words.Frequency) frequency_part) refl e s is

labelled_is : (s : List Symbol) (label : Option (List ℕ)) (b : BodyTree) → IsLabelled s label b → HoldsInitialValues b →
    IsLabelled (symbols (label_tokens label ++ body_tokens b)) label b
labelled_is s None b is holds = body_is s b is holds
labelled_is s (Some v) b is holds = (symbols (body_tokens b), refl, is.2, body_is is.0 b is.3 holds)

-- what means a statement is printed as tokens that mean it
pub printed_means : (s : List Symbol) (st : StmtTree) → Means s st → HoldsInitialValues st.body → Means (symbols (stmt_tokens st)) st
printed_means s st is holds = labelled_is s st.label st.body is holds
