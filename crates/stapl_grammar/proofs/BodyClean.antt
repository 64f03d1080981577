-- A statement of the grammar has no reason: no word of it is left out, and it begins as a statement.
use Rattle.std.proofs.Common.{◌≡◌, ℕ, ℤ, Bool, true, false, List, [], ◌∷◌, ◌++◌, Option, Some, None, inl, inr, refl, ap, ◌∙◌}
use Rattle.std.specs.Prelude.{◌⊎◌, ◌||◌}
use Rattle.stapl_syntax.specs.declared.signs.Sign.TheVariants as signs
use Rattle.stapl_syntax.specs.declared.statement.ItemChoice.{ItemChoice}
use Rattle.stapl_lexer.specs.declared.terminal.JoinWord.TheVariants as joins
use Rattle.stapl_syntax.specs.Symbols.{Symbol, Plain, sign_of}
use Rattle.stapl_syntax.specs.Trees.{ExprTree, ArrayTree, PartTree, ExportTree, BodyTree, note, action, procedure, data_block, end_data, crc, end_procedure, boolean, boolean_array, integer, integer_array, assign, assign_element, assign_array, assign_range, call, goto, if_then, for_loop, next, push, pop, print, export, exit, scan, stop, pad, state_list, wait_cycles, wait_usec, frequency}
use Rattle.stapl_syntax.specs.Expressions.{left_square, right_round, right_square, operator, dots, IsExpr, IsUnary, IsPrimary, IsCell, IsTarget, IsArray, of_unary, negation, complement, negated, tighter, of_binary, of_primary, of_number, of_cell, of_scalar, of_element, of_brackets, of_abs, of_array, of_literal, of_target, of_whole, of_range, of_expr}
use Rattle.stapl_syntax.specs.Parts.{Part, IsPart, Separated, hz, a_name, a_state, a_number, a_signed, a_bit, a_text, a_literal, a_check_word, a_choice, an_expr, an_array, a_cell, a_target, a_print_part, an_export, some_states, after, before, maybe_hz, both, maybe, either, listed, IsSigned, unsigned, minus, IsBit, zero_bit, one_bit, IsChoice, optional_item, recommended_item, IsPrintPart, of_string, of_value, of_character, IsExported, of_exported_value, of_exported_array, AreStates, one_state, more_states, more_after_comma, equals, join, note_part, action_part, procedure_part, for_part, print_part, export_part, scan_part, pad_part, frequency_part}
use Rattle.stapl_syntax.specs.Statements.{IsBody, IsLabelled}
use Rattle.stapl_syntax.specs.Reasons.{begins_statement, is_assign_sign, after_label, is_unknown, is_left_out, holds_left_out}
use Rattle.stapl_grammar.specs.BodyReading.{boolean_part, integer_part, assign_part, wait_part}
use Rattle.stapl_grammar.proofs.BodyComplete.{body_label}
use Rattle.stapl_grammar.proofs.ListLaws.{IsSign}
use Rattle.stapl_grammar.proofs.ReasonSteps.{after_is}
use Rattle.stapl_grammar.proofs.PartLaws.{IsApart}
use Rattle.stapl_grammar.proofs.ApartLaws.{note_apart, action_apart, procedure_apart, boolean_apart, integer_apart, assign_apart, for_apart, print_apart, export_apart, scan_apart, pad_apart, wait_apart, frequency_apart}

-- no word of the symbols is left out
abbrev pub IsClean : List Symbol → Type 0
IsClean s = holds_left_out s ≡ false

clean_append : (a b : List Symbol) → IsClean a → IsClean b → IsClean (a ++ b)
clean_append [] b ca cb = cb
clean_append (t ∷ a) b ca cb = clean_head (is_left_out (sign_of t)) (holds_left_out a) (holds_left_out (a ++ b)) ca (λ rest. clean_append a b rest cb)
  where
    clean_head : (first rest all : Bool) → (first || rest) ≡ false → (rest ≡ false → all ≡ false) → (first || all) ≡ false
    clean_head true rest all e more = e
    clean_head false rest all e more = more e

mutual
  unfolding is_left_out

  expr_clean : {n : ℕ} {s : List Symbol} {e : ExprTree} → IsExpr n s e → IsClean s
  expr_clean (of_unary m) = unary_clean m
  expr_clean (tighter m) = expr_clean m
  expr_clean (of_binary {a = a} {b = b} op level left right) = clean_append a (operator op ∷ b) (expr_clean left) (expr_clean right)

  unary_clean : {s : List Symbol} {e : ExprTree} → IsUnary s e → IsClean s
  unary_clean (negation m) = unary_clean m
  unary_clean (complement m) = unary_clean m
  unary_clean (negated m) = unary_clean m
  unary_clean (of_primary m) = primary_clean m

  primary_clean : {s : List Symbol} {e : ExprTree} → IsPrimary s e → IsClean s
  primary_clean of_number = refl
  primary_clean (of_cell m) = cell_clean m
  primary_clean (of_brackets {s = s} m) = clean_append s (right_round ∷ []) (expr_clean m) refl
  primary_clean (of_abs {s = s} m) = clean_append s (right_round ∷ []) (expr_clean m) refl
  primary_clean (of_array {s = s} m) = clean_append s (right_round ∷ []) (array_clean m) refl

  cell_clean : {s : List Symbol} {e : ExprTree} → IsCell s e → IsClean s
  cell_clean of_scalar = refl
  cell_clean (of_element {s = s} m) = clean_append s (right_square ∷ []) (expr_clean m) refl

  target_clean : {s : List Symbol} {a : ArrayTree} → IsTarget s a → IsClean s
  target_clean of_whole = refl
  target_clean (of_range {a = a} {b = b} h l) = clean_append a (dots ∷ (b ++ right_square ∷ [])) (expr_clean h) (clean_append b (right_square ∷ []) (expr_clean l) refl)

  array_clean : {s : List Symbol} {a : ArrayTree} → IsArray s a → IsClean s
  array_clean of_literal = refl
  array_clean (of_target m) = target_clean m
  array_clean (of_expr {s = s} m) = clean_append s (right_round ∷ []) (expr_clean m) refl

signed_clean : {s : List Symbol} {z : ℤ} → IsSigned s z → IsClean s
unfolding is_left_out
signed_clean unsigned = refl
signed_clean minus = refl

bit_clean : {s : List Symbol} {bit : Bool} → IsBit s bit → IsClean s
unfolding is_left_out
bit_clean zero_bit = refl
bit_clean one_bit = refl

choice_clean : {s : List Symbol} {c : ItemChoice} → IsChoice s c → IsClean s
unfolding is_left_out
choice_clean optional_item = refl
choice_clean recommended_item = refl

print_part_clean : {s : List Symbol} {p : PartTree} → IsPrintPart s p → IsClean s
unfolding is_left_out
print_part_clean of_string = refl
print_part_clean (of_value m) = expr_clean m
print_part_clean (of_character {s = s} m) = clean_append s (right_round ∷ []) (expr_clean m) refl

export_clean : {s : List Symbol} {x : ExportTree} → IsExported s x → IsClean s
export_clean (of_exported_value m) = expr_clean m
export_clean (of_exported_array m) = array_clean m

states_clean : {s : List Symbol} {ks : List ℕ} → AreStates s ks → IsClean s
unfolding is_left_out
states_clean one_state = refl
states_clean (more_states m) = states_clean m
states_clean (more_after_comma m) = states_clean m

sign_clean : (t : Symbol) → IsSign t → is_left_out (sign_of t) ≡ false
unfolding is_left_out
sign_clean (Plain signs.LeftOutStatement) sign = let none = sign [] in absurd cc
sign_clean (Plain signs.LeftOutWord) sign = let none = sign [] in absurd cc
sign_clean _ sign = refl

clean_cons : (t : Symbol) (s : List Symbol) → is_left_out (sign_of t) ≡ false → IsClean s → IsClean (t ∷ s)
clean_cons t s e c = rw e c

separated_clean : {A : Type 0} (P : A → List Symbol → Type 0) (t : Symbol) → is_left_out (sign_of t) ≡ false → ((x : A) (s : List Symbol) → P x s → IsClean s) →
    (xs : List A) (s : List Symbol) → Separated P t xs s → IsClean s
separated_clean P t e one [] s m = absurd m
separated_clean P t e one (x ∷ []) s m = one x s m
separated_clean P t e one (x ∷ y ∷ ys) s m = rw m.2 (clean_append m.0 (t ∷ m.1) (one x m.0 m.3) (clean_cons t m.1 e (separated_clean P t e one (y ∷ ys) m.1 m.4)))

part_clean : {A : Type 0} (p : Part A) → IsApart p → (x : A) (s : List Symbol) → IsPart p x s → IsClean s
unfolding is_left_out
part_clean a_name apart x s m = rw m refl
part_clean a_state apart x s m = rw m refl
part_clean a_number apart x s m = rw m refl
part_clean a_signed apart x s m = signed_clean m
part_clean a_bit apart x s m = bit_clean m
part_clean a_text apart x s m = rw m refl
part_clean a_literal apart x s m = rw m refl
part_clean a_check_word apart x s m = rw m refl
part_clean a_choice apart x s m = choice_clean m
part_clean an_expr apart x s m = expr_clean m
part_clean an_array apart x s m = array_clean m
part_clean a_cell apart x s m = cell_clean m
part_clean a_target apart x s m = target_clean m
part_clean a_print_part apart x s m = print_part_clean m
part_clean an_export apart x s m = export_clean m
part_clean some_states apart x s m = states_clean m
part_clean (after t p) apart x s m = rw m.1 (clean_cons t m.0 (sign_clean t apart.0) (part_clean p apart.1 x m.0 m.2))
part_clean (before p t) apart x s m = rw m.1 (clean_append m.0 (t ∷ []) (part_clean p apart.1 x m.0 m.2) (clean_cons t [] (sign_clean t apart.0) refl))
part_clean (maybe_hz p) apart x s (inl m) = part_clean p apart x s m
part_clean (maybe_hz p) apart x s (inr m) = rw m.1 (clean_append m.0 (hz ∷ []) (part_clean p apart x m.0 m.2) refl)
part_clean (both p q) apart x s m = rw m.2 (clean_append m.0 m.1 (part_clean p apart.0 x.0 m.0 m.3) (part_clean q apart.1 x.1 m.1 m.4))
part_clean (maybe p) apart None s m = rw m refl
part_clean (maybe p) apart (Some x) s m = part_clean p apart.0 x s m
part_clean (either p q) apart (inl x) s m = part_clean p apart.0 x s m
part_clean (either p q) apart (inr y) s m = part_clean q apart.1 y s m
part_clean (listed t p) apart xs s m = separated_clean (IsPart p) t (sign_clean t apart.0) (λ x r k. part_clean p apart.1 x r k) xs s m

-- the symbols hold no word that is left out, and begin as a statement
pub record HasNoReason (s : List Symbol) : Type 0 where
  pub clean : IsClean s
  pub known : is_unknown s ≡ false

-- after a first word
headed : {A : Type 0} (t : Symbol) → ((r : List Symbol) → is_unknown (t ∷ r) ≡ false) → is_left_out (sign_of t) ≡ false → (p : Part A) → IsApart p →
    (x : A) (s : List Symbol) → IsPart (after t p) x s → HasNoReason s
headed t begins clean p apart x s m = rw m.1 (record { clean = clean_cons t m.0 clean (part_clean p apart x m.0 m.2); known = begins m.0 })

assigned : (v : List ℕ) (y : ExprTree ⊎ (ArrayTree ⊎ (ExprTree × ((ExprTree × ArrayTree) ⊎ ExprTree)))) (s : List Symbol) → IsPart (both a_name assign_part) (v, y) s → HasNoReason s
unfolding is_left_out is_unknown begins_statement is_assign_sign
assigned v (inl e) s m = rw (m.2, m.3, m.4.1) (record { clean = part_clean assign_part assign_apart (inl e) (equals ∷ m.4.0) (m.4.0, refl, m.4.2); known = refl })
assigned v (inr y) s m = rw (m.2, m.3, m.4.1) (record { clean = part_clean assign_part assign_apart (inr y) (left_square ∷ m.4.0) (m.4.0, refl, m.4.2); known = refl })

pub body_clean : (b : BodyTree) (s : List Symbol) → IsBody s b → HasNoReason s
unfolding is_left_out is_unknown begins_statement
body_clean (note key text) s m = headed _ (λ r. refl) refl note_part note_apart (key, text) s m
body_clean (action v text items) s m = headed _ (λ r. refl) refl action_part action_apart (v, (text, items)) s m
body_clean (procedure v uses) s m = headed _ (λ r. refl) refl procedure_part procedure_apart (v, uses) s m
body_clean (data_block v) s m = headed _ (λ r. refl) refl a_name tt v s m
body_clean end_data s m = rw m (record { clean = refl; known = refl })
body_clean (crc n) s m = headed _ (λ r. refl) refl a_check_word tt n s m
body_clean end_procedure s m = rw m (record { clean = refl; known = refl })
body_clean (boolean v start) s m = headed _ (λ r. refl) refl boolean_part boolean_apart (v, inr start) s m
body_clean (boolean_array v n bits) s m = headed _ (λ r. refl) refl boolean_part boolean_apart (v, inl (n, bits)) s m
body_clean (integer v start) s m = headed _ (λ r. refl) refl integer_part integer_apart (v, inr start) s m
body_clean (integer_array v n start) s m = headed _ (λ r. refl) refl integer_part integer_apart (v, inl (n, start)) s m
body_clean (assign v e) s m = assigned v (inl e) s m
body_clean (assign_element v i e) s m = assigned v (inr (inr (i, inr e))) s m
body_clean (assign_array v a) s m = assigned v (inr (inl a)) s m
body_clean (assign_range v h l a) s m = assigned v (inr (inr (h, inl (l, a)))) s m
body_clean (call v) s m = headed _ (λ r. refl) refl a_name tt v s m
body_clean (goto v) s m = headed _ (λ r. refl) refl a_name tt v s m
body_clean (if_then e b) s m =
    rw m.2 (record { clean = clean_append m.0 (join joins.Then ∷ m.1) (expr_clean m.3) (body_clean b m.1 m.6).clean; known = refl })
body_clean (for_loop v a b c) s m = headed _ (λ r. refl) refl for_part for_apart (v, (a, (b, c))) s m
body_clean (next v) s m = headed _ (λ r. refl) refl a_name tt v s m
body_clean (push e) s m = headed _ (λ r. refl) refl an_expr tt e s m
body_clean (pop e) s m = headed _ (λ r. refl) refl a_cell tt e s m
body_clean (print parts) s m = headed _ (λ r. refl) refl print_part print_apart parts s m
body_clean (export key x) s m = headed _ (λ r. refl) refl export_part export_apart (key, x) s m
body_clean (exit e) s m = headed _ (λ r. refl) refl an_expr tt e s m
body_clean (scan k e a t c) s m = headed _ (λ r. refl) refl scan_part scan_apart (e, (a, (t, c))) s m
body_clean (stop k state) s m = headed _ (λ r. refl) refl a_state tt state s m
body_clean (pad k e a) s m = headed _ (λ r. refl) refl pad_part pad_apart (e, a) s m
body_clean (state_list states) s m = headed _ (λ r. refl) refl some_states tt states s m
body_clean (wait_cycles k e u l) s m = headed _ (λ r. refl) refl wait_part wait_apart (k, (e, inl (u, l))) s m
body_clean (wait_usec k e l) s m = headed _ (λ r. refl) refl wait_part wait_apart (k, (e, inr l)) s m
body_clean (frequency e) s m = headed _ (λ r. refl) refl frequency_part frequency_apart e s m

-- where no label stands, nothing is after it
unlabelled : (b : BodyTree) (s : List Symbol) → IsBody s b → after_label s ≡ s
unlabelled b s m = after_is s ∙ ap (λ (x : Option (List ℕ) × List Symbol). x.1) (body_label b s m)

pub labelled_clean : (s : List Symbol) (label : Option (List ℕ)) (b : BodyTree) → IsLabelled s label b → (is_unknown (after_label s) ≡ false) × (holds_left_out s ≡ false)
unfolding after_label is_left_out
labelled_clean s None b m =
    let k = body_clean b s m in
    (rw (unlabelled b s m) k.known, k.clean)
labelled_clean s (Some v) b m =
    let k = body_clean b m.0 m.3 in
    (rw m.1 k.known, rw m.1 k.clean)
