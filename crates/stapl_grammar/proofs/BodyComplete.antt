-- What is a statement is read as it.
use Rattle.std.proofs.Common.{◌≡◌, ℕ, zero, suc, ◌<◌, Bool, true, false, List, [], ◌∷◌, ◌++◌, length, Option, Some, None, inl, inr, refl, sym, ap, subst, ◌∙◌, arith}
use Rattle.std.specs.Prelude.{◌⊎◌}
use Rattle.std.specs.Option.{option_map_or}
use Rattle.std.proofs.lemmas.List.{append-nil}
use Rattle.stapl_lexer.specs.declared.terminal.Mark.TheVariants as marks
use Rattle.stapl_lexer.specs.declared.terminal.JoinWord.TheVariants as joins
use Rattle.stapl_syntax.specs.declared.signs.Sign.{Sign}
use Rattle.stapl_syntax.specs.declared.signs.Sign.TheVariants as signs
use Rattle.stapl_syntax.specs.Symbols.{Symbol, Plain, sign_of}
use Rattle.stapl_syntax.specs.Trees.{ExprTree, ArrayTree, BodyTree, note, action, procedure, data_block, end_data, crc, end_procedure, boolean, boolean_array, integer, integer_array, assign, assign_element, assign_array, assign_range, call, goto, if_then, for_loop, next, push, pop, print, export, exit, scan, stop, pad, state_list, wait_cycles, wait_usec, frequency}
use Rattle.stapl_syntax.specs.Expressions.{name, mark}
use Rattle.stapl_syntax.specs.Parts.{IsPart, a_name, a_state, a_check_word, an_expr, a_cell, some_states, both, join, note_part, action_part, procedure_part, for_part, print_part, export_part, scan_part, pad_part, frequency_part}
use Rattle.stapl_syntax.specs.Statements.{is_outer, is_unconditional, IsBody, IsLabelled}
use Rattle.stapl_grammar.specs.Looks.{after_mark, after_join, is_mark, mark_number, begins_anything}
use Rattle.stapl_grammar.specs.Reading.{Reader, next_sign, name_at, name_of, next_operator, operator_of, expr}
use Rattle.stapl_grammar.specs.PartReading.{part_at}
use Rattle.stapl_grammar.specs.BodyReading.{mapped, outer_from, boolean_part, integer_part, inner_from, assign_part, assign_of, if_from, simple_word_from, wait_part, port_from, simple_from, simple_by, simple_in, simple_at, labelled_from, labelled_at, any_from, any_at, label_at, after_label_at, statement_of}
use Rattle.stapl_grammar.proofs.Tools.{by_step, some_is, by_test, after_mark_some, after_join_some, after_join_here}
use Rattle.stapl_grammar.proofs.Steps.{bind_same}
use Rattle.stapl_grammar.proofs.Complete.{shorter, expr_read}
use Rattle.stapl_grammar.proofs.LeafLaws.{name_some}
use Rattle.stapl_grammar.proofs.PartLaws.{part_sound, part_whole}
use Rattle.stapl_grammar.proofs.ApartLaws.{note_apart, action_apart, action_end, procedure_apart, procedure_end, boolean_apart, boolean_end, integer_apart, integer_end, assign_apart, assign_end, for_apart, for_end, print_apart, print_end, export_apart, export_end, scan_apart, scan_end, pad_apart, pad_end, wait_apart, wait_end, frequency_apart, frequency_end, states_end, nothing_ends, no_bracket}
use Rattle.stapl_grammar.proofs.BodySound.{any_sound, labelled_sound}

-- ---- one equation for the reader of what stands after THEN

if_same : (i j : Reader BodyTree) (s : List Symbol) → ((t : List Symbol) → length t < length s → i t ≡ j t) → if_from i s ≡ if_from j s
unfolding if_from
if_same i j s same =
    bind_same (expr 10 s) _ _ λ c c-is.
    bind_same (after_join joins.Then c.1) _ _ λ r r-is.
    rw (same r (omega (arith, shorter 10 s c c-is, ap length (after_join_some joins.Then c.1 r r-is))))

simple_from_same : (i j : Reader BodyTree) (g : Sign) (s : List Symbol) → ((t : List Symbol) → length t < length s → i t ≡ j t) → simple_from i g s ≡ simple_from j g s
unfolding simple_from
simple_from_same i j signs.If s same = if_same i j s same
simple_from_same i j _ s same = refl

simple_by_same : (i j : Reader BodyTree) (s : List Symbol) → ((t : List Symbol) → length t < length s → i t ≡ j t) → simple_by i s ≡ simple_by j s
unfolding next_sign
simple_by_same i j [] same = refl
simple_by_same i j (t ∷ s) same = simple_from_same i j (sign_of t) s (λ r lt. same r (omega arith))

simple_in_same : (f g : ℕ) (s : List Symbol) → length s < f → length s < g → simple_in f s ≡ simple_in g s
unfolding simple_in
simple_in_same zero g s lf lg = absurd (omega arith)
simple_in_same (suc f) zero s lf lg = absurd (omega arith)
simple_in_same (suc f) (suc g) s lf lg = simple_by_same (simple_in f) (simple_in g) s (λ t lt. simple_in_same f g t (omega arith) (omega arith))

pub simple_at_is : (s : List Symbol) → simple_at s ≡ simple_by simple_at s
unfolding simple_at simple_in
simple_at_is s = simple_by_same (simple_in (length s)) simple_at s (λ t lt. simple_in_same (length s) (suc (length t)) t lt (omega arith))

-- ---- the narrower reader is part of the wider one

simple_labelled : (s : List Symbol) (x : BodyTree × List Symbol) → simple_by simple_at s ≡ Some x → labelled_at s ≡ Some x
unfolding next_sign simple_from labelled_from
simple_labelled [] x e = absurd cc
simple_labelled (Plain (signs.Inner w) ∷ s) x e = absurd cc
simple_labelled (t ∷ s) x e = e

labelled_any : (s : List Symbol) (x : BodyTree × List Symbol) → labelled_at s ≡ Some x → any_at s ≡ Some x
unfolding next_sign simple_from labelled_from any_from
labelled_any [] x e = absurd cc
labelled_any (Plain (signs.Outer w) ∷ s) x e = absurd cc
labelled_any (t ∷ s) x e = e

-- ---- each production

then_ends : (r : List Symbol) → (next_operator 10 (join joins.Then ∷ r) ≡ None) × (after_mark marks.LeftSquare (join joins.Then ∷ r) ≡ None)
unfolding next_operator operator_of after_mark is_mark
then_ends r = (refl, refl)

-- the statement is read by the reader of its kind: whether it stands outside, and whether it is a declaration
abbrev pub IsReadAs : Bool → Bool → BodyTree → List Symbol → Type 0
IsReadAs true declaration b s = any_at s ≡ Some (b, [])
IsReadAs false true b s = labelled_at s ≡ Some (b, [])
IsReadAs false false b s = simple_at s ≡ Some (b, [])

assigned : (v : List ℕ) (y : ExprTree ⊎ (ArrayTree ⊎ (ExprTree × ((ExprTree × ArrayTree) ⊎ ExprTree)))) (s : List Symbol) → IsPart (both a_name assign_part) (v, y) s →
    simple_at s ≡ Some (assign_of v y, [])
unfolding next_sign simple_from
assigned v y s m =
    let shape : s ≡ name v ∷ m.1 = rw (m.2, m.3) refl in
    simple_at_is s ∙ ap (λ (l : List Symbol). simple_by simple_at l) shape ∙ ap (mapped (assign_of v)) (part_whole assign_part assign_apart y m.1 m.4 assign_end)

body_complete : (b : BodyTree) (s : List Symbol) → IsBody s b → IsReadAs (is_outer b) (is_unconditional b) b s
unfolding next_sign any_from outer_from labelled_from inner_from simple_from if_from simple_word_from port_from
body_complete (note key text) s m = rw (m.1, part_whole note_part note_apart (key, text) m.0 m.2 (tt, tt)) refl
body_complete (action v text items) s m = rw (m.1, part_whole action_part action_apart (v, (text, items)) m.0 m.2 action_end) refl
body_complete (procedure v uses) s m = rw (m.1, part_whole procedure_part procedure_apart (v, uses) m.0 m.2 procedure_end) refl
body_complete (data_block v) s m = rw (m.1, part_whole a_name tt v m.0 m.2 tt) refl
body_complete end_data s m = rw m refl
body_complete (crc n) s m = rw (m.1, part_whole a_check_word tt n m.0 m.2 tt) refl
body_complete end_procedure s m = rw m refl
body_complete (boolean v start) s m = rw (m.1, part_whole boolean_part boolean_apart (v, inr start) m.0 m.2 boolean_end) refl
body_complete (boolean_array v n bits) s m = rw (m.1, part_whole boolean_part boolean_apart (v, inl (n, bits)) m.0 m.2 boolean_end) refl
body_complete (integer v start) s m = rw (m.1, part_whole integer_part integer_apart (v, inr start) m.0 m.2 integer_end) refl
body_complete (integer_array v n start) s m = rw (m.1, part_whole integer_part integer_apart (v, inl (n, start)) m.0 m.2 integer_end) refl
body_complete (assign v e) s m = assigned v (inl e) s m
body_complete (assign_element v i e) s m = assigned v (inr (inr (i, inr e))) s m
body_complete (assign_array v a) s m = assigned v (inr (inl a)) s m
body_complete (assign_range v h l a) s m = assigned v (inr (inr (h, inl (l, a)))) s m
body_complete (call v) s m = rw (simple_at_is s, m.1, part_whole a_name tt v m.0 m.2 tt) refl
body_complete (goto v) s m = rw (simple_at_is s, m.1, part_whole a_name tt v m.0 m.2 tt) refl
body_complete (if_then e b) s m =
    let read : simple_at m.1 ≡ Some (b, []) = rw (m.4, m.5) at (body_complete b m.1 m.6) in
    rw (simple_at_is s, m.2, expr_read m.0 e (join joins.Then ∷ m.1) m.3 (then_ends m.1).0 (then_ends m.1).1, after_join_here joins.Then m.1, read) refl
body_complete (for_loop v a b c) s m = rw (simple_at_is s, m.1, part_whole for_part for_apart (v, (a, (b, c))) m.0 m.2 for_end) refl
body_complete (next v) s m = rw (simple_at_is s, m.1, part_whole a_name tt v m.0 m.2 tt) refl
body_complete (push e) s m = rw (simple_at_is s, m.1, part_whole an_expr tt e m.0 m.2 nothing_ends) refl
body_complete (pop e) s m = rw (simple_at_is s, m.1, part_whole a_cell tt e m.0 m.2 no_bracket) refl
body_complete (print parts) s m = rw (simple_at_is s, m.1, part_whole print_part print_apart parts m.0 m.2 print_end) refl
body_complete (export key x) s m = rw (simple_at_is s, m.1, part_whole export_part export_apart (key, x) m.0 m.2 export_end) refl
body_complete (exit e) s m = rw (simple_at_is s, m.1, part_whole an_expr tt e m.0 m.2 nothing_ends) refl
body_complete (scan k e a t c) s m = rw (simple_at_is s, m.1, part_whole scan_part scan_apart (e, (a, (t, c))) m.0 m.2 scan_end) refl
body_complete (stop k state) s m = rw (simple_at_is s, m.1, part_whole a_state tt state m.0 m.2 tt) refl
body_complete (pad k e a) s m = rw (simple_at_is s, m.1, part_whole pad_part pad_apart (e, a) m.0 m.2 pad_end) refl
body_complete (state_list states) s m = rw (simple_at_is s, m.1, part_whole some_states tt states m.0 m.2 states_end) refl
body_complete (wait_cycles k e u l) s m = rw (simple_at_is s, m.1, part_whole wait_part wait_apart (k, (e, inl (u, l))) m.0 m.2 wait_end) refl
body_complete (wait_usec k e l) s m = rw (simple_at_is s, m.1, part_whole wait_part wait_apart (k, (e, inr l)) m.0 m.2 wait_end) refl
body_complete (frequency e) s m = rw (simple_at_is s, m.1, part_whole frequency_part frequency_apart e m.0 m.2 frequency_end) refl

-- ---- all of a statement

read_inside : (declaration : Bool) (b : BodyTree) (s : List Symbol) → IsReadAs false declaration b s → labelled_at s ≡ Some (b, [])
read_inside true b s e = e
read_inside false b s e = simple_labelled s (b, []) (sym (simple_at_is s) ∙ e)

read_any : (outer declaration : Bool) (b : BodyTree) (s : List Symbol) → IsReadAs outer declaration b s → any_at s ≡ Some (b, [])
read_any true declaration b s e = e
read_any false declaration b s e = labelled_any s (b, []) (read_inside declaration b s e)

-- after the name of an assignment no colon stands
no_colon : (y : ExprTree ⊎ (ArrayTree ⊎ (ExprTree × ((ExprTree × ArrayTree) ⊎ ExprTree)))) (a r : List Symbol) → IsPart assign_part y a → after_mark marks.Colon (a ++ r) ≡ None
unfolding after_mark is_mark mark_number
no_colon (inl e) a r m = rw m.1 refl
no_colon (inr (inl b)) a r m = rw m.1 refl
no_colon (inr (inr y)) a r m = rw m.1 refl

-- what is read as a statement begins with no label
no_label : (s : List Symbol) (x : BodyTree × List Symbol) → any_at s ≡ Some x → label_at s ≡ (None, s)
unfolding label_at name_at name_of next_sign any_from labelled_from simple_from
no_label [] x e = refl
no_label (Plain (signs.Name v) ∷ s) x e =
    by_step (part_at assign_part s) _ x e λ y y-is d.
    let f = part_sound assign_part s y y-is in
    let none : after_mark marks.Colon s ≡ None = rw f.parts (no_colon y.0 f.taken y.1 f.meant) in
    rw none refl
no_label _ x e = refl

-- a statement begins with no label
pub body_label : (b : BodyTree) (s : List Symbol) → IsBody s b → label_at s ≡ (None, s)
body_label b s m = no_label s (b, []) (read_any (is_outer b) (is_unconditional b) b s (body_complete b s m))

-- what a label is
LabelShape : Option (List ℕ) → List Symbol → List Symbol → Type 0
LabelShape None s r = r ≡ s
LabelShape (Some v) s r = s ≡ name v ∷ mark marks.Colon ∷ r

label_shape : (s : List Symbol) → LabelShape (label_at s).0 s (label_at s).1
unfolding label_at LabelShape
label_shape s = go (name_at s) refl
  where
    after : (v : List ℕ × List Symbol) → s ≡ name v.0 ∷ v.1 → (p : Option (List Symbol)) → after_mark marks.Colon v.1 ≡ p → let l : Option (List ℕ) ×
        List Symbol = option_map_or (λ r. (Some v.0, r)) p (None, s) in LabelShape l.0 s l.1
    after v shape None e = refl
    after v shape (Some r) e = shape ∙ ap (λ (l : List Symbol). name v.0 ∷ l) (after_mark_some marks.Colon v.1 r e)

    go : (q : Option (List ℕ × List Symbol)) → name_at s ≡ q → let l : Option (List ℕ) ×
        List Symbol = option_map_or (λ v. option_map_or (λ r. (Some v.0, r)) (after_mark marks.Colon v.1) (None, s)) q (None, s) in LabelShape l.0 s l.1
    go None e = refl
    go (Some v) e = after v (name_some s v e) (after_mark marks.Colon v.1) refl

nothing_stands : (s : List Symbol) → begins_anything s ≡ false → s ≡ []
nothing_stands [] e = refl
nothing_stands (t ∷ s) e = absurd cc

pub statement_sound : (s : List Symbol) (label : Option (List ℕ)) (b : BodyTree) → statement_of s ≡ Some (label, b) → IsLabelled s label b
unfolding statement_of after_label_at LabelShape
statement_sound s label b e =
    by_step (mapped (λ c. ((label_at s).0, c)) (after_label_at (label_at s).0 (label_at s).1)) _ (label, b) e λ y y-is e1.
    by_step (after_label_at (label_at s).0 (label_at s).1) _ y y-is λ x x-is e2.
    let given : ◌≡◌ {A = (Option (List ℕ) × BodyTree) × List Symbol} (((label_at s).0, x.0), x.1) y = some_is (((label_at s).0, x.0), x.1) y e2 in
    by_test (begins_anything y.1) _ _ (label, b) e1
    (λ yes h. absurd cc)
    (λ no h.
    let end : x.1 ≡ [] = ap (λ (z : (Option (List ℕ) × BodyTree) × List Symbol). z.1) given ∙ nothing_stands y.1 no in
    let same : ◌≡◌ {A = Option (List ℕ) × BodyTree} ((label_at s).0, x.0) (label, b) = ap (λ (z : (Option (List ℕ) × BodyTree) × List Symbol). z.0) given ∙ some_is y.0 (label, b) h in
    subst (λ (z : Option (List ℕ) × BodyTree). IsLabelled s z.0 z.1) same (go (label_at s).0 (label_at s).1 (label_shape s) x x-is end))
  where
    go : (l : Option (List ℕ)) (r : List Symbol) → LabelShape l s r → (x : BodyTree × List Symbol) → after_label_at l r ≡ Some x → x.1 ≡ [] → IsLabelled s l x.0
    go None r shape x read end =
        let f = any_sound r x read in
        let whole : s ≡ f.taken = sym shape ∙ f.parts ∙ ap (λ (l : List Symbol). f.taken ++ l) end ∙ append-nil f.taken in
        subst (λ (l : List Symbol). IsBody l x.0) (sym whole) f.meant
    go (Some v) r shape x read end =
        let f = labelled_sound r x read in
        let whole : r ≡ f.taken = f.parts ∙ ap (λ (l : List Symbol). f.taken ++ l) end ∙ append-nil f.taken in
        (r, shape, f.kind, subst (λ (l : List Symbol). IsBody l x.0) (sym whole) f.meant)

pub statement_complete : (s : List Symbol) (label : Option (List ℕ)) (b : BodyTree) → IsLabelled s label b → statement_of s ≡ Some (label, b)
unfolding statement_of after_label_at label_at name_at name_of next_sign after_mark is_mark mark_number
statement_complete s None b m =
    let read = read_any (is_outer b) (is_unconditional b) b s (body_complete b s m) in
    let none = no_label s (b, []) read in
    rw (none, read) refl
statement_complete s (Some v) b m =
    let read : labelled_at m.0 ≡ Some (b, []) = read_inside (is_unconditional b) b m.0 (rw m.2 at (body_complete b m.0 m.3)) in
    rw (m.1, read) refl

-- the symbols are one statement at most
pub one_statement : (s : List Symbol) (label other : Option (List ℕ)) (b c : BodyTree) → IsLabelled s label b → IsLabelled s other c → ◌≡◌ {A = Option (List ℕ) × BodyTree} (label, b) (other, c)
one_statement s label other b c m k = some_is (label, b) (other, c) (sym (statement_complete s label b m) ∙ statement_complete s other c k)
