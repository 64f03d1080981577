-- What is read as a statement is one.
use Rattle.std.proofs.Common.{◌≡◌, ℕ, ℤ, zero, suc, Bool, false, List, [], ◌∷◌, ◌++◌, length, Option, Some, inl, inr, refl, sym, ap, subst, ◌∙◌, append_assoc}
use Rattle.std.specs.Prelude.{◌⊎◌}
use Rattle.stapl_lexer.specs.declared.terminal.JoinWord.TheVariants as joins
use Rattle.stapl_lexer.specs.declared.terminal.OuterWord.{OuterWord}
use Rattle.stapl_lexer.specs.declared.terminal.OuterWord.TheVariants as outer_words
use Rattle.stapl_lexer.specs.declared.terminal.InnerWord.{InnerWord}
use Rattle.stapl_lexer.specs.declared.terminal.InnerWord.TheVariants as inner_words
use Rattle.stapl_lexer.specs.declared.terminal.SimpleWord.{SimpleWord}
use Rattle.stapl_lexer.specs.declared.terminal.SimpleWord.TheVariants as simple_words
use Rattle.stapl_lexer.specs.declared.terminal.PortWord.{PortWord}
use Rattle.stapl_lexer.specs.declared.terminal.PortWord.TheVariants as port_words
use Rattle.stapl_syntax.specs.declared.signs.Sign.TheVariants as signs
use Rattle.stapl_syntax.specs.Symbols.{Symbol, Plain, sign_of}
use Rattle.stapl_syntax.specs.Trees.{ExprTree, ArrayTree, BodyTree, data_block, end_data, crc, end_procedure, call, goto, if_then, next, push, pop, print, exit, stop, state_list, frequency}
use Rattle.stapl_syntax.specs.Expressions.{name}
use Rattle.stapl_syntax.specs.Parts.{Part, IsPart, a_name, a_state, a_check_word, an_expr, a_cell, some_states, after, join, note_part, action_part, procedure_part, for_part, print_part, export_part, scan_part, pad_part, frequency_part}
use Rattle.stapl_syntax.specs.Statements.{outer, inner, simple, if_word, port, is_outer, is_unconditional, IsBody}
use Rattle.stapl_grammar.specs.Looks.{after_join}
use Rattle.stapl_grammar.specs.Reading.{Reader, next_sign, expr}
use Rattle.stapl_grammar.specs.PartReading.{part_at}
use Rattle.stapl_grammar.specs.BodyReading.{mapped, note_of, action_of, procedure_of, outer_from, boolean_part, boolean_with, boolean_of, integer_part, integer_with, integer_of, inner_from, assign_part, range_or_element_of, assign_of, for_of, export_of, if_from, simple_word_from, wait_part, scan_of, pad_of, wait_with, wait_of, port_from, simple_from, simple_by, simple_in, simple_at, labelled_from, labelled_at, any_from, any_at}
use Rattle.stapl_grammar.proofs.Tools.{by_step, some_is, after_join_some}
use Rattle.stapl_grammar.proofs.PartLaws.{part_sound}

-- a front of the symbols is the statement, of a kind, and the rest stands after it
pub record BodyFront (K : BodyTree → Type 0) (s : List Symbol) (x : BodyTree × List Symbol) : Type 0 where
  pub taken : List Symbol
  pub parts : s ≡ taken ++ x.1
  pub meant : IsBody taken x.0
  pub kind : K x.0

-- any statement, one that may bear a label, and one that may stand after THEN
abbrev pub IsAny : BodyTree → Type 0
IsAny b = Unit {0}

abbrev pub IsInside : BodyTree → Type 0
IsInside b = is_outer b ≡ false

abbrev pub IsSimple : BodyTree → Type 0
IsSimple b = (is_outer b ≡ false) × (is_unconditional b ≡ false)

-- a symbol and a part
form_sound : {A : Type 0} (K : BodyTree → Type 0) (t : Symbol) (p : Part A) (g : A → BodyTree) → ((y : A) (a : List Symbol) → IsPart (after t p) y a → IsBody a (g y)) →
    ((y : A) → K (g y)) → (s : List Symbol) (x : BodyTree × List Symbol) → mapped g (part_at p s) ≡ Some x → BodyFront K (t ∷ s) x
form_sound K t p g meant kind s x e =
    by_step (part_at p s) _ x e λ y y-is d.
    let f = part_sound p s y y-is in
    subst (BodyFront K (t ∷ s)) (some_is (g y.0, y.1) x d) (record
    { taken = t ∷ f.taken; parts = ap (λ (l : List Symbol). t ∷ l) f.parts; meant = meant y.0 (t ∷ f.taken) (f.taken, refl, f.meant); kind = kind y.0 })

-- a symbol alone
word_alone : (K : BodyTree → Type 0) (t : Symbol) (b : BodyTree) → IsBody (t ∷ []) b → K b → (s : List Symbol) (x : BodyTree × List Symbol) → Some (b, s) ≡ Some x → BodyFront K (t ∷ s) x
word_alone K t b meant kind s x e = subst (BodyFront K (t ∷ s)) (some_is (b, s) x e) (record { taken = t ∷ []; parts = refl; meant = meant; kind = kind })

outer_sound : (w : OuterWord) (s : List Symbol) (x : BodyTree × List Symbol) → outer_from w s ≡ Some x → BodyFront IsAny (outer w ∷ s) x
unfolding outer_from
outer_sound outer_words.Note s x e = form_sound IsAny (outer outer_words.Note) note_part note_of (λ y a m. m) (λ y. tt) s x e
outer_sound outer_words.Action s x e = form_sound IsAny (outer outer_words.Action) action_part action_of (λ y a m. m) (λ y. tt) s x e
outer_sound outer_words.Procedure s x e = form_sound IsAny (outer outer_words.Procedure) procedure_part procedure_of (λ y a m. m) (λ y. tt) s x e
outer_sound outer_words.Data s x e = form_sound IsAny (outer outer_words.Data) a_name data_block (λ y a m. m) (λ y. tt) s x e
outer_sound outer_words.EndData s x e = word_alone IsAny (outer outer_words.EndData) end_data refl tt s x e
outer_sound outer_words.Crc s x e = form_sound IsAny (outer outer_words.Crc) a_check_word crc (λ y a m. m) (λ y. tt) s x e

boolean_meant : (y : List ℕ × ((ℤ × Option (List Bool)) ⊎ Option Bool)) (a : List Symbol) → IsPart (after (inner inner_words.Boolean) boolean_part) y a → IsBody a (boolean_of y)
boolean_meant y a m = go y.0 y.1 m
  where
    go : (v : List ℕ) (z : (ℤ × Option (List Bool)) ⊎ Option Bool) → IsPart (after (inner inner_words.Boolean) boolean_part) (v, z) a → IsBody a (boolean_with v z)
    go v (inl z) m = m
    go v (inr z) m = m

boolean_inside : (y : List ℕ × ((ℤ × Option (List Bool)) ⊎ Option Bool)) → IsInside (boolean_of y)
boolean_inside y = go y.0 y.1
  where
    go : (v : List ℕ) (z : (ℤ × Option (List Bool)) ⊎ Option Bool) → IsInside (boolean_with v z)
    go v (inl z) = refl
    go v (inr z) = refl

integer_meant : (y : List ℕ × ((ℤ × Option (List ℤ)) ⊎ Option ℤ)) (a : List Symbol) → IsPart (after (inner inner_words.Integer) integer_part) y a → IsBody a (integer_of y)
integer_meant y a m = go y.0 y.1 m
  where
    go : (v : List ℕ) (z : (ℤ × Option (List ℤ)) ⊎ Option ℤ) → IsPart (after (inner inner_words.Integer) integer_part) (v, z) a → IsBody a (integer_with v z)
    go v (inl z) m = m
    go v (inr z) m = m

integer_inside : (y : List ℕ × ((ℤ × Option (List ℤ)) ⊎ Option ℤ)) → IsInside (integer_of y)
integer_inside y = go y.0 y.1
  where
    go : (v : List ℕ) (z : (ℤ × Option (List ℤ)) ⊎ Option ℤ) → IsInside (integer_with v z)
    go v (inl z) = refl
    go v (inr z) = refl

inner_sound : (w : InnerWord) (s : List Symbol) (x : BodyTree × List Symbol) → inner_from w s ≡ Some x → BodyFront IsInside (inner w ∷ s) x
unfolding inner_from
inner_sound inner_words.EndProcedure s x e = word_alone IsInside (inner inner_words.EndProcedure) end_procedure refl refl s x e
inner_sound inner_words.Boolean s x e = form_sound IsInside (inner inner_words.Boolean) boolean_part boolean_of boolean_meant boolean_inside s x e
inner_sound inner_words.Integer s x e = form_sound IsInside (inner inner_words.Integer) integer_part integer_of integer_meant integer_inside s x e

-- the part after the name of an assignment
assign_meant : (v : List ℕ) (y : ExprTree ⊎ (ArrayTree ⊎ (ExprTree × ((ExprTree × ArrayTree) ⊎ ExprTree)))) (a : List Symbol) → IsPart assign_part y a → IsBody (name v ∷ a) (assign_of v y)
assign_meant v (inl e) a m = (name v ∷ [], a, refl, refl, m)
assign_meant v (inr (inl b)) a m = (name v ∷ [], a, refl, refl, m)
assign_meant v (inr (inr y)) a m = go y.0 y.1 m
  where
    go : (first : ExprTree) (z : (ExprTree × ArrayTree) ⊎ ExprTree) → IsPart assign_part (inr (inr (first, z))) a → IsBody (name v ∷ a) (range_or_element_of v first z)
    go first (inl z) m = (name v ∷ [], a, refl, refl, m)
    go first (inr z) m = (name v ∷ [], a, refl, refl, m)

assign_simple : (v : List ℕ) (y : ExprTree ⊎ (ArrayTree ⊎ (ExprTree × ((ExprTree × ArrayTree) ⊎ ExprTree)))) → IsSimple (assign_of v y)
assign_simple v (inl e) = (refl, refl)
assign_simple v (inr (inl b)) = (refl, refl)
assign_simple v (inr (inr y)) = go y.0 y.1
  where
    go : (first : ExprTree) (z : (ExprTree × ArrayTree) ⊎ ExprTree) → IsSimple (range_or_element_of v first z)
    go first (inl z) = (refl, refl)
    go first (inr z) = (refl, refl)

assign_sound : (v : List ℕ) (s : List Symbol) (x : BodyTree × List Symbol) → mapped (assign_of v) (part_at assign_part s) ≡ Some x → BodyFront IsSimple (name v ∷ s) x
assign_sound v s x e =
    by_step (part_at assign_part s) _ x e λ y y-is d.
    let f = part_sound assign_part s y y-is in
    subst (BodyFront IsSimple (name v ∷ s)) (some_is (assign_of v y.0, y.1) x d)
    (record { taken = name v ∷ f.taken; parts = ap (λ (l : List Symbol). name v ∷ l) f.parts; meant = assign_meant v y.0 f.taken f.meant; kind = assign_simple v y.0 })

wait_meant : (y : Option ℕ × (ExprTree × ((Option ExprTree × Option ℕ) ⊎ Option ℕ))) (a : List Symbol) → IsPart (after (port port_words.Wait) wait_part) y a → IsBody a (wait_of y)
wait_meant y a m = go y.0 y.1.0 y.1.1 m
  where
    go : (k : Option ℕ) (e : ExprTree) (u : (Option ExprTree × Option ℕ) ⊎ Option ℕ) → IsPart (after (port port_words.Wait) wait_part) (k, (e, u)) a → IsBody a (wait_with k e u)
    go k e (inl u) m = m
    go k e (inr l) m = m

wait_simple : (y : Option ℕ × (ExprTree × ((Option ExprTree × Option ℕ) ⊎ Option ℕ))) → IsSimple (wait_of y)
wait_simple y = go y.0 y.1.0 y.1.1
  where
    go : (k : Option ℕ) (e : ExprTree) (u : (Option ExprTree × Option ℕ) ⊎ Option ℕ) → IsSimple (wait_with k e u)
    go k e (inl u) = (refl, refl)
    go k e (inr l) = (refl, refl)

port_sound : (w : PortWord) (s : List Symbol) (x : BodyTree × List Symbol) → port_from w s ≡ Some x → BodyFront IsSimple (port w ∷ s) x
unfolding port_from
port_sound (port_words.Scan k) s x e = form_sound IsSimple (port (port_words.Scan k)) scan_part (scan_of k) (λ y a m. m) (λ y. (refl, refl)) s x e
port_sound (port_words.Stop k) s x e = form_sound IsSimple (port (port_words.Stop k)) a_state (stop k) (λ y a m. m) (λ y. (refl, refl)) s x e
port_sound (port_words.Pad k) s x e = form_sound IsSimple (port (port_words.Pad k)) pad_part (pad_of k) (λ y a m. m) (λ y. (refl, refl)) s x e
port_sound port_words.State s x e = form_sound IsSimple (port port_words.State) some_states state_list (λ y a m. m) (λ y. (refl, refl)) s x e
port_sound port_words.Wait s x e = form_sound IsSimple (port port_words.Wait) wait_part wait_of wait_meant wait_simple s x e
port_sound port_words.Frequency s x e = form_sound IsSimple (port port_words.Frequency) frequency_part frequency (λ y a m. m) (λ y. (refl, refl)) s x e

-- whatever the reader reads is a statement of this kind
IsBodySound : (BodyTree → Type 0) → Reader BodyTree → Type 0
IsBodySound K read = (s : List Symbol) (x : BodyTree × List Symbol) → read s ≡ Some x → BodyFront K s x

if_sound : (read : Reader BodyTree) → IsBodySound IsSimple read → (s : List Symbol) (x : BodyTree × List Symbol) → if_from read s ≡ Some x → BodyFront IsSimple (if_word ∷ s) x
unfolding if_from IsBodySound part_at
if_sound read sound s x e =
    by_step (expr 10 s) _ x e λ c c-is e1.
    by_step (after_join joins.Then c.1) _ x e1 λ r r-is e2.
    by_step (read r) _ x e2 λ b b-is e3.
    let f = part_sound an_expr s c c-is in
    let g = sound r b b-is in
    subst (BodyFront IsSimple (if_word ∷ s)) (some_is (if_then c.0 b.0, b.1) x e3) (record {
      taken = if_word ∷ (f.taken ++ (join joins.Then ∷ g.taken));
      parts = ap (λ (l : List Symbol). if_word ∷ l) (f.parts ∙ ap (λ (l : List Symbol). f.taken ++ l)
          (after_join_some joins.Then c.1 r r-is ∙ ap (λ (l : List Symbol). join joins.Then ∷ l) g.parts) ∙ sym (append_assoc f.taken (join joins.Then ∷ g.taken) b.1));
      meant = (f.taken, g.taken, refl, f.meant, g.kind.0, g.kind.1, g.meant);
      kind = (refl, refl);
    })

simple_word_sound : (w : SimpleWord) (s : List Symbol) (x : BodyTree × List Symbol) → simple_word_from w s ≡ Some x → BodyFront IsSimple (simple w ∷ s) x
unfolding simple_word_from
simple_word_sound simple_words.Call s x e = form_sound IsSimple (simple simple_words.Call) a_name call (λ y a m. m) (λ y. (refl, refl)) s x e
simple_word_sound simple_words.Goto s x e = form_sound IsSimple (simple simple_words.Goto) a_name goto (λ y a m. m) (λ y. (refl, refl)) s x e
simple_word_sound simple_words.For s x e = form_sound IsSimple (simple simple_words.For) for_part for_of (λ y a m. m) (λ y. (refl, refl)) s x e
simple_word_sound simple_words.Next s x e = form_sound IsSimple (simple simple_words.Next) a_name next (λ y a m. m) (λ y. (refl, refl)) s x e
simple_word_sound simple_words.Push s x e = form_sound IsSimple (simple simple_words.Push) an_expr push (λ y a m. m) (λ y. (refl, refl)) s x e
simple_word_sound simple_words.Pop s x e = form_sound IsSimple (simple simple_words.Pop) a_cell pop (λ y a m. m) (λ y. (refl, refl)) s x e
simple_word_sound simple_words.Print s x e = form_sound IsSimple (simple simple_words.Print) print_part print (λ y a m. m) (λ y. (refl, refl)) s x e
simple_word_sound simple_words.Export s x e = form_sound IsSimple (simple simple_words.Export) export_part export_of (λ y a m. m) (λ y. (refl, refl)) s x e
simple_word_sound simple_words.Exit s x e = form_sound IsSimple (simple simple_words.Exit) an_expr exit (λ y a m. m) (λ y. (refl, refl)) s x e

simple_sound : (read : Reader BodyTree) → IsBodySound IsSimple read → (t : Symbol) (s : List Symbol) (x : BodyTree × List Symbol) →
    simple_from read (sign_of t) s ≡ Some x → BodyFront IsSimple (t ∷ s) x
unfolding simple_from
simple_sound read sound (Plain (signs.Name v)) s x e = assign_sound v s x e
simple_sound read sound (Plain (signs.Simple w)) s x e = simple_word_sound w s x e
simple_sound read sound (Plain signs.If) s x e = if_sound read sound s x e
simple_sound read sound (Plain (signs.Port w)) s x e = port_sound w s x e
simple_sound read sound _ s x e = absurd cc

simple_by_sound : (read : Reader BodyTree) → IsBodySound IsSimple read → IsBodySound IsSimple (simple_by read)
unfolding IsBodySound next_sign
simple_by_sound read sound [] x e = absurd cc
simple_by_sound read sound (t ∷ s) x e = simple_sound read sound t s x e

simple_in_sound : (f : ℕ) → IsBodySound IsSimple (simple_in f)
unfolding IsBodySound simple_in
simple_in_sound zero s x e = absurd cc
simple_in_sound (suc f) s x e = simple_by_sound (simple_in f) (simple_in_sound f) s x e

pub simple_at_sound : (s : List Symbol) (x : BodyTree × List Symbol) → simple_at s ≡ Some x → BodyFront IsSimple s x
unfolding IsBodySound simple_at
simple_at_sound s x e = simple_in_sound (suc (length s)) s x e

-- a statement of a narrower kind
widened : {K L : BodyTree → Type 0} {s : List Symbol} {x : BodyTree × List Symbol} → ((b : BodyTree) → K b → L b) → BodyFront K s x → BodyFront L s x
widened {K} {L} {s} {x} wide f = record { taken = f.taken; parts = f.parts; meant = f.meant; kind = wide x.0 f.kind }

labelled_from_sound : (t : Symbol) (s : List Symbol) (x : BodyTree × List Symbol) → labelled_from (sign_of t) s ≡ Some x → BodyFront IsInside (t ∷ s) x
unfolding labelled_from IsBodySound
labelled_from_sound (Plain (signs.Inner w)) s x e = inner_sound w s x e
labelled_from_sound t s x e = widened (λ b k. k.0) (simple_sound simple_at simple_at_sound t s x e)

pub labelled_sound : (s : List Symbol) (x : BodyTree × List Symbol) → labelled_at s ≡ Some x → BodyFront IsInside s x
unfolding next_sign
labelled_sound [] x e = absurd cc
labelled_sound (t ∷ s) x e = labelled_from_sound t s x e

any_from_sound : (t : Symbol) (s : List Symbol) (x : BodyTree × List Symbol) → any_from (sign_of t) s ≡ Some x → BodyFront IsAny (t ∷ s) x
unfolding any_from
any_from_sound (Plain (signs.Outer w)) s x e = outer_sound w s x e
any_from_sound t s x e = widened (λ b k. tt) (labelled_from_sound t s x e)

pub any_sound : (s : List Symbol) (x : BodyTree × List Symbol) → any_at s ≡ Some x → BodyFront IsAny s x
unfolding next_sign
any_sound [] x e = absurd cc
any_sound (t ∷ s) x e = any_from_sound t s x e
