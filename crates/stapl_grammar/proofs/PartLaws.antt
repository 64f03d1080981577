-- A part is read exactly.
use Rattle.std.proofs.Common.{◌≡◌, ℕ, ◌<◌, Bool, true, false, cond, List, [], ◌∷◌, ◌++◌, length, Some, None, inl, inr, refl, sym, ap, subst, ◌∙◌, arith, append_assoc, length-append}
use Rattle.std.specs.Prelude.{◌⊎◌, codes}
use Rattle.std.proofs.lemmas.List.{append-nil}
use Rattle.std.proofs.lemmas.Slice.Eq.{bytes_eq-Decides}
use Rattle.stapl_lexer.specs.declared.terminal.Mark.{Mark}
use Rattle.stapl_lexer.specs.declared.terminal.Mark.TheVariants as marks
use Rattle.stapl_lexer.specs.declared.terminal.JoinWord.{JoinWord}
use Rattle.stapl_syntax.specs.declared.signs.Sign.TheVariants as signs
use Rattle.stapl_syntax.specs.Symbols.{Symbol, Plain, Text, Literal, CheckWord, sign_of}
use Rattle.stapl_syntax.specs.Expressions.{mark, name}
use Rattle.stapl_syntax.specs.Parts.{join, Part, IsPart, hz, a_name, a_state, a_number, a_signed, a_bit, a_text, a_literal, a_check_word, a_choice, an_expr, an_array, a_cell, a_target, a_print_part, an_export, some_states, after, before, maybe_hz, both, maybe, either, listed}
use Rattle.stapl_grammar.specs.Looks.{after_mark, after_symbol, begins}
use Rattle.stapl_grammar.specs.Reading.{next_sign, name_at, name_of, literal_at, next_operator}
use Rattle.stapl_grammar.specs.PartReading.{state_at, state_of, number_at, number_of, text_at, check_word_at, more_states_at, is_hz, after_hz, part_at}
use Rattle.stapl_grammar.proofs.Tools.{by_step, some_is, by_test, after_mark_here, after_join_here}
use Rattle.stapl_grammar.proofs.Steps.{Shortens}
use Rattle.stapl_grammar.proofs.Complete.{expr_read}
use Rattle.stapl_grammar.proofs.LeafLaws.{Front, name_some, state_some, number_some, text_some, literal_some, check_word_some, choice_sound, signed_sound, bit_sound, expr_front, cell_sound, target_part_sound, array_part_sound, print_part_sound, export_sound, states_sound, choice_complete, signed_complete, bit_complete, cell_part_complete, target_part_complete, array_part_complete, print_part_complete, states_complete}
use Rattle.stapl_grammar.proofs.Choice.{export_complete}
use Rattle.stapl_grammar.proofs.ListLaws.{after_symbol_some, IsSign, list_sound, list_complete}

-- ---- what is read is the part

-- after HZ
record AfterHz (s : List Symbol) : Type 0 where
  taken : List Symbol
  parts : s ≡ taken ++ after_hz s
  meant : (taken ≡ []) ⊎ (taken ≡ hz ∷ [])

hz_cond : (t : Symbol) (s : List Symbol) (test : Bool) → is_hz (sign_of t) ≡ test → (t ∷ s ≡ cond test (hz ∷ []) [] ++ cond test s (t ∷ s))
unfolding is_hz
hz_cond (Plain (signs.Name v)) s true e = ap (λ (w : List ℕ). name w ∷ s) ((bytes_eq-Decides v (codes "HZ")).0 e)
hz_cond t s false e = refl
hz_cond _ s true e = absurd cc

hz_taken : (t : Symbol) (s : List Symbol) (test : Bool) → is_hz (sign_of t) ≡ test → (taken : List Symbol) × (t ∷ s ≡ taken ++ cond test s (t ∷ s)) × ((taken ≡ []) ⊎ (taken ≡ hz ∷ []))
hz_taken t s true e = (hz ∷ [], hz_cond t s true e, inr refl)
hz_taken t s false e = ([], refl, inl refl)

hz_sound : (s : List Symbol) → (taken : List Symbol) × (s ≡ taken ++ after_hz s) × ((taken ≡ []) ⊎ (taken ≡ hz ∷ []))
unfolding after_hz
hz_sound [] = ([], refl, inl refl)
hz_sound (t ∷ s) = hz_taken t s (is_hz (sign_of t)) refl

-- a front of the symbols is the part with this value, and the rest stands after it
abbrev pub Begins : {A : Type 0} → Part A → List Symbol → A × List Symbol → Type 0
Begins p s x = Front (IsPart p) s x

pub part_sound : {A : Type 0} (p : Part A) (s : List Symbol) (x : A × List Symbol) → part_at p s ≡ Some x → Begins p s x
unfolding part_at
part_sound a_name s x e = record { taken = name x.0 ∷ []; parts = name_some s x e; meant = refl }
part_sound a_state s x e = record { taken = Plain (signs.State x.0) ∷ []; parts = state_some s x e; meant = refl }
part_sound a_number s x e = record { taken = Plain (signs.Number x.0) ∷ []; parts = number_some s x e; meant = refl }
part_sound a_signed s x e = let f = signed_sound s x e in record { taken = f.taken; parts = f.parts; meant = f.meant }
part_sound a_bit s x e = let f = bit_sound s x e in record { taken = f.taken; parts = f.parts; meant = f.meant }
part_sound a_text s x e = record { taken = Text x.0 ∷ []; parts = text_some s x e; meant = refl }
part_sound a_literal s x e = record { taken = Literal x.0 ∷ []; parts = literal_some s x e; meant = refl }
part_sound a_check_word s x e = record { taken = CheckWord x.0 ∷ []; parts = check_word_some s x e; meant = refl }
part_sound a_choice s x e = let f = choice_sound s x e in record { taken = f.taken; parts = f.parts; meant = f.meant }
part_sound an_expr s x e = let f = expr_front s x e in record { taken = f.taken; parts = f.parts; meant = f.meant }
part_sound an_array s x e = let f = array_part_sound s x e in record { taken = f.taken; parts = f.parts; meant = f.meant }
part_sound a_cell s x e = let f = cell_sound s x e in record { taken = f.taken; parts = f.parts; meant = f.meant }
part_sound a_target s x e = let f = target_part_sound s x e in record { taken = f.taken; parts = f.parts; meant = f.meant }
part_sound a_print_part s x e = let f = print_part_sound s x e in record { taken = f.taken; parts = f.parts; meant = f.meant }
part_sound an_export s x e = let f = export_sound s x e in record { taken = f.taken; parts = f.parts; meant = f.meant }
part_sound some_states s x e = let f = states_sound s x e in record { taken = f.taken; parts = f.parts; meant = f.meant }
part_sound (after t p) s x e =
    by_step (after_symbol t s) _ x e λ r r-is e1.
    let f = part_sound p r x e1 in
    record { taken = t ∷ f.taken; parts = after_symbol_some t s r r-is ∙ ap (λ (l : List Symbol). t ∷ l) f.parts; meant = (f.taken, refl, f.meant) }
part_sound (before p t) s x e =
    by_step (part_at p s) _ x e λ y y-is e1.
    by_step (after_symbol t y.1) _ x e1 λ r r-is e2.
    let f = part_sound p s y y-is in
    subst (Begins (before p t) s) (some_is (y.0, r) x e2) (record {
      taken = f.taken ++ (t ∷ []);
      parts = f.parts ∙ ap (λ (l : List Symbol). f.taken ++ l) (after_symbol_some t y.1 r r-is) ∙ sym (append_assoc f.taken (t ∷ []) r);
      meant = (f.taken, refl, f.meant);
    })
part_sound (maybe_hz p) s x e =
    by_step (part_at p s) _ x e λ y y-is e1.
    let f = part_sound p s y y-is in
    let h = hz_sound y.1 in
    subst (Begins (maybe_hz p) s) (some_is (y.0, after_hz y.1) x e1) (record {
      taken = f.taken ++ h.0;
      parts = f.parts ∙ ap (λ (l : List Symbol). f.taken ++ l) h.1 ∙ sym (append_assoc f.taken h.0 (after_hz y.1));
      meant = elim h.2 as (λ _. IsPart p y.0 (f.taken ++ h.0) ⊎ ((r : List Symbol) × (f.taken ++ h.0 ≡ r ++ (hz ∷ [])) × IsPart p y.0 r)) [
        | inl none ↦ inl (rw (none, append-nil) f.meant)
        | inr some ↦ inr (f.taken, ap (λ (l : List Symbol). f.taken ++ l) some, f.meant)
      ];
    })
part_sound (both p q) s x e =
    by_step (part_at p s) _ x e λ y y-is e1.
    by_step (part_at q y.1) _ x e1 λ z z-is e2.
    let f = part_sound p s y y-is in
    let g = part_sound q y.1 z z-is in
    subst (Begins (both p q) s) (some_is ((y.0, z.0), z.1) x e2) (record {
      taken = f.taken ++ g.taken;
      parts = f.parts ∙ ap (λ (l : List Symbol). f.taken ++ l) g.parts ∙ sym (append_assoc f.taken g.taken z.1);
      meant = (f.taken, g.taken, refl, f.meant, g.meant);
    })
part_sound (maybe p) s x e =
    by_test (begins p s) _ _ x e
    (λ yes d.
    by_step (part_at p s) _ x d λ y y-is e1.
    let f = part_sound p s y y-is in
    subst (Begins (maybe p) s) (some_is (Some y.0, y.1) x e1) (record { taken = f.taken; parts = f.parts; meant = f.meant }))
    (λ no d. subst (Begins (maybe p) s) (some_is (None, s) x d) (record { taken = []; parts = refl; meant = refl }))
part_sound (either p q) s x e =
    by_test (begins p s) _ _ x e
    (λ yes d.
    by_step (part_at p s) _ x d λ y y-is e1.
    let f = part_sound p s y y-is in
    subst (Begins (either p q) s) (some_is (inl y.0, y.1) x e1) (record { taken = f.taken; parts = f.parts; meant = f.meant }))
    (λ no d.
    by_step (part_at q s) _ x d λ y y-is e1.
    let f = part_sound q s y y-is in
    subst (Begins (either p q) s) (some_is (inr y.0, y.1) x e1) (record { taken = f.taken; parts = f.parts; meant = f.meant }))
part_sound (listed t p) s x e =
    let f = list_sound (IsPart p) (part_at p) t (λ r y d. part_sound p r y d) s x e in
    record { taken = f.taken; parts = f.parts; meant = f.meant }

-- ---- what is the part is read

-- what may stand after a part, so that its reading stops there
abbrev pub Follows : {A : Type 0} → Part A → List Symbol → Type 0
Follows an_expr r = (next_operator 10 r ≡ None) × (after_mark marks.LeftSquare r ≡ None)
Follows a_cell r = after_mark marks.LeftSquare r ≡ None
Follows a_print_part r = (next_operator 10 r ≡ None) × (after_mark marks.LeftSquare r ≡ None)
Follows an_export r = (next_operator 10 r ≡ None) × (after_mark marks.LeftSquare r ≡ None)
Follows some_states r = more_states_at r ≡ Some ([], r)
Follows (after t p) r = Follows p r
Follows (before p t) r = Unit {0}
Follows (maybe_hz p) r = Follows p r × Follows p (hz ∷ r) × (after_hz r ≡ r)
Follows (both p q) r = Follows p r × Follows q r
Follows (maybe p) r = (begins p r ≡ false) × Follows p r
Follows (either p q) r = Follows p r × Follows q r × (begins p r ≡ false)
Follows (listed t p) r = Follows p r × (after_symbol t r ≡ None)
Follows _ r = Unit {0}

-- the second part may stand after the first
pub record CanFollow {A B : Type 0} (p : Part A) (q : Part B) : Type 0 where
  pub by : (y : B) (b r : List Symbol) → IsPart q y b → Follows p r → Follows q r → Follows p (b ++ r)

-- a reader knows by looking whether the part stands here
pub record Shows {A : Type 0} (look : List Symbol → Bool) (answer : Bool) (p : Part A) : Type 0 where
  pub by : (x : A) (s r : List Symbol) → IsPart p x s → look r ≡ false → look (s ++ r) ≡ answer

-- the part has a symbol at least
pub record HasSymbols {A : Type 0} (p : Part A) : Type 0 where
  pub by : (x : A) (s : List Symbol) → IsPart p x s → 0 < length s

-- a reader can tell the parts of a part apart
abbrev pub IsApart : {A : Type 0} → Part A → Type 0
IsApart (after t p) = IsSign t × IsApart p
IsApart (before p t) = IsSign t × IsApart p × ((r : List Symbol) → Follows p (t ∷ r))
IsApart (maybe_hz p) = IsApart p
IsApart (both p q) = IsApart p × IsApart q × CanFollow p q
IsApart (maybe p) = IsApart p × Shows (begins p) true p
IsApart (either p q) = IsApart p × IsApart q × Shows (begins p) true p × Shows (begins p) false q
IsApart (listed t p) = IsSign t × IsApart p × HasSymbols p × ((r : List Symbol) → Follows p (t ∷ r))
IsApart _ = Unit {0}

pub part_shortens : {A : Type 0} (p : Part A) → HasSymbols p → Shortens (part_at p)
part_shortens p some s x e =
    let f = part_sound p s x e in
    omega (arith, some.by x.0 f.taken f.meant, ap length f.parts, length-append f.taken x.1)

-- looks may be true before they are looked at
pub part_complete : {A : Type 0} (p : Part A) → IsApart p → (x : A) (s : List Symbol) → IsPart p x s → (r : List Symbol) → Follows p r → part_at p (s ++ r) ≡ Some (x, r)
unfolding part_at name_at name_of state_at state_of number_at number_of text_at literal_at check_word_at next_sign after_hz is_hz
part_complete a_name apart x s m r f = rw m
part_complete a_state apart x s m r f = rw m
part_complete a_number apart x s m r f = rw m
part_complete a_signed apart x s m r f = signed_complete m r
part_complete a_bit apart x s m r f = bit_complete m r
part_complete a_text apart x s m r f = rw m
part_complete a_literal apart x s m r f = rw m
part_complete a_check_word apart x s m r f = rw m
part_complete a_choice apart x s m r f = choice_complete m r
part_complete an_expr apart x s m r f = expr_read s x r m f.0 f.1
part_complete an_array apart x s m r f = array_part_complete m r
part_complete a_cell apart x s m r f = cell_part_complete m r f
part_complete a_target apart x s m r f = target_part_complete m r
part_complete a_print_part apart x s m r f = print_part_complete m r f.0 f.1
part_complete an_export apart x s m r f = export_complete m r f.0 f.1
part_complete some_states apart x s m r f = states_complete m r f
part_complete (after t p) apart x s m r f = rw (m.1, apart.0 (m.0 ++ r)) (part_complete p apart.1 x m.0 m.2 r f)
part_complete (before p t) apart x s m r f =
    rw (m.1, append_assoc m.0 (t ∷ []) r, part_complete p apart.1 x m.0 m.2 (t ∷ r) (apart.2 r), apart.0 r)
part_complete (maybe_hz p) apart x s (inl m) r f = rw (part_complete p apart x s m r f.0, f.2) refl
part_complete (maybe_hz p) apart x s (inr m) r f =
    rw (m.1, append_assoc m.0 (hz ∷ []) r, part_complete p apart x m.0 m.2 (hz ∷ r) f.1) refl
part_complete (both p q) apart x s m r f =
    rw (m.2, append_assoc m.0 m.1 r, part_complete p apart.0 x.0 m.0 m.3 (m.1 ++ r) (apart.2.by x.1 m.1 r m.4 f.0 f.1), part_complete q apart.1 x.1 m.1 m.4 r f.1)
part_complete (maybe p) apart None s m r f = rw (m, f.0)
part_complete (maybe p) apart (Some x) s m r f = rw (apart.1.by x s r m f.0, part_complete p apart.0 x s m r f.1)
part_complete (either p q) apart (inl x) s m r f = rw (apart.2.by x s r m f.2, part_complete p apart.0 x s m r f.0)
part_complete (either p q) apart (inr y) s m r f = rw (apart.3.by y s r m f.2, part_complete q apart.1 y s m r f.1)
part_complete (listed t p) apart x s m r f =
    list_complete (IsPart p) (part_at p) t (part_shortens p apart.2) apart.0 (Follows p) (λ y a b k h. part_complete p apart.1 y a k b h) apart.3 x s r m f.0 f.1

-- a whole list that is the part is read
pub part_whole : {A : Type 0} (p : Part A) → IsApart p → (x : A) (s : List Symbol) → IsPart p x s → Follows p [] → part_at p s ≡ Some (x, [])
part_whole p apart x s m f = ap (λ (l : List Symbol). part_at p l) (sym (append-nil s)) ∙ part_complete p apart x s m [] f

pub mark_sign : (m : Mark) → IsSign (mark m)
mark_sign m r = after_mark_here m r

pub join_sign : (w : JoinWord) → IsSign (join w)
join_sign w r = after_join_here w r
