-- Lists are read exactly, and by a loop.
use Rattle.std.proofs.Common.{◌≡◌, ℕ, zero, suc, ◌<◌, List, [], ◌∷◌, ◌++◌, length, Option, Some, None, refl, sym, ap, subst, ◌∙◌, arith, append_assoc, map}
use Rattle.std.proofs.lemmas.List.{append-nil, map-append}
use Rattle.std.specs.Option.{option_map_or}
use Rattle.stapl_syntax.specs.declared.signs.Sign.TheVariants as signs
use Rattle.stapl_syntax.specs.Symbols.{Symbol, Plain}
use Rattle.stapl_syntax.specs.Parts.{Separated}
use Rattle.stapl_grammar.specs.declared.refused.Refused.{Refused}
use Rattle.stapl_grammar.specs.declared.refused.Refused.TheVariants.{Memory, Syntax}
use Rattle.stapl_grammar.specs.Given.{Fails}
use Rattle.stapl_grammar.specs.Looks.{after_symbol}
use Rattle.stapl_grammar.specs.Reading.{Reader}
use Rattle.stapl_grammar.specs.PartReading.{with_front, more_in, more_by, listed_by}
use Rattle.stapl_grammar.proofs.Tools.{by_step, some_is, choice_some, after_mark_some, after_join_some}
use Rattle.stapl_grammar.proofs.Steps.{bind_same, choice_same, Shortens}
use Rattle.stapl_grammar.proofs.LeafLaws.{Front}

pub after_symbol_some : (t : Symbol) (s r : List Symbol) → after_symbol t s ≡ Some r → s ≡ t ∷ r
after_symbol_some (Plain (signs.Mark m)) s r e = after_mark_some m s r e
after_symbol_some (Plain (signs.Join w)) s r e = after_join_some w s r e
after_symbol_some _ s r e = absurd cc

-- a mark or a word, by which a reader knows where it is
abbrev pub IsSign : Symbol → Type 0
IsSign t = (r : List Symbol) → after_symbol t (t ∷ r) ≡ Some r

-- ---- one equation for each step, and the steps of a loop

module _ {A : Type 0} (read : Reader A) (t : Symbol) (short : Shortens read) where
  more_same : (f g : ℕ) (s : List Symbol) → length s < f → length s < g → more_in f read t s ≡ more_in g read t s
  unfolding more_in
  more_same zero g s lf lg = absurd (omega arith)
  more_same (suc f) zero s lf lg = absurd (omega arith)
  more_same (suc f) (suc g) s lf lg =
      choice_same (after_symbol t s) _ _ _ _
      (λ r r-is. bind_same (read r) _ _ λ x x-is.
      let first = ap length (after_symbol_some t s r r-is) in
      ap (with_front (x.0 ∷ [])) (more_same f g x.1 (omega (arith, first, short r x x-is)) (omega (arith, first, short r x x-is))))
      refl

  more_is : (s : List Symbol) → more_by read t s ≡ option_map_or (λ r. listed_by read t r) (after_symbol t s) (Some ([], s))
  unfolding more_by more_in listed_by
  more_is s =
      choice_same (after_symbol t s) _ _ _ _
      (λ r r-is. bind_same (read r) _ _ λ x x-is.
      let first = ap length (after_symbol_some t s r r-is) in
      ap (with_front (x.0 ∷ [])) (more_same (length s) (suc (length x.1)) x.1 (omega (arith, first, short r x x-is)) (omega arith)))
      refl

front_front : {A : Type 0} (a b : List A) (o : Option (List A × List Symbol)) → with_front a (with_front b o) ≡ with_front (a ++ b) o
front_front {A} a b None = refl
front_front {A} a b (Some x) = ap (λ (l : List A). Some (l, x.1)) (sym (append_assoc a b x.0))

pub list_starts : {A : Type 0} (read : Reader A) (t : Symbol) (s : List Symbol) (x : A) (r : List Symbol) → read s ≡ Some (x, r) → with_front (x ∷ []) (more_by read t r) ≡ listed_by read t s
unfolding listed_by
list_starts read t s x r h = rw h

pub list_starts_not : {A : Type 0} (read : Reader A) (t : Symbol) (s : List Symbol) (e : Refused) → Fails e (read s) → Fails e (listed_by read t s)
unfolding listed_by
list_starts_not read t s Memory h = tt
list_starts_not read t s Syntax h = rw h

pub list_goes_on : {A : Type 0} (read : Reader A) (t : Symbol) → Shortens read → (front : List A) (s r : List Symbol) (x : A) (u : List Symbol) →
    after_symbol t s ≡ Some r → read r ≡ Some (x, u) → with_front (front ++ (x ∷ [])) (more_by read t u) ≡ with_front front (more_by read t s)
list_goes_on read t short front s r x u h g =
    let one : more_by read t s ≡ with_front (x ∷ []) (more_by read t u) = more_is read t short s ∙ rw h (sym (list_starts read t r x u g)) in
    rw one (sym (front_front front (x ∷ []) (more_by read t u)))

pub list_goes_on_not : {A : Type 0} (read : Reader A) (t : Symbol) → Shortens read → (front : List A) (s r : List Symbol) (e : Refused) → after_symbol t s ≡ Some r →
    Fails e (read r) → Fails e (with_front front (more_by read t s))
list_goes_on_not read t short front s r Memory h g = tt
list_goes_on_not read t short front s r Syntax h g = rw (more_is read t short s, h, list_starts_not read t r Syntax g)

pub list_is_done : {A : Type 0} (read : Reader A) (t : Symbol) → Shortens read → (front : List A) (s : List Symbol) → after_symbol t s ≡ None → with_front front (more_by read t s) ≡ Some (front, s)
list_is_done {A} read t short front s h = rw (more_is read t short s, h) (ap (λ (l : List A). Some (l, s)) (append-nil front))

-- one more item after those that the loop has
pub list_kept : {X A : Type 0} (read : Reader A) (t : Symbol) → Shortens read →
    (view : X → A) (old new : List X) (s r : List Symbol) (x : X) (u : List Symbol) (total : Option (List A × List Symbol)) → new ≡ old ++ (x ∷ []) →
    after_symbol t s ≡ Some r → read r ≡ Some (view x, u) → with_front (map view old) (more_by read t s) ≡ total → with_front (map view new) (more_by read t u) ≡ total
list_kept read t short view old new s r x u total n h g so_far =
    rw (n, map-append view old (x ∷ [])) (list_goes_on read t short (map view old) s r (view x) u h g ∙ so_far)

-- ---- what is read is a list of parts

more_sound : {A : Type 0} (P : A → List Symbol → Type 0) (read : Reader A) (t : Symbol) → ((s : List Symbol) (x : A × List Symbol) → read s ≡ Some x → Front P s x) →
    (f : ℕ) (x : A) (a s : List Symbol) (y : List A × List Symbol) → P x a → more_in f read t s ≡ Some y → (b : List Symbol) × (s ≡ b ++ y.1) × Separated P t (x ∷ y.0) (a ++ b)
unfolding more_in
more_sound P read t sound zero x a s y m e = absurd cc
more_sound {A} P read t sound (suc f) x a s y m e =
    choice_some (after_symbol t s) _ _ y e
    (λ none d. subst (λ (z : List A × List Symbol). (b : List Symbol) × (s ≡ b ++ z.1) × Separated P t (x ∷ z.0) (a ++ b)) (some_is ([], s) y d) ([], refl, rw append-nil m))
    (λ r r-is d.
    by_step (read r) _ y d λ u u-is e1.
    by_step (more_in f read t u.1) _ y e1 λ v v-is e2.
    let g = sound r u u-is in
    let rest = more_sound P read t sound f u.0 g.taken u.1 v g.meant v-is in
    subst (λ (z : List A × List Symbol). (b : List Symbol) × (s ≡ b ++ z.1) × Separated P t (x ∷ z.0) (a ++ b)) (some_is (u.0 ∷ v.0, v.1) y e2) (
      t ∷ (g.taken ++ rest.0),
      after_symbol_some t s r r-is ∙ ap (λ (l : List Symbol). t ∷ l) (g.parts ∙ ap (λ (l : List Symbol). g.taken ++ l) rest.1 ∙ sym (append_assoc g.taken rest.0 v.1)),
      (a, g.taken ++ rest.0, refl, m, rest.2),
    ))

pub list_sound : {A : Type 0} (P : A → List Symbol → Type 0) (read : Reader A) (t : Symbol) → ((s : List Symbol) (x : A × List Symbol) → read s ≡ Some x → Front P s x) →
    (s : List Symbol) (x : List A × List Symbol) → listed_by read t s ≡ Some x → Front (Separated P t) s x
unfolding listed_by more_by
list_sound {A} P read t sound s x e =
    by_step (read s) _ x e λ u u-is e1.
    by_step (more_by read t u.1) _ x e1 λ v v-is e2.
    let g = sound s u u-is in
    let rest = more_sound P read t sound (suc (length u.1)) u.0 g.taken u.1 v g.meant v-is in
    subst (Front (Separated P t) s) (some_is (u.0 ∷ v.0, v.1) x e2) (record {
      taken = g.taken ++ rest.0;
      parts = g.parts ∙ ap (λ (l : List Symbol). g.taken ++ l) rest.1 ∙ sym (append_assoc g.taken rest.0 v.1);
      meant = rest.2;
    })

-- ---- a list of parts is read

pub list_complete : {A : Type 0} (P : A → List Symbol → Type 0) (read : Reader A) (t : Symbol) → Shortens read → IsSign t → (Stops : List Symbol → Type 0) →
    ((x : A) (s r : List Symbol) → P x s → Stops r → read (s ++ r) ≡ Some (x, r)) → ((r : List Symbol) → Stops (t ∷ r))
    → (xs : List A) (s r : List Symbol) → Separated P t xs s → Stops r → after_symbol t r ≡ None → listed_by read t (s ++ r) ≡ Some (xs, r)
list_complete P read t short sign Stops reads stops [] s r m h none = absurd m
list_complete {A} P read t short sign Stops reads stops (x ∷ []) s r m h none =
    sym (list_starts read t (s ++ r) x r (reads x s r m h)) ∙ list_is_done read t short (x ∷ []) r none
list_complete {A} P read t short sign Stops reads stops (x ∷ y ∷ ys) s r m h none =
    let a = m.0 in
    let b = m.1 in
    let rest = list_complete P read t short sign Stops reads stops (y ∷ ys) b r m.4 h none in
    let one : listed_by read t (a ++ (t ∷ (b ++ r))) ≡ with_front (x ∷ []) (more_by read t (t ∷ (b ++ r))) =
    sym (list_starts read t (a ++ (t ∷ (b ++ r))) x (t ∷ (b ++ r)) (reads x a (t ∷ (b ++ r)) m.3 (stops (b ++ r)))) in
    let two : more_by read t (t ∷ (b ++ r)) ≡ Some (y ∷ ys, r) = rw (more_is read t short (t ∷ (b ++ r)), sign (b ++ r)) rest in
    rw (m.2, append_assoc a (t ∷ b) r, one, two) refl
