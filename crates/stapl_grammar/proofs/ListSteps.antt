-- The steps of the loops over lists.
use Rattle.std.proofs.Common.{◌≡◌, ℕ, ℤ, List, [], ◌∷◌, ◌++◌, true, false, Option, Some, None, refl, sym, ap, append_assoc}
use Rattle.std.proofs.lemmas.List.{append-nil}
use Rattle.stapl_lexer.specs.declared.terminal.Mark.TheVariants as marks
use Rattle.stapl_syntax.specs.declared.signs.Sign.TheVariants as signs
use Rattle.stapl_syntax.specs.Symbols.{Symbol, Plain}
use Rattle.stapl_syntax.specs.Trees.{ItemTree, PartTree}
use Rattle.stapl_syntax.specs.Parts.{a_name, a_signed, a_print_part, comma, item_part}
use Rattle.stapl_grammar.specs.declared.refused.Refused.{Refused}
use Rattle.stapl_grammar.specs.declared.refused.Refused.TheVariants.{Memory, Syntax}
use Rattle.stapl_grammar.specs.Given.{Fails}
use Rattle.stapl_grammar.specs.Looks.{after_mark, is_mark, mark_number, begins_state, is_state}
use Rattle.stapl_grammar.specs.Reading.{name_at, next_sign}
use Rattle.stapl_grammar.specs.PartReading.{part_at, signed_at, print_part_at, with_front, more_by, listed_by, state_at, state_of, more_states_at, states_at}
use Rattle.stapl_grammar.proofs.Tools.{after_mark_some}
use Rattle.stapl_grammar.proofs.Steps.{Shortens}
use Rattle.stapl_grammar.proofs.LeafLaws.{state_some}
use Rattle.stapl_grammar.proofs.PartLaws.{part_shortens}
use Rattle.stapl_grammar.proofs.ApartLaws.{has_name, has_item, has_signed, has_print_part}
use Rattle.stapl_grammar.proofs.ListLaws.{list_starts, list_starts_not, list_goes_on, list_goes_on_not, list_is_done}

pub name_short : Shortens name_at
unfolding part_at
name_short s x e = part_shortens a_name has_name s x e

pub item_short : Shortens (part_at item_part)
item_short s x e = part_shortens item_part has_item s x e

pub signed_short : Shortens signed_at
unfolding part_at
signed_short s x e = part_shortens a_signed has_signed s x e

pub part_short : Shortens print_part_at
unfolding part_at
part_short s x e = part_shortens a_print_part has_print_part s x e

pub name_starts : (s : List Symbol) (x : List ℕ) (r : List Symbol) → name_at s ≡ Some (x, r) → with_front (x ∷ []) (more_by name_at comma r) ≡ listed_by name_at comma s
name_starts s x r h = list_starts name_at comma s x r h

pub name_starts_not : (s : List Symbol) (e : Refused) → Fails e (name_at s) → Fails e (listed_by name_at comma s)
name_starts_not s e h = list_starts_not name_at comma s e h

pub name_goes_on : (front : List (List ℕ)) (s r : List Symbol) (x : List ℕ) (u : List Symbol) → after_mark marks.Comma s ≡ Some r → name_at r ≡ Some (x, u) →
    with_front (front ++ (x ∷ [])) (more_by name_at comma u) ≡ with_front front (more_by name_at comma s)
name_goes_on front s r x u h g = list_goes_on name_at comma name_short front s r x u h g

pub name_goes_on_not : (front : List (List ℕ)) (s r : List Symbol) (e : Refused) → after_mark marks.Comma s ≡ Some r → Fails e (name_at r) → Fails e (with_front front (more_by name_at comma s))
name_goes_on_not front s r e h g = list_goes_on_not name_at comma name_short front s r e h g

pub name_is_done : (front : List (List ℕ)) (s : List Symbol) → after_mark marks.Comma s ≡ None → with_front front (more_by name_at comma s) ≡ Some (front, s)
name_is_done front s h = list_is_done name_at comma name_short front s h

pub item_starts : (s : List Symbol) (x : ItemTree) (r : List Symbol) → part_at item_part s ≡ Some (x, r) →
    with_front (x ∷ []) (more_by (part_at item_part) comma r) ≡ listed_by (part_at item_part) comma s
item_starts s x r h = list_starts (part_at item_part) comma s x r h

pub item_starts_not : (s : List Symbol) (e : Refused) → Fails e (part_at item_part s) → Fails e (listed_by (part_at item_part) comma s)
item_starts_not s e h = list_starts_not (part_at item_part) comma s e h

pub item_goes_on : (front : List (ItemTree)) (s r : List Symbol) (x : ItemTree) (u : List Symbol) → after_mark marks.Comma s ≡ Some r →
    part_at item_part r ≡ Some (x, u) → with_front (front ++ (x ∷ [])) (more_by (part_at item_part) comma u) ≡ with_front front (more_by (part_at item_part) comma s)
item_goes_on front s r x u h g = list_goes_on (part_at item_part) comma item_short front s r x u h g

pub item_goes_on_not : (front : List (ItemTree)) (s r : List Symbol) (e : Refused) → after_mark marks.Comma s ≡ Some r → Fails e (part_at item_part r) →
    Fails e (with_front front (more_by (part_at item_part) comma s))
item_goes_on_not front s r e h g = list_goes_on_not (part_at item_part) comma item_short front s r e h g

pub item_is_done : (front : List (ItemTree)) (s : List Symbol) → after_mark marks.Comma s ≡ None → with_front front (more_by (part_at item_part) comma s) ≡ Some (front, s)
item_is_done front s h = list_is_done (part_at item_part) comma item_short front s h

pub signed_starts : (s : List Symbol) (x : ℤ) (r : List Symbol) → signed_at s ≡ Some (x, r) → with_front (x ∷ []) (more_by signed_at comma r) ≡ listed_by signed_at comma s
signed_starts s x r h = list_starts signed_at comma s x r h

pub signed_starts_not : (s : List Symbol) (e : Refused) → Fails e (signed_at s) → Fails e (listed_by signed_at comma s)
signed_starts_not s e h = list_starts_not signed_at comma s e h

pub signed_goes_on : (front : List (ℤ)) (s r : List Symbol) (x : ℤ) (u : List Symbol) → after_mark marks.Comma s ≡ Some r → signed_at r ≡ Some (x, u) →
    with_front (front ++ (x ∷ [])) (more_by signed_at comma u) ≡ with_front front (more_by signed_at comma s)
signed_goes_on front s r x u h g = list_goes_on signed_at comma signed_short front s r x u h g

pub signed_goes_on_not : (front : List (ℤ)) (s r : List Symbol) (e : Refused) → after_mark marks.Comma s ≡ Some r → Fails e (signed_at r) → Fails e (with_front front (more_by signed_at comma s))
signed_goes_on_not front s r e h g = list_goes_on_not signed_at comma signed_short front s r e h g

pub signed_is_done : (front : List (ℤ)) (s : List Symbol) → after_mark marks.Comma s ≡ None → with_front front (more_by signed_at comma s) ≡ Some (front, s)
signed_is_done front s h = list_is_done signed_at comma signed_short front s h

pub part_starts : (s : List Symbol) (x : PartTree) (r : List Symbol) → print_part_at s ≡ Some (x, r) → with_front (x ∷ []) (more_by print_part_at comma r) ≡ listed_by print_part_at comma s
part_starts s x r h = list_starts print_part_at comma s x r h

pub part_starts_not : (s : List Symbol) (e : Refused) → Fails e (print_part_at s) → Fails e (listed_by print_part_at comma s)
part_starts_not s e h = list_starts_not print_part_at comma s e h

pub part_goes_on : (front : List (PartTree)) (s r : List Symbol) (x : PartTree) (u : List Symbol) → after_mark marks.Comma s ≡ Some r → print_part_at r ≡ Some (x, u) →
    with_front (front ++ (x ∷ [])) (more_by print_part_at comma u) ≡ with_front front (more_by print_part_at comma s)
part_goes_on front s r x u h g = list_goes_on print_part_at comma part_short front s r x u h g

pub part_goes_on_not : (front : List (PartTree)) (s r : List Symbol) (e : Refused) → after_mark marks.Comma s ≡ Some r → Fails e (print_part_at r) →
    Fails e (with_front front (more_by print_part_at comma s))
part_goes_on_not front s r e h g = list_goes_on_not print_part_at comma part_short front s r e h g

pub part_is_done : (front : List (PartTree)) (s : List Symbol) → after_mark marks.Comma s ≡ None → with_front front (more_by print_part_at comma s) ≡ Some (front, s)
part_is_done front s h = list_is_done print_part_at comma part_short front s h

-- ---- states

comma_some : (r : List Symbol) (k : ℕ) (u : List Symbol) → state_at r ≡ Some (k, u) → more_states_at (comma ∷ r) ≡ with_front (k ∷ []) (more_states_at u)
unfolding more_states_at
comma_some r k u e = rw (state_some r (k, u) e) refl

comma_none : (r : List Symbol) → state_at r ≡ None → more_states_at (comma ∷ r) ≡ None
unfolding more_states_at state_at state_of next_sign
comma_none [] e = refl
comma_none (Plain (signs.State k) ∷ r) e = absurd cc
comma_none (t ∷ r) e = refl

pub state_after_comma : (s r : List Symbol) (k : ℕ) (u : List Symbol) → after_mark marks.Comma s ≡ Some r → state_at r ≡ Some (k, u) → more_states_at s ≡ with_front (k ∷ []) (more_states_at u)
state_after_comma s r k u h e = rw (after_mark_some marks.Comma s r h) (comma_some r k u e)

pub state_after_comma_not : (s r : List Symbol) (e : Refused) → after_mark marks.Comma s ≡ Some r → Fails e (state_at r) → Fails e (more_states_at s)
state_after_comma_not s r Memory h e = tt
state_after_comma_not s r Syntax h e = rw (after_mark_some marks.Comma s r h) (comma_none r e)

pub state_next : (s : List Symbol) (k : ℕ) (u : List Symbol) → state_at s ≡ Some (k, u) → more_states_at s ≡ with_front (k ∷ []) (more_states_at u)
unfolding more_states_at
state_next s k u e = rw (state_some s (k, u) e) refl

begins_read : (s : List Symbol) → begins_state s ≡ true → state_at s ≡ None → ⊥
unfolding begins_state is_state state_at state_of next_sign
begins_read [] b e = cc
begins_read (Plain (signs.State k) ∷ s) b e = cc
begins_read _ b e = cc

pub state_next_not : (s : List Symbol) (e : Refused) → begins_state s ≡ true → Fails e (state_at s) → Fails e (more_states_at s)
state_next_not s Memory b e = tt
state_next_not s Syntax b e = absurd (begins_read s b e)

pub state_is_done : (s : List Symbol) → after_mark marks.Comma s ≡ None → begins_state s ≡ false → more_states_at s ≡ Some ([], s)
unfolding more_states_at after_mark is_mark mark_number begins_state is_state
state_is_done [] h b = refl
state_is_done (Plain (signs.State k) ∷ s) h b = absurd cc
state_is_done (Plain (signs.Mark marks.Comma) ∷ s) h b = absurd cc
state_is_done _ h b = refl

pub states_start : (s : List Symbol) (k : ℕ) (r : List Symbol) → state_at s ≡ Some (k, r) → with_front (k ∷ []) (more_states_at r) ≡ states_at s
unfolding states_at
states_start s k r h = rw h

pub states_start_not : (s : List Symbol) (e : Refused) → Fails e (state_at s) → Fails e (states_at s)
unfolding states_at
states_start_not s Memory h = tt
states_start_not s Syntax h = rw h

front_front : (a b : List ℕ) (o : Option (List ℕ × List Symbol)) → with_front a (with_front b o) ≡ with_front (a ++ b) o
front_front a b None = refl
front_front a b (Some x) = ap (λ (l : List ℕ). Some (l, x.1)) (sym (append_assoc a b x.0))

pub states_go_on : (front : List ℕ) (s : List Symbol) (k : ℕ) (u : List Symbol) → more_states_at s ≡ with_front (k ∷ []) (more_states_at u) →
    with_front (front ++ (k ∷ [])) (more_states_at u) ≡ with_front front (more_states_at s)
states_go_on front s k u h = rw h (sym (front_front front (k ∷ []) (more_states_at u)))

pub states_fail : (front : List ℕ) (s : List Symbol) (e : Refused) → Fails e (more_states_at s) → Fails e (with_front front (more_states_at s))
states_fail front s Memory h = tt
states_fail front s Syntax h = rw h

pub states_done : (front : List ℕ) (s : List Symbol) → more_states_at s ≡ Some ([], s) → with_front front (more_states_at s) ≡ Some (front, s)
states_done front s h = rw h (ap (λ (l : List ℕ). Some (l, s)) (append-nil front))
