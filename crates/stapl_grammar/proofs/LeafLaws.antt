-- The parts that have no parts are read exactly.
use Rattle.std.proofs.Common.{◌≡◌, ℕ, ℤ, pos, zero, suc, ◌<◌, Bool, true, false, List, [], ◌∷◌, ◌++◌, length, Some, None, refl, ap, subst, ◌∙◌, arith}
use Rattle.std.specs.Int.{w32, int_wrapping_neg}
use Rattle.stapl_lexer.specs.declared.terminal.BinOp.TheVariants.{Subtract}
use Rattle.stapl_lexer.specs.declared.terminal.Mark.TheVariants as marks
use Rattle.stapl_lexer.specs.declared.terminal.JoinWord.TheVariants as joins
use Rattle.stapl_lexer.specs.declared.terminal.Function.TheVariants as functions
use Rattle.stapl_syntax.specs.declared.signs.Sign.TheVariants as signs
use Rattle.stapl_syntax.specs.declared.statement.ItemChoice.{ItemChoice}
use Rattle.stapl_syntax.specs.declared.statement.ItemChoice.TheVariants as choices
use Rattle.stapl_syntax.specs.Symbols.{Symbol, Plain, Text, Literal, CheckWord}
use Rattle.stapl_syntax.specs.Trees.{ExprTree, ArrayTree, PartTree, string, value, character, ExportTree, exported_value, exported_array}
use Rattle.stapl_syntax.specs.Expressions.{IsExpr, IsArray, IsTarget, IsCell, operator, mark, function, name, right_round}
use Rattle.stapl_syntax.specs.Parts.{IsSigned, unsigned, minus, IsBit, zero_bit, one_bit, IsChoice, optional_item, recommended_item, IsPrintPart, of_string, of_value, of_character, IsExported, of_exported_value, of_exported_array, AreStates, one_state, more_states, more_after_comma, comma}
use Rattle.stapl_grammar.specs.Looks.{after_mark, is_mark, mark_number, begins_text, begins_state, is_state, choice_of}
use Rattle.stapl_grammar.specs.Reading.{next_sign, name_at, name_of, literal_at, operator_of, next_operator, brackets_from, function_from, primary_from, unary_of, unary_by, expr}
use Rattle.stapl_grammar.specs.PartReading.{state_at, state_of, number_at, number_of, is_minus, after_minus, signed_at, bit_of, bit_at, text_at, check_word_at, choice_at, array_at, cell_at, target_at, is_character, after_character, print_part_at, export_at, more_states_at, states_at}
use Rattle.stapl_grammar.proofs.Tools.{by_step, some_is, choice_some, by_test}
use Rattle.stapl_grammar.proofs.Steps.{expr-is}
use Rattle.stapl_grammar.proofs.Sound.{IsFront, expr_sound, named_sound, target_sound, array_sound, word_sound}
use Rattle.stapl_grammar.proofs.Complete.{after_name, cell_complete, target_complete, array_complete, bracketed_complete, expr_read, whole_read}

-- ---- one symbol

pub name_some : (s : List Symbol) (x : List ℕ × List Symbol) → name_at s ≡ Some x → s ≡ name x.0 ∷ x.1
unfolding name_at name_of next_sign
name_some [] x e = absurd cc
name_some (Plain (signs.Name v) ∷ s) x e = ap (λ (y : List ℕ × List Symbol). name y.0 ∷ y.1) (some_is (v, s) x e)
name_some _ x e = absurd cc

pub state_some : (s : List Symbol) (x : ℕ × List Symbol) → state_at s ≡ Some x → s ≡ Plain (signs.State x.0) ∷ x.1
unfolding state_at state_of next_sign
state_some [] x e = absurd cc
state_some (Plain (signs.State k) ∷ s) x e = ap (λ (y : ℕ × List Symbol). Plain (signs.State y.0) ∷ y.1) (some_is (k, s) x e)
state_some _ x e = absurd cc

pub number_some : (s : List Symbol) (x : ℤ × List Symbol) → number_at s ≡ Some x → s ≡ Plain (signs.Number x.0) ∷ x.1
unfolding number_at number_of next_sign
number_some [] x e = absurd cc
number_some (Plain (signs.Number z) ∷ s) x e = ap (λ (y : ℤ × List Symbol). Plain (signs.Number y.0) ∷ y.1) (some_is (z, s) x e)
number_some _ x e = absurd cc

pub text_some : (s : List Symbol) (x : List ℕ × List Symbol) → text_at s ≡ Some x → s ≡ Text x.0 ∷ x.1
unfolding text_at
text_some [] x e = absurd cc
text_some (Text bytes ∷ s) x e = ap (λ (y : List ℕ × List Symbol). Text y.0 ∷ y.1) (some_is (bytes, s) x e)
text_some _ x e = absurd cc

pub literal_some : (s : List Symbol) (x : List Bool × List Symbol) → literal_at s ≡ Some x → s ≡ Literal x.0 ∷ x.1
unfolding literal_at
literal_some [] x e = absurd cc
literal_some (Literal bits ∷ s) x e = ap (λ (y : List Bool × List Symbol). Literal y.0 ∷ y.1) (some_is (bits, s) x e)
literal_some _ x e = absurd cc

pub check_word_some : (s : List Symbol) (x : ℕ × List Symbol) → check_word_at s ≡ Some x → s ≡ CheckWord x.0 ∷ x.1
unfolding check_word_at
check_word_some [] x e = absurd cc
check_word_some (CheckWord n ∷ s) x e = ap (λ (y : ℕ × List Symbol). CheckWord y.0 ∷ y.1) (some_is (n, s) x e)
check_word_some _ x e = absurd cc

pub after_minus_some : (s r : List Symbol) → after_minus s ≡ Some r → s ≡ operator Subtract ∷ r
unfolding after_minus is_minus
after_minus_some [] r e = absurd cc
after_minus_some (Plain (signs.Operator Subtract) ∷ s) r e = ap (λ (l : List Symbol). operator Subtract ∷ l) (some_is s r e)
after_minus_some _ r e = absurd cc

pub after_character_some : (s r : List Symbol) → after_character s ≡ Some r → s ≡ function functions.Character ∷ r
unfolding after_character is_character
after_character_some [] r e = absurd cc
after_character_some (Plain (signs.Function functions.Character) ∷ s) r e = ap (λ (l : List Symbol). function functions.Character ∷ l) (some_is s r e)
after_character_some _ r e = absurd cc

-- ---- what is read is the part: a front of the symbols, and the rest after it

pub record Front {A : Type 0} (P : A → List Symbol → Type 0) (s : List Symbol) (x : A × List Symbol) : Type 0 where
  pub taken : List Symbol
  pub parts : s ≡ taken ++ x.1
  pub meant : P x.0 taken

pub choice_sound : (s : List Symbol) (x : ItemChoice × List Symbol) → choice_at s ≡ Some x → Front (λ c l. IsChoice l c) s x
unfolding choice_at choice_of next_sign
choice_sound [] x e = absurd cc
choice_sound (Plain (signs.Join joins.Optional) ∷ s) x e =
    subst (Front (λ c l. IsChoice l c) (Plain (signs.Join joins.Optional) ∷ s)) (some_is (choices.Optional, s) x e)
    (record { taken = Plain (signs.Join joins.Optional) ∷ []; parts = refl; meant = optional_item })
choice_sound (Plain (signs.Join joins.Recommended) ∷ s) x e =
    subst (Front (λ c l. IsChoice l c) (Plain (signs.Join joins.Recommended) ∷ s)) (some_is (choices.Recommended, s) x e)
    (record { taken = Plain (signs.Join joins.Recommended) ∷ []; parts = refl; meant = recommended_item })
choice_sound _ x e = absurd cc

pub signed_sound : (s : List Symbol) (x : ℤ × List Symbol) → signed_at s ≡ Some x → Front (λ z l. IsSigned l z) s x
unfolding signed_at
signed_sound s x e =
    choice_some (after_minus s) _ _ x e
    (λ none d. record { taken = Plain (signs.Number x.0) ∷ []; parts = number_some s x d; meant = unsigned })
    (λ r r-is d.
    by_step (number_at r) _ x d λ y y-is e1.
    subst (Front (λ z l. IsSigned l z) s) (some_is (int_wrapping_neg w32 y.0, y.1) x e1) (record {
      taken = operator Subtract ∷ Plain (signs.Number y.0) ∷ [];
      parts = after_minus_some s r r-is ∙ ap (λ (l : List Symbol). operator Subtract ∷ l) (number_some r y y-is);
      meant = minus;
    }))

bit_meant : (z : ℤ) (bit : Bool) → bit_of z ≡ Some bit → IsBit (Plain (signs.Number z) ∷ []) bit
unfolding bit_of
bit_meant (pos zero) bit e = subst (IsBit (Plain (signs.Number (pos 0)) ∷ [])) (some_is false bit e) zero_bit
bit_meant (pos (suc zero)) bit e = subst (IsBit (Plain (signs.Number (pos 1)) ∷ [])) (some_is true bit e) one_bit
bit_meant _ bit e = absurd cc

pub bit_sound : (s : List Symbol) (x : Bool × List Symbol) → bit_at s ≡ Some x → Front (λ bit l. IsBit l bit) s x
unfolding bit_at
bit_sound s x e =
    by_step (number_at s) _ x e λ z z-is e1.
    by_step (bit_of z.0) _ x e1 λ bit bit-is e2.
    subst (Front (λ bit l. IsBit l bit) s) (some_is (bit, z.1) x e2) (record { taken = Plain (signs.Number z.0) ∷ []; parts = number_some s z z-is; meant = bit_meant z.0 bit bit-is })

pub expr_front : (s : List Symbol) (x : ExprTree × List Symbol) → expr 10 s ≡ Some x → IsFront (IsExpr 10) s x
unfolding expr
expr_front s x e = (expr_sound (suc (length s)) 10 s x e).front

pub cell_sound : (s : List Symbol) (x : ExprTree × List Symbol) → cell_at s ≡ Some x → Front (λ e l. IsCell l e) s x
unfolding cell_at
cell_sound s x e =
    by_step (name_at s) _ x e λ v v-is e1.
    let f = named_sound v.0 (expr 10) expr_front v.1 x e1 in
    record { taken = f.taken; parts = name_some s v v-is ∙ f.parts; meant = f.meant }

pub target_part_sound : (s : List Symbol) (x : ArrayTree × List Symbol) → target_at s ≡ Some x → Front (λ a l. IsTarget l a) s x
unfolding target_at
target_part_sound s x e =
    by_step (name_at s) _ x e λ v v-is e1.
    let f = target_sound v.0 (expr 10) expr_front v.1 x e1 in
    record { taken = f.taken; parts = name_some s v v-is ∙ f.parts; meant = f.meant }

pub array_part_sound : (s : List Symbol) (x : ArrayTree × List Symbol) → array_at s ≡ Some x → Front (λ a l. IsArray l a) s x
unfolding array_at
array_part_sound s x e =
    let f = array_sound (expr 10) expr_front s x e in
    record { taken = f.taken; parts = f.parts; meant = f.meant }

pub print_part_sound : (s : List Symbol) (x : PartTree × List Symbol) → print_part_at s ≡ Some x → Front (λ p l. IsPrintPart l p) s x
unfolding print_part_at
print_part_sound s x e =
    by_test (begins_text s) _ _ x e
    (λ yes d.
    by_step (text_at s) _ x d λ y y-is e1.
    subst (Front (λ p l. IsPrintPart l p) s) (some_is (string y.0, y.1) x e1) (record { taken = Text y.0 ∷ []; parts = text_some s y y-is; meant = of_string }))
    (λ no d.
    choice_some (after_character s) _ _ x d
    (λ none dd.
    by_step (expr 10 s) _ x dd λ y y-is e1.
    let f = expr_front s y y-is in
    subst (Front (λ p l. IsPrintPart l p) s) (some_is (value y.0, y.1) x e1) (record { taken = f.taken; parts = f.parts; meant = of_value f.meant }))
    (λ r r-is dd.
    let f = word_sound (function functions.Character) (IsExpr 10) IsPrintPart character (λ a y m. of_character m) (expr 10) expr_front r x dd in
    record { taken = f.taken; parts = after_character_some s r r-is ∙ f.parts; meant = f.meant }))

pub export_sound : (s : List Symbol) (x : ExportTree × List Symbol) → export_at s ≡ Some x → Front (λ p l. IsExported l p) s x
unfolding export_at
export_sound s x e =
    choice_some (array_at s) _ _ x e
    (λ none d.
    by_step (expr 10 s) _ x d λ y y-is e1.
    let f = expr_front s y y-is in
    subst (Front (λ p l. IsExported l p) s) (some_is (exported_value y.0, y.1) x e1) (record { taken = f.taken; parts = f.parts; meant = of_exported_value f.meant }))
    (λ y y-is d.
    let f = array_part_sound s y y-is in
    subst (Front (λ p l. IsExported l p) s) (some_is (exported_array y.0, y.1) x d) (record { taken = f.taken; parts = f.parts; meant = of_exported_array f.meant }))

-- ---- states

-- states after a first one
record MoreStates (s : List Symbol) (y : List ℕ × List Symbol) : Type 0 where
  taken : List Symbol
  parts : s ≡ taken ++ y.1
  meant : (k : ℕ) → AreStates (Plain (signs.State k) ∷ taken) (k ∷ y.0)

none_more : (s : List Symbol) (y : List ℕ × List Symbol) → Some ([], s) ≡ Some y → MoreStates s y
none_more s y e = subst (MoreStates s) (some_is ([], s) y e) (record { taken = []; parts = refl; meant = λ k. one_state })

more_states_sound : (s : List Symbol) (y : List ℕ × List Symbol) → more_states_at s ≡ Some y → MoreStates s y
unfolding more_states_at
more_states_sound [] y e = none_more [] y e
more_states_sound (Plain (signs.State k) ∷ s) y e =
    by_step (more_states_at s) _ y e λ z z-is e1.
    let f = more_states_sound s z z-is in
    subst (MoreStates (Plain (signs.State k) ∷ s)) (some_is (k ∷ z.0, z.1) y e1) (record {
      taken = Plain (signs.State k) ∷ f.taken;
      parts = ap (λ (l : List Symbol). Plain (signs.State k) ∷ l) f.parts;
      meant = λ j. more_states (f.meant k);
    })
more_states_sound (Plain (signs.Mark marks.Comma) ∷ Plain (signs.State k) ∷ s) y e =
    by_step (more_states_at s) _ y e λ z z-is e1.
    let f = more_states_sound s z z-is in
    subst (MoreStates (comma ∷ Plain (signs.State k) ∷ s)) (some_is (k ∷ z.0, z.1) y e1) (record {
      taken = comma ∷ Plain (signs.State k) ∷ f.taken;
      parts = ap (λ (l : List Symbol). comma ∷ Plain (signs.State k) ∷ l) f.parts;
      meant = λ j. more_after_comma (f.meant k);
    })
more_states_sound (Plain (signs.Mark marks.Comma) ∷ s) y e = absurd cc
more_states_sound s y e = none_more s y e

pub states_sound : (s : List Symbol) (x : List ℕ × List Symbol) → states_at s ≡ Some x → Front (λ ks l. AreStates l ks) s x
unfolding states_at
states_sound s x e =
    by_step (state_at s) _ x e λ k k-is e1.
    by_step (more_states_at k.1) _ x e1 λ y y-is e2.
    let f = more_states_sound k.1 y y-is in
    subst (Front (λ ks l. AreStates l ks) s) (some_is (k.0 ∷ y.0, y.1) x e2) (record {
      taken = Plain (signs.State k.0) ∷ f.taken;
      parts = state_some s k k-is ∙ ap (λ (l : List Symbol). Plain (signs.State k.0) ∷ l) f.parts;
      meant = f.meant k.0;
    })

comma_more : {s : List Symbol} {ks : List ℕ} → AreStates s ks → (r : List Symbol) → more_states_at (comma ∷ (s ++ r)) ≡ more_states_at (s ++ r)
unfolding more_states_at
comma_more one_state r = refl
comma_more (more_states m) r = refl
comma_more (more_after_comma m) r = refl

more_complete : {s : List Symbol} {ks : List ℕ} → AreStates s ks → (r : List Symbol) → more_states_at r ≡ Some ([], r) → more_states_at (s ++ r) ≡ Some (ks, r)
unfolding more_states_at
more_complete one_state r h = rw h refl
more_complete (more_states m) r h = rw (more_complete m r h) refl
more_complete (more_after_comma m) r h = rw (comma_more m r, more_complete m r h) refl

pub states_complete : {s : List Symbol} {ks : List ℕ} → AreStates s ks → (r : List Symbol) → more_states_at r ≡ Some ([], r) → states_at (s ++ r) ≡ Some (ks, r)
unfolding states_at state_at state_of next_sign
states_complete one_state r h = rw h refl
states_complete (more_states m) r h = rw (more_complete m r h) refl
states_complete (more_after_comma m) r h = rw (comma_more m r, more_complete m r h) refl

-- ---- what is the part is read

pub choice_complete : {s : List Symbol} {c : ItemChoice} → IsChoice s c → (r : List Symbol) → choice_at (s ++ r) ≡ Some (c, r)
unfolding choice_at choice_of next_sign
choice_complete optional_item r = refl
choice_complete recommended_item r = refl

pub signed_complete : {s : List Symbol} {z : ℤ} → IsSigned s z → (r : List Symbol) → signed_at (s ++ r) ≡ Some (z, r)
unfolding signed_at after_minus is_minus number_at number_of next_sign
signed_complete unsigned r = refl
signed_complete minus r = refl

pub bit_complete : {s : List Symbol} {bit : Bool} → IsBit s bit → (r : List Symbol) → bit_at (s ++ r) ≡ Some (bit, r)
unfolding bit_at bit_of number_at number_of next_sign
bit_complete zero_bit r = refl
bit_complete one_bit r = refl

pub cell_part_complete : {s : List Symbol} {e : ExprTree} → IsCell s e → (r : List Symbol) → after_mark marks.LeftSquare r ≡ None → cell_at (s ++ r) ≡ Some (e, r)
unfolding cell_at after_name
cell_part_complete m r h = cell_complete m r h

pub target_part_complete : {s : List Symbol} {a : ArrayTree} → IsTarget s a → (r : List Symbol) → target_at (s ++ r) ≡ Some (a, r)
unfolding target_at after_name
target_part_complete m r = target_complete m r

pub array_part_complete : {s : List Symbol} {a : ArrayTree} → IsArray s a → (r : List Symbol) → array_at (s ++ r) ≡ Some (a, r)
unfolding array_at
array_part_complete m r = array_complete m r

-- an expression begins with no state, no string and not with CHR$
pub record BeginsTerm (s : List Symbol) : Type 0 where
  pub state : begins_state s ≡ false
  pub text : begins_text s ≡ false
  pub character : after_character s ≡ None
  pub closing : after_mark marks.RightSquare s ≡ None

nothing_read : expr 10 [] ≡ None
unfolding unary_by
nothing_read = expr-is 10 []

text_read : (bytes : List ℕ) (s : List Symbol) → expr 10 (Text bytes ∷ s) ≡ None
unfolding unary_by unary_of primary_from
text_read bytes s = expr-is 10 (Text bytes ∷ s)

state_read : (k : ℕ) (s : List Symbol) → expr 10 (Plain (signs.State k) ∷ s) ≡ None
unfolding unary_by unary_of primary_from
state_read k s = expr-is 10 (Plain (signs.State k) ∷ s)

character_read : (s : List Symbol) → expr 10 (function functions.Character ∷ s) ≡ None
unfolding unary_by unary_of primary_from function_from
character_read s = expr-is 10 (function functions.Character ∷ s)

closing_read : (s : List Symbol) → expr 10 (mark marks.RightSquare ∷ s) ≡ None
unfolding unary_by unary_of primary_from brackets_from
closing_read s = expr-is 10 (mark marks.RightSquare ∷ s)

-- an expression has a symbol
pub some_symbol : (s : List Symbol) (e : ExprTree) → IsExpr 10 s e → 0 < length s
some_symbol [] e m = let read = whole_read [] e m in let none = nothing_read in absurd cc
some_symbol (t ∷ s) e m = omega arith

pub begins_term : (s : List Symbol) (e : ExprTree) → IsExpr 10 s e → (r : List Symbol) → BeginsTerm (s ++ r)
unfolding begins_state is_state begins_text after_character is_character after_mark is_mark mark_number
begins_term [] e m r = let read = whole_read [] e m in let none = nothing_read in absurd cc
begins_term (Text bytes ∷ s) e m r = let read = whole_read (Text bytes ∷ s) e m in let none = text_read bytes s in absurd cc
begins_term (Plain (signs.State k) ∷ s) e m r = let read = whole_read (Plain (signs.State k) ∷ s) e m in let none = state_read k s in absurd cc
begins_term (Plain (signs.Function functions.Character) ∷ s) e m r = let read = whole_read (function functions.Character ∷ s) e m in let none = character_read s in absurd cc
begins_term (Plain (signs.Mark marks.RightSquare) ∷ s) e m r = let read = whole_read (mark marks.RightSquare ∷ s) e m in let none = closing_read s in absurd cc
begins_term _ e m r = record { state = refl; text = refl; character = refl; closing = refl }

pub print_part_complete : {s : List Symbol} {p : PartTree} → IsPrintPart s p → (r : List Symbol) → next_operator 10 r ≡ None → after_mark marks.LeftSquare r ≡ None →
    print_part_at (s ++ r) ≡ Some (p, r)
unfolding print_part_at begins_text text_at after_character is_character next_operator operator_of after_mark is_mark mark_number
print_part_complete of_string r none bracket = refl
print_part_complete (of_value {s = s} {e = e} m) r none bracket =
    let first = begins_term s e m r in
    rw (first.text, first.character, expr_read s e r m none bracket) refl
print_part_complete (of_character {s = s} {e = e} m) r none bracket =
    rw (bracketed_complete (expr 10) s r e (expr_read s e (right_round ∷ r) m refl refl)) refl
