-- The steps of the code that finds the reason of symbols that are no statement.
use Rattle.std.proofs.Common.{◌≡◌, List, [], ◌∷◌, true, false, not, Some, None, refl, ap}
use Rattle.stapl_lexer.specs.declared.terminal.Mark.TheVariants as marks
use Rattle.stapl_syntax.specs.declared.signs.Sign.{Sign}
use Rattle.stapl_syntax.specs.declared.signs.Sign.TheVariants as signs
use Rattle.stapl_syntax.specs.Symbols.{Symbol, Plain, sign_of}
use Rattle.stapl_syntax.specs.Reasons.{begins_statement, after_label, is_unknown, is_left_out, holds_left_out}
use Rattle.stapl_grammar.specs.Looks.{after_mark, is_mark, mark_number}
use Rattle.stapl_grammar.specs.Reading.{next_sign, name_at, name_of}
use Rattle.stapl_grammar.specs.BodyReading.{label_at}

-- what stands after the label
pub after_is : (s : List Symbol) → after_label s ≡ (label_at s).1
unfolding after_label label_at name_at name_of next_sign after_mark is_mark mark_number
after_is [] = refl
after_is (Plain (signs.Name v) ∷ []) = refl
after_is (Plain (signs.Name v) ∷ Plain (signs.Mark marks.Colon) ∷ s) = refl
after_is (Plain (signs.Name v) ∷ t ∷ s) = refl
after_is (t ∷ s) = refl

-- the first sign and the rest, where there is one
first_is : (g : Sign) (s r : List Symbol) → next_sign s ≡ Some (g, r) → (t : Symbol) × (s ≡ t ∷ r) × (sign_of t ≡ g)
unfolding next_sign
first_is g [] r h = absurd cc
first_is g (t ∷ s) r h =
    let both : ◌≡◌ {A = Sign × List Symbol} (sign_of t, s) (g, r) = cc in
    (t, ap (λ (x : Sign × List Symbol). t ∷ x.1) both, ap (λ (x : Sign × List Symbol). x.0) both)

pub unknown_is : (g : Sign) (s r : List Symbol) → next_sign s ≡ Some (g, r) → is_unknown s ≡ not (begins_statement g r)
unfolding is_unknown
unknown_is g s r h = let f = first_is g s r h in rw (f.1, f.2) refl

pub unknown_nothing : (s : List Symbol) → next_sign s ≡ None → is_unknown s ≡ false
unfolding is_unknown next_sign
unknown_nothing [] h = refl
unknown_nothing (t ∷ s) h = absurd cc

pub left_out_here : (g : Sign) (s r : List Symbol) → next_sign s ≡ Some (g, r) → is_left_out g ≡ true → holds_left_out s ≡ true
left_out_here g s r h e = let f = first_is g s r h in rw (f.1, f.2, e) refl

pub left_out_after : (g : Sign) (s r : List Symbol) → next_sign s ≡ Some (g, r) → is_left_out g ≡ false → holds_left_out s ≡ holds_left_out r
left_out_after g s r h e = let f = first_is g s r h in rw (f.1, f.2, e) refl

pub left_out_nothing : (s : List Symbol) → next_sign s ≡ None → holds_left_out s ≡ false
unfolding next_sign
left_out_nothing [] h = refl
left_out_nothing (t ∷ s) h = absurd cc
