-- Brackets tell an array from an expression: where an expression is read, no array is.
use Rattle.std.proofs.Common.{◌≡◌, ℕ, List, [], ◌∷◌, ◌++◌, Some, None, refl, sym, ◌∙◌}
use Rattle.stapl_lexer.specs.declared.terminal.Mark.TheVariants as marks
use Rattle.stapl_lexer.specs.declared.terminal.Function.TheVariants as functions
use Rattle.stapl_syntax.specs.declared.signs.Sign.TheVariants as signs
use Rattle.stapl_syntax.specs.Symbols.{Symbol, Plain, Literal}
use Rattle.stapl_syntax.specs.Trees.{ExprTree, ExportTree}
use Rattle.stapl_syntax.specs.Expressions.{right_square}
use Rattle.stapl_syntax.specs.Parts.{IsExported, of_exported_value, of_exported_array}
use Rattle.stapl_grammar.specs.Looks.{after_mark, is_mark, mark_number}
use Rattle.stapl_grammar.specs.Reading.{next_sign, next_operator, literal_at, closed_by, named_by, target_by, target_from, range_by, array_by, array_from, bool_from, brackets_from, function_from, primary_from, unary_of, unary_by, expr}
use Rattle.stapl_grammar.specs.PartReading.{array_at, export_at}
use Rattle.stapl_grammar.proofs.Tools.{by_step, choice_some, after_mark_some}
use Rattle.stapl_grammar.proofs.Steps.{expr-is}
use Rattle.stapl_grammar.proofs.Complete.{not_closing, expr_read}
use Rattle.stapl_grammar.proofs.LeafLaws.{array_part_complete}

square_no_dots : (r : List Symbol) → after_mark marks.Dots (right_square ∷ r) ≡ None
unfolding after_mark is_mark mark_number
square_no_dots r = refl

named_no_array : (v : List ℕ) (s : List Symbol) (u : ExprTree × List Symbol) → named_by (expr 10) v s ≡ Some u → target_by (expr 10) v s ≡ None
unfolding named_by closed_by target_by target_from range_by
named_no_array v s u e =
    choice_some (after_mark marks.LeftSquare s) _ _ u e
    (λ none d. rw none)
    (λ inner i-is d.
    by_step (closed_by marks.RightSquare (expr 10) inner) _ u d λ c c-is d2.
    by_step (expr 10 inner) _ c c-is λ h h-is d3.
    by_step (after_mark marks.RightSquare h.1) _ c d3 λ r r-is d4.
    rw (i-is, not_closing inner h h-is, h-is, after_mark_some marks.RightSquare h.1 r r-is, square_no_dots r) refl)

unary_no_array : (s : List Symbol) (u : ExprTree × List Symbol) → unary_by (expr 10) s ≡ Some u → array_by (expr 10) s ≡ None
unfolding unary_by unary_of primary_from brackets_from function_from array_by array_from bool_from literal_at next_sign
unary_no_array [] u e = refl
unary_no_array (Literal bits ∷ s) u e = absurd cc
unary_no_array (Plain (signs.Name v) ∷ s) u e = named_no_array v s u e
unary_no_array (Plain (signs.Function functions.Bool) ∷ s) u e = absurd cc
unary_no_array _ u e = refl

expr_no_array : (s : List Symbol) (x : ExprTree × List Symbol) → expr 10 s ≡ Some x → array_at s ≡ None
unfolding array_at
expr_no_array s x e = by_step (unary_by (expr 10) s) _ x (sym (expr-is 10 s) ∙ e) λ u u-is d. unary_no_array s u u-is

pub export_complete : {s : List Symbol} {x : ExportTree} → IsExported s x → (r : List Symbol) → next_operator 10 r ≡ None → after_mark marks.LeftSquare r ≡ None → export_at (s ++ r) ≡ Some (x, r)
unfolding export_at
export_complete (of_exported_value {s = s} {e = e} m) r none bracket =
    let read = expr_read s e r m none bracket in
    rw (expr_no_array (s ++ r) (e, r) read, read) refl
export_complete (of_exported_array m) r none bracket = rw (array_part_complete m r) refl
