-- Of all symbols that are an expression, those that are printed for it have the fewest brackets, and no others have as
-- few.
use Rattle.std.proofs.Common.{◌≡◌, ℕ, suc, ◌-◌, ◌<◌, ◌≤◌, Bool, true, List, [], ◌∷◌, ◌++◌, inl, inr, ◌⊎◌, refl, sym, ap}
use Rattle.std.proofs.Common.{subst, ◌∙◌, arith}
use Rattle.stapl_lexer.specs.Depth.{is_opening}
use Rattle.stapl_lexer.specs.declared.terminal.BinOp.TheVariants.{Subtract}
use Rattle.stapl_lexer.specs.declared.terminal.Function.TheVariants as functions
use Rattle.stapl_lexer.specs.declared.terminal.Mark.TheVariants as marks
use Rattle.stapl_syntax.specs.Symbols.{Symbol}
use Rattle.stapl_syntax.specs.Trees.{ExprTree, ArrayTree}
use Rattle.stapl_syntax.specs.Expressions.{level_of, operator, mark, function, name, left_round, right_round}
use Rattle.stapl_syntax.specs.Expressions.{left_square, right_square, dots}
use Rattle.stapl_syntax.specs.Expressions.{IsExpr, of_unary, tighter, of_binary, IsUnary, negation, complement, negated}
use Rattle.stapl_syntax.specs.Expressions.{of_primary}
use Rattle.stapl_syntax.specs.Expressions.{IsPrimary, of_number, of_cell, of_brackets, of_abs, of_array, IsCell}
use Rattle.stapl_syntax.specs.Expressions.{of_scalar, of_element}
use Rattle.stapl_syntax.specs.Expressions.{IsTarget, of_whole, of_range, IsArray, of_literal, of_target, of_expr}
use Rattle.canonical_text.specs.PrintedTokens.{Printed, Seen, unary_symbol}
use Rattle.canonical_text.specs.PrintedStatements.{expr_tokens, array_tokens}
use Rattle.canonical_text.specs.Printable.{sign_terminal, symbol_terminal, opens, one_if, weight, openings}
use Rattle.canonical_text.proofs.Grammar.{symbols, symbols-append}
use Rattle.canonical_text.proofs.Kept.{weight-append}
use Rattle.syntax_laws.specs.Brackets.{printed, printed_array, in_brackets}
use Rattle.canonical_text.proofs.Standing.{sides_at, Stands, plain, looser, stands}

-- ---- whatever is counted, if opening brackets are

module _ (f : Symbol → Bool) (counted : f left_round ≡ true) where
  -- the symbols are those that are printed, or more is counted in them
  abbrev pub Fewest : List Symbol → List Symbol → Type 0
  Fewest p s = (s ≡ p) ⊎ (weight f p < weight f s)

  joined : (p q s t : List Symbol) → Fewest p s → Fewest q t → Fewest (p ++ q) (s ++ t)
  joined p q s t (inl e) (inl g) = inl (ap (λ v. v ++ t) e ∙ ap (λ v. p ++ v) g)
  joined p q s t (inl e) (inr more) =
      inr (omega (arith, weight-append f p q, weight-append f s t, ap (weight f) e, more))
  joined p q s t (inr more) (inl g) =
      inr (omega (arith, weight-append f p q, weight-append f s t, ap (weight f) g, more))
  joined p q s t (inr more) (inr most) = inr (omega (arith, weight-append f p q, weight-append f s t, more, most))

  then : (t : Symbol) (p s : List Symbol) → Fewest p s → Fewest (t ∷ p) (t ∷ s)
  then t p s h = joined (t ∷ []) p (t ∷ []) s (inl refl) h

  both : (ts us : List Printed) (s t : List Symbol) → Fewest (symbols ts) s → Fewest (symbols us) t →
      Fewest (symbols (ts ++ us)) (s ++ t)
  both ts us s t h i =
      subst (λ (v : List Symbol). Fewest v (s ++ t)) (sym (symbols-append ts us))
      (joined (symbols ts) (symbols us) s t h i)

  enclosed : (t u : Symbol) (ts : List Printed) (s : List Symbol) → Fewest (symbols ts) s →
      Fewest (symbols (Seen t ∷ (ts ++ Seen u ∷ []))) (t ∷ (s ++ u ∷ []))
  enclosed t u ts s h = then t _ _ (both ts (Seen u ∷ []) s (u ∷ []) h (inl refl))

  heavier : (s : List Symbol) → weight f s < weight f (in_brackets s)
  heavier s = omega (arith, ap one_if counted, weight-append f s (right_round ∷ []))

  -- a pair of brackets around an expression: it is printed there, or it is one too many
  around : (n : ℕ) (e : ExprTree) (s : List Symbol) → Stands n e → Fewest (printed e) s →
      Fewest (symbols (expr_tokens n e)) (in_brackets s)
  around n e s (plain same) (inl g) =
      inr (omega (arith, ap (λ v. weight f (symbols v)) same, ap (weight f) g, heavier s))
  around n e s (plain same) (inr more) = inr (omega (arith, ap (λ v. weight f (symbols v)) same, more, heavier s))
  around n e s (looser same) h =
      subst (λ (v : List Printed). Fewest (symbols v) (in_brackets s)) (sym same)
      (enclosed left_round right_round (expr_tokens 10 e) s h)

  mutual
    unfolding unary_symbol

    pub expr_fewest : (m n : ℕ) (s : List Symbol) (e : ExprTree) → IsExpr m s e → m ≤ n →
        Fewest (symbols (expr_tokens n e)) s
    expr_fewest _ n _ _ (of_unary {s = s} {e = e} d) le = unary_fewest n s e d
    expr_fewest _ n _ _ (tighter {n = m} {s = s} {e = e} d) le = expr_fewest m n s e d (omega arith)
    expr_fewest _ n _ _ (of_binary {n = m} {a = a} {b = b} {x = x} {y = y} op level left right) le =
        subst (λ (v : List Printed). Fewest (symbols v) (a ++ operator op ∷ b))
        (sym (sides_at n op x y (omega (arith, level))))
        (both (expr_tokens (level_of op) x) (Seen (operator op) ∷ expr_tokens (level_of op - 1) y) a (operator op ∷ b)
        (expr_fewest (suc m) (level_of op) a x left (omega (arith, level)))
        (then (operator op) _ b (expr_fewest m (level_of op - 1) b y right (omega (arith, level)))))

    unary_fewest : (n : ℕ) (s : List Symbol) (e : ExprTree) → IsUnary s e → Fewest (symbols (expr_tokens n e)) s
    unary_fewest n _ _ (negation {s = s} {e = e} d) = then (operator Subtract) _ s (unary_fewest 0 s e d)
    unary_fewest n _ _ (complement {s = s} {e = e} d) = then (mark marks.Tilde) _ s (unary_fewest 0 s e d)
    unary_fewest n _ _ (negated {s = s} {e = e} d) = then (mark marks.Exclamation) _ s (unary_fewest 0 s e d)
    unary_fewest n _ _ (of_primary {s = s} {e = e} d) = primary_fewest n s e d

    primary_fewest : (n : ℕ) (s : List Symbol) (e : ExprTree) → IsPrimary s e → Fewest (symbols (expr_tokens n e)) s
    primary_fewest n _ _ of_number = inl refl
    primary_fewest n _ _ (of_cell {s = s} {e = e} d) = cell_fewest n s e d
    primary_fewest n _ _ (of_brackets {s = s} {e = e} d) =
        around n e s (stands n e) (expr_fewest 10 10 s e d (omega arith))
    primary_fewest n _ _ (of_abs {s = s} {e = e} d) =
        then (function functions.Abs) _ _
        (enclosed left_round right_round (expr_tokens 10 e) s (expr_fewest 10 10 s e d (omega arith)))
    primary_fewest n _ _ (of_array {s = s} {a = a} d) =
        then (function functions.Int) _ _ (enclosed left_round right_round (array_tokens a) s (array_fewest s a d))

    pub cell_fewest : (n : ℕ) (s : List Symbol) (e : ExprTree) → IsCell s e → Fewest (symbols (expr_tokens n e)) s
    cell_fewest n _ _ of_scalar = inl refl
    cell_fewest n _ _ (of_element {v = v} {s = s} {e = e} d) =
        then (name v) _ _
        (enclosed left_square right_square (expr_tokens 10 e) s (expr_fewest 10 10 s e d (omega arith)))

    pub target_fewest : (s : List Symbol) (a : ArrayTree) → IsTarget s a → Fewest (symbols (array_tokens a)) s
    target_fewest _ _ of_whole = inl refl
    target_fewest _ _ (of_range {v = v} {a = a} {b = b} {x = x} {y = y} c d) =
        let first = expr_fewest 10 10 a x c (omega arith) in
        let last = expr_fewest 10 10 b y d (omega arith) in
        then (name v) _ _
        (then left_square _ _ (both (expr_tokens 10 x) (Seen dots ∷ (expr_tokens 10 y ++ Seen right_square ∷ [])) a _
        first (enclosed dots right_square (expr_tokens 10 y) b last)))

    pub array_fewest : (s : List Symbol) (a : ArrayTree) → IsArray s a → Fewest (symbols (array_tokens a)) s
    array_fewest _ _ of_literal = inl refl
    array_fewest _ _ (of_target {s = s} {a = a} d) = target_fewest s a d
    array_fewest _ _ (of_expr {s = s} {e = e} d) =
        then (function functions.Bool) _ _
        (enclosed left_round right_round (expr_tokens 10 e) s (expr_fewest 10 10 s e d (omega arith)))

-- ---- brackets

left_opens : opens left_round ≡ true
unfolding symbol_terminal sign_terminal is_opening
left_opens = refl

at_most : (p s : List Symbol) → Fewest opens left_opens p s → openings p ≤ openings s
at_most p s (inl e) = omega (arith, ap openings e)
at_most p s (inr more) = omega (arith, more)

no_others : (p s : List Symbol) → Fewest opens left_opens p s → openings s ≤ openings p → s ≡ p
no_others p s (inl e) le = e
no_others p s (inr more) le = absurd (omega (arith, more, le))

printed_fewest : (s : List Symbol) (e : ExprTree) → IsExpr 10 s e → Fewest opens left_opens (printed e) s
printed_fewest s e d = expr_fewest opens left_opens 10 10 s e d (omega arith)

pub fewest_brackets : (s : List Symbol) (e : ExprTree) → IsExpr 10 s e → openings (printed e) ≤ openings s
fewest_brackets s e d = at_most (printed e) s (printed_fewest s e d)

pub no_others_as_few : (s : List Symbol) (e : ExprTree) → IsExpr 10 s e → openings s ≤ openings (printed e) →
    s ≡ printed e
no_others_as_few s e d = no_others (printed e) s (printed_fewest s e d)

pub fewest_of_array : (s : List Symbol) (a : ArrayTree) → IsArray s a → openings (printed_array a) ≤ openings s
fewest_of_array s a d = at_most (printed_array a) s (array_fewest opens left_opens s a d)

pub no_others_of_array : (s : List Symbol) (a : ArrayTree) → IsArray s a → openings s ≤ openings (printed_array a) →
    s ≡ printed_array a
no_others_of_array s a d = no_others (printed_array a) s (array_fewest opens left_opens s a d)

-- ---- a pair of brackets that is left out

one_less : (before own after : List Symbol) →
    openings (before ++ (own ++ after)) < openings (before ++ (in_brackets own ++ after))
one_less before own after =
    let less = heavier opens left_opens own in
    let bare = weight-append opens before (own ++ after) in
    let whole = weight-append opens before (in_brackets own ++ after) in
    let rest = weight-append opens own after in
    let all = weight-append opens (in_brackets own) after in
    omega (arith, less, bare, whole, rest, all)

pub left_out : (p before own after : List Symbol) → p ≡ before ++ (in_brackets own ++ after) →
    openings p ≤ openings (before ++ (own ++ after)) → ⊥
left_out p before own after e le = let less = one_less before own after in omega (arith, ap openings e, le, less)

pub none_left_out : (e : ExprTree) (before own after : List Symbol) → printed e ≡ before ++ (in_brackets own ++ after) →
    IsExpr 10 (before ++ (own ++ after)) e → ⊥
none_left_out e before own after is d = left_out (printed e) before own after is (fewest_brackets _ e d)

pub none_left_out_of_array : (a : ArrayTree) (before own after : List Symbol) →
    printed_array a ≡ before ++ (in_brackets own ++ after) → IsArray (before ++ (own ++ after)) a → ⊥
none_left_out_of_array a before own after is d = left_out (printed_array a) before own after is (fewest_of_array _ a d)
