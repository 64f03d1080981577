-- The tokens that are printed for a statement mean it by the grammar.
use Rattle.std.proofs.Common.{◌≡◌, ℕ, zero, suc, ◌-◌, ◌≤◌, Bool, true, false, List, [], ◌∷◌, ◌++◌, map, inl, inr, refl, sym, ap, subst, ◌∙◌, arith}
use Rattle.std.specs.Prelude.{nat_lt}
use Rattle.std.proofs.lemmas.Bool.{cases_order}
use Rattle.std.proofs.lemmas.Bool.Decides.{nat_tests}
use Rattle.std.proofs.lemmas.List.{map-append}
use Rattle.stapl_lexer.specs.declared.terminal.BinOp.{BinOp}
use Rattle.stapl_lexer.specs.declared.terminal.BinOp.TheVariants.{Multiply, Divide, Remainder, Add, Subtract, ShiftLeft, ShiftRight, Less, AtMost, Greater}
use Rattle.stapl_lexer.specs.declared.terminal.BinOp.TheVariants.{AtLeast, Equal, NotEqual, BitAnd, BitXor, BitOr, And, Or}
use Rattle.stapl_lexer.specs.declared.terminal.Function.TheVariants as functions
use Rattle.stapl_syntax.specs.declared.signs.UnOp.{UnOp}
use Rattle.stapl_syntax.specs.declared.signs.UnOp.TheVariants.{Negate, Complement, Not}
use Rattle.stapl_syntax.specs.Symbols.{Symbol}
use Rattle.stapl_syntax.specs.Trees.{ExprTree, number, scalar, element, unary, binary, abs, int, ArrayTree, literal, whole, range, of_int}
use Rattle.stapl_syntax.specs.Expressions.{level_of, operator, function, name, left_round, right_round, left_square, right_square, dots, IsExpr, of_unary}
use Rattle.stapl_syntax.specs.Expressions.{tighter, of_binary, IsUnary, negation, complement, negated, of_primary, IsPrimary, of_number, of_cell, of_brackets}
use Rattle.stapl_syntax.specs.Expressions.{of_abs, of_array, IsCell, of_scalar, of_element, IsTarget, of_whole, of_range, IsArray, of_literal, of_target}
use Rattle.stapl_syntax.specs.Expressions.{of_expr}
use Rattle.canonical_text.specs.PrintedTokens.{Printed, Seen, seen, unary_symbol}
use Rattle.canonical_text.specs.PrintedStatements.{bracketed_if, expr_tokens, array_tokens}

-- what the grammar sees of printed tokens
abbrev pub symbols : List Printed → List Symbol
symbols ts = map seen ts

pub symbols-append : (a b : List Printed) → symbols (a ++ b) ≡ symbols a ++ symbols b
symbols-append a b = map-append seen a b

-- ---- levels

-- each level is above 0 and at most 10
level_bounds : (op : BinOp) → (level_of op ≡ suc (level_of op - 1)) × (level_of op ≤ 10)
unfolding level_of
level_bounds Multiply = (refl, omega arith)
level_bounds Divide = (refl, omega arith)
level_bounds Remainder = (refl, omega arith)
level_bounds Add = (refl, omega arith)
level_bounds Subtract = (refl, omega arith)
level_bounds ShiftLeft = (refl, omega arith)
level_bounds ShiftRight = (refl, omega arith)
level_bounds Less = (refl, omega arith)
level_bounds AtMost = (refl, omega arith)
level_bounds Greater = (refl, omega arith)
level_bounds AtLeast = (refl, omega arith)
level_bounds Equal = (refl, omega arith)
level_bounds NotEqual = (refl, omega arith)
level_bounds BitAnd = (refl, omega arith)
level_bounds BitXor = (refl, omega arith)
level_bounds BitOr = (refl, omega arith)
level_bounds And = (refl, omega arith)
level_bounds Or = (refl, omega arith)

-- an expression of one level is one of each looser level
raised : (m n : ℕ) (s : List Symbol) (e : ExprTree) → m ≤ n → IsExpr m s e → IsExpr n s e
raised m zero s e le d = subst (λ (k : ℕ). IsExpr k s e) (omega arith) d
raised m (suc n) s e le d = elim (cases_order m (suc n)) [
  | inl same ↦ subst (λ (k : ℕ). IsExpr k s e) same d
  | inr (inl lt) ↦ tighter (raised m n s e (omega arith) d)
  | inr (inr gt) ↦ absurd (omega arith)
]

-- an operand stands at each level
operand : (n : ℕ) (s : List Symbol) (e : ExprTree) → IsPrimary s e → IsExpr n s e
operand n s e d = raised 0 n s e (omega arith) (of_unary (of_primary d))

unary_of : {s : List Symbol} {e : ExprTree} → IsExpr 0 s e → IsUnary s e
unary_of (of_unary d) = d

marked : (op : UnOp) (s : List Symbol) (e : ExprTree) → IsUnary s e → IsUnary (unary_symbol op ∷ s) (unary op e)
unfolding unary_symbol
marked Negate s e d = negation d
marked Complement s e d = complement d
marked Not s e d = negated d

closed_by : (P : List Symbol → Type 0) (front : List Symbol) (ts : List Printed) (last : Printed) → P (symbols ts ++ seen last ∷ []) → P (symbols (ts ++ last ∷ []))
closed_by P front ts last h = subst P (sym (symbols-append ts (last ∷ []))) h

-- what is bracketed where it has to be stands at the level
bracketed : (n k : ℕ) (ts : List Printed) (e : ExprTree) (b : Bool) → nat_lt n k ≡ b → k ≤ 10 → IsExpr k (symbols ts) e → IsExpr n (symbols (bracketed_if b ts)) e
bracketed n k ts e true test le d =
    operand n (symbols (bracketed_if true ts)) e
    (subst (λ (s : List Symbol). IsPrimary (left_round ∷ s) e) (sym (symbols-append ts (Seen right_round ∷ [])))
    (of_brackets (raised k 10 (symbols ts) e le d)))
bracketed n k ts e false test le d = raised k n (symbols ts) e (not_below test) d
  where
    not_below : nat_lt n k ≡ false → k ≤ n
    not_below h = grind (arith, nat_tests, h)

mutual
  pub expr_is : (n : ℕ) (e : ExprTree) → IsExpr n (symbols (expr_tokens n e)) e
  expr_is n (number z) = operand n _ _ of_number
  expr_is n (scalar v) = operand n _ _ (of_cell of_scalar)
  expr_is n (element v i) =
      operand n _ _ (of_cell (subst (λ (s : List Symbol). IsCell (name v ∷ left_square ∷ s) (element v i))
      (sym (symbols-append (expr_tokens 10 i) (Seen right_square ∷ []))) (of_element (expr_is 10 i))))
  expr_is n (unary op x) =
      raised 0 n _ _ (omega arith) (of_unary (marked op (symbols (expr_tokens 0 x)) x (unary_of (expr_is 0 x))))
  expr_is n (binary op x y) =
      let own = level_bounds op in
      let left : IsExpr (suc (level_of op - 1)) (symbols (expr_tokens (level_of op) x)) x =
      subst (λ (k : ℕ). IsExpr k (symbols (expr_tokens (level_of op) x)) x) own.0 (expr_is (level_of op) x) in
      bracketed n (level_of op) _ _ (nat_lt n (level_of op)) refl own.1
      (subst (λ (s : List Symbol). IsExpr (level_of op) s (binary op x y))
      (sym (symbols-append (expr_tokens (level_of op) x) (Seen (operator op) ∷ expr_tokens (level_of op - 1) y)))
      (subst (λ (k : ℕ). IsExpr k (symbols (expr_tokens (level_of op) x) ++ (operator op ∷ symbols (expr_tokens (level_of op - 1) y))) (binary op x y)) (sym own.0)
      (of_binary op own.0 left (expr_is (level_of op - 1) y))))
  expr_is n (abs x) =
      operand n _ _ (subst (λ (s : List Symbol). IsPrimary (function functions.Abs ∷ left_round ∷ s) (abs x))
      (sym (symbols-append (expr_tokens 10 x) (Seen right_round ∷ []))) (of_abs (expr_is 10 x)))
  expr_is n (int a) =
      operand n _ _ (subst (λ (s : List Symbol). IsPrimary (function functions.Int ∷ left_round ∷ s) (int a))
      (sym (symbols-append (array_tokens a) (Seen right_round ∷ []))) (of_array (array_is a)))

  pub array_is : (a : ArrayTree) → IsArray (symbols (array_tokens a)) a
  array_is (literal bits) = of_literal
  array_is (whole v) = of_target of_whole
  array_is (range v h l) = of_target
      (subst (λ (s : List Symbol). IsTarget (name v ∷ left_square ∷ s) (range v h l))
      (sym (symbols-append (expr_tokens 10 h) (Seen dots ∷ (expr_tokens 10 l ++ Seen right_square ∷ []))
      ∙ ap (λ (s : List Symbol). symbols (expr_tokens 10 h) ++ (dots ∷ s)) (symbols-append (expr_tokens 10 l) (Seen right_square ∷ []))))
      (of_range (expr_is 10 h) (expr_is 10 l)))
  array_is (of_int x) =
      subst (λ (s : List Symbol). IsArray (function functions.Bool ∷ left_round ∷ s) (of_int x))
      (sym (symbols-append (expr_tokens 10 x) (Seen right_round ∷ []))) (of_expr (expr_is 10 x))
