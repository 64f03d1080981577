-- What is printed for an operand: the operand as it stands alone, or that in brackets.
use Rattle.std.proofs.Common.{◌≡◌, ℕ, ◌-◌, ◌≤◌, ◌∙◌, Bool, true, false, List, [], ◌∷◌, ◌++◌, refl, sym, ap, arith}
use Rattle.std.specs.Prelude.{nat_lt}
use Rattle.std.proofs.lemmas.Bool.Decides.{nat_tests}
use Rattle.stapl_lexer.specs.declared.terminal.BinOp.{BinOp}
use Rattle.stapl_lexer.specs.declared.terminal.BinOp.TheVariants.{Multiply}
use Rattle.stapl_syntax.specs.Trees.{ExprTree, number, scalar, element, unary, binary, abs, int}
use Rattle.stapl_syntax.specs.Expressions.{level_of, operator, left_round, right_round}
use Rattle.canonical_text.specs.PrintedTokens.{Printed, Seen}
use Rattle.canonical_text.specs.PrintedStatements.{bracketed_if, expr_tokens}

-- ---- levels

up_to_ten : (op : BinOp) → level_of op ≤ 10
unfolding level_of
up_to_ten Multiply = omega arith
up_to_ten op = omega arith

no_brackets : (n k : ℕ) → k ≤ n → nat_lt n k ≡ false
no_brackets n k le = grind (arith, nat_tests)

-- ---- two operands

-- the tokens of two operands and their operator
abbrev pub both_sides : BinOp → ExprTree → ExprTree → List Printed
both_sides op x y = expr_tokens (level_of op) x ++ Seen (operator op) ∷ expr_tokens (level_of op - 1) y

-- they are printed where the operator may stand without brackets
pub sides_at : (n : ℕ) (op : BinOp) (x y : ExprTree) → level_of op ≤ n →
    expr_tokens n (binary op x y) ≡ both_sides op x y
sides_at n op x y le = ap (λ (b : Bool). bracketed_if b (both_sides op x y)) (no_brackets n (level_of op) le)

pub sides_alone : (op : BinOp) (x y : ExprTree) → expr_tokens 10 (binary op x y) ≡ both_sides op x y
sides_alone op x y = sides_at 10 op x y (up_to_ten op)

-- ---- an operand

-- an operand as it stands alone, or two operands of an operator that is looser than the place, in brackets
pub data Stands (k : ℕ) (e : ExprTree) : Type 0 where
  plain : expr_tokens k e ≡ expr_tokens 10 e → Stands k e
  looser : expr_tokens k e ≡ Seen left_round ∷ (expr_tokens 10 e ++ Seen right_round ∷ []) → Stands k e

pub stands : (k : ℕ) (e : ExprTree) → Stands k e
stands k (number z) = plain refl
stands k (scalar v) = plain refl
stands k (element v i) = plain refl
stands k (unary op x) = plain refl
stands k (abs x) = plain refl
stands k (int a) = plain refl
stands k (binary op x y) = by (nat_lt k (level_of op)) refl
  where
    by : (t : Bool) → nat_lt k (level_of op) ≡ t → Stands k (binary op x y)
    by true e = looser
        (ap (λ (b : Bool). bracketed_if b (both_sides op x y)) e
        ∙ ap (λ (ts : List Printed). bracketed_if true ts) (sym (sides_alone op x y)))
    by false e = plain (ap (λ (b : Bool). bracketed_if b (both_sides op x y)) e ∙ sym (sides_alone op x y))
