-- What is printed for an expression holds what is printed for its operands. Brackets around them are needed, as all.
use Rattle.std.proofs.Common.{◌≡◌, ℕ, ◌-◌, ◌∙◌, List, [], ◌∷◌, ◌++◌, sym, ap, append_assoc, append-nil}
use Rattle.stapl_lexer.specs.declared.terminal.BinOp.{BinOp}
use Rattle.stapl_lexer.specs.declared.terminal.Function.TheVariants as functions
use Rattle.stapl_syntax.specs.declared.signs.UnOp.{UnOp}
use Rattle.stapl_syntax.specs.Symbols.{Symbol}
use Rattle.stapl_syntax.specs.Trees.{ExprTree, element, unary, binary, abs}
use Rattle.stapl_syntax.specs.Expressions.{level_of, operator, name, function}
use Rattle.stapl_syntax.specs.Expressions.{left_round, right_round, left_square, right_square}
use Rattle.canonical_text.specs.PrintedTokens.{Seen, unary_symbol}
use Rattle.canonical_text.specs.PrintedStatements.{expr_tokens}
use Rattle.canonical_text.proofs.Grammar.{symbols, symbols-append}
use Rattle.syntax_laws.specs.Brackets.{printed, in_brackets, HoldsOperand, bare, bracketed}
use Rattle.syntax_laws.proofs.Fewest.{none_left_out}
use Rattle.canonical_text.proofs.Standing.{sides_alone, Stands, plain, looser, stands}

-- two operands and their operator
sides_are : (op : BinOp) (left right : ExprTree) → printed (binary op left right)
    ≡ symbols (expr_tokens (level_of op) left) ++ operator op ∷ symbols (expr_tokens (level_of op - 1) right)
sides_are op left right =
    ap (λ v. symbols v) (sides_alone op left right)
    ∙ symbols-append (expr_tokens (level_of op) left) (Seen (operator op) ∷ expr_tokens (level_of op - 1) right)

-- an operand that is printed for a place of a level
held : (k : ℕ) (e x : ExprTree) (before after : List Symbol) → Stands k x →
    printed e ≡ before ++ (symbols (expr_tokens k x) ++ after) → HoldsOperand e before (printed x) after
held k e x before after (plain same) is = bare (is ∙ ap (λ v. before ++ (symbols v ++ after)) same)
held k e x before after (looser same) is =
    let inside = ap (λ v. left_round ∷ v) (symbols-append (expr_tokens 10 x) (Seen right_round ∷ [])) in
    let text = is ∙ ap (λ v. before ++ (v ++ after)) (ap (λ v. symbols v) same ∙ inside) in
    bracketed text (none_left_out e before (printed x) after text)

pub left_bracketed : (op : BinOp) (left right : ExprTree) →
    (rest : List Symbol) × HoldsOperand (binary op left right) [] (printed left) (operator op ∷ rest)
left_bracketed op left right = (
  symbols (expr_tokens (level_of op - 1) right),
  held (level_of op) (binary op left right) left [] (operator op ∷ symbols (expr_tokens (level_of op - 1) right))
      (stands (level_of op) left) (sides_are op left right),
)

pub right_bracketed : (op : BinOp) (left right : ExprTree) →
    (front : List Symbol) × HoldsOperand (binary op left right) (front ++ operator op ∷ []) (printed right) []
right_bracketed op left right = (
  front,
  held (level_of op - 1) (binary op left right) right (front ++ operator op ∷ []) [] (stands (level_of op - 1) right)
      (sides_are op left right ∙ sym placed),
)
  where
    front : List Symbol
    front = symbols (expr_tokens (level_of op) left)

    own : List Symbol
    own = symbols (expr_tokens (level_of op - 1) right)

    placed : (front ++ operator op ∷ []) ++ (own ++ []) ≡ front ++ operator op ∷ own
    placed = append_assoc front (operator op ∷ []) (own ++ []) ∙ ap (λ v. front ++ operator op ∷ v) (append-nil own)

pub only_bracketed : (op : UnOp) (x : ExprTree) → HoldsOperand (unary op x) (unary_symbol op ∷ []) (printed x) []
only_bracketed op x =
    held 0 (unary op x) x (unary_symbol op ∷ []) [] (stands 0 x)
    (ap (λ v. unary_symbol op ∷ v) (sym (append-nil (symbols (expr_tokens 0 x)))))

pub index_printed : (v : List ℕ) (x : ExprTree) →
    printed (element v x) ≡ name v ∷ left_square ∷ (printed x ++ right_square ∷ [])
index_printed v x =
    ap (λ s. name v ∷ left_square ∷ s) (symbols-append (expr_tokens 10 x) (Seen right_square ∷ []))

pub taken_printed : (x : ExprTree) → printed (abs x) ≡ function functions.Abs ∷ in_brackets (printed x)
taken_printed x =
    ap (λ s. function functions.Abs ∷ left_round ∷ s) (symbols-append (expr_tokens 10 x) (Seen right_round ∷ []))
