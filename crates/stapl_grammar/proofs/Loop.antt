-- The steps of the code that reads expressions.
use Rattle.std.proofs.Common.{◌≡◌, ℕ, ◌-◌, List, Some, None}
use Rattle.stapl_lexer.specs.declared.terminal.BinOp.{BinOp}
use Rattle.stapl_syntax.specs.declared.signs.UnOp.{UnOp}
use Rattle.stapl_syntax.specs.declared.signs.Sign.{Sign}
use Rattle.stapl_syntax.specs.Symbols.{Symbol}
use Rattle.stapl_syntax.specs.Trees.{ExprTree, unary, binary}
use Rattle.stapl_syntax.specs.Expressions.{level_of}
use Rattle.stapl_grammar.specs.declared.refused.Refused.{Refused}
use Rattle.stapl_grammar.specs.declared.refused.Refused.TheVariants.{Memory, Syntax}
use Rattle.stapl_grammar.specs.Given.{Fails}
use Rattle.stapl_grammar.specs.Reading.{next_sign, next_operator, unary_of, unary_by, primary_from, expr, climb}
use Rattle.stapl_grammar.proofs.Steps.{expr-is, unary_is, unary_nothing}
use Rattle.stapl_grammar.proofs.Complete.{climb_stops, climb_some}

pub starts : (n : ℕ) (s : List Symbol) (e : ExprTree) (r : List Symbol) → unary_by (expr 10) s ≡ Some (e, r) → climb n e r ≡ expr n s
starts n s e r h = rw (expr-is n s, h)

pub starts_not : (n : ℕ) (s : List Symbol) (e : Refused) → Fails e (unary_by (expr 10) s) → Fails e (expr n s)
starts_not n s Memory h = tt
starts_not n s Syntax h = rw (expr-is n s, h)

pub goes_on : (n : ℕ) (e : ExprTree) (s : List Symbol) (op : BinOp) (r : List Symbol) (y : ExprTree) (t : List Symbol) → next_operator n s ≡ Some (op, r) →
    expr (level_of op - 1) r ≡ Some (y, t) → climb n (binary op e y) t ≡ climb n e s
goes_on n e s op r y t h g = rw (climb_some n e s (op, r) h, g)

pub goes_on_not : (n : ℕ) (e : ExprTree) (s : List Symbol) (op : BinOp) (r : List Symbol) (d : Refused) → next_operator n s ≡ Some (op, r) → Fails d (expr (level_of op - 1) r) → Fails d (climb n e s)
goes_on_not n e s op r Memory h g = tt
goes_on_not n e s op r Syntax h g = rw (climb_some n e s (op, r) h, g)

pub is_done : (n : ℕ) (e : ExprTree) (s : List Symbol) → next_operator n s ≡ None → climb n e s ≡ Some (e, s)
is_done n e s h = climb_stops n e s h

-- ---- an operand, by its first sign

pub has_operator : (s r : List Symbol) (g : Sign) (op : UnOp) (e : ExprTree) (u : List Symbol) → next_sign s ≡ Some (g, r) → unary_of g ≡ Some op →
    unary_by (expr 10) r ≡ Some (e, u) → unary_by (expr 10) s ≡ Some (unary op e, u)
has_operator s r g op e u n o h = rw (unary_is (expr 10) g s r n, o, h)

pub has_operator_not : (s r : List Symbol) (g : Sign) (op : UnOp) (d : Refused) → next_sign s ≡ Some (g, r) → unary_of g ≡ Some op → Fails d (unary_by (expr 10) r) → Fails d (unary_by (expr 10) s)
has_operator_not s r g op Memory n o h = tt
has_operator_not s r g op Syntax n o h = rw (unary_is (expr 10) g s r n, o, h)

pub has_no_operator : (s r : List Symbol) (g : Sign) → next_sign s ≡ Some (g, r) → unary_of g ≡ None → unary_by (expr 10) s ≡ primary_from (expr 10) g r
has_no_operator s r g n o = rw (unary_is (expr 10) g s r n, o)

pub has_nothing : (s : List Symbol) → next_sign s ≡ None → unary_by (expr 10) s ≡ None
has_nothing s n = unary_nothing (expr 10) s n
