-- Which statements can be printed. That a statement keeps the limits of brackets, conditions and operators in some
-- writing of it is this profile's rule, as those limits are (`Depth` of stapl_lexer).
use Rattle.std.specs.Prelude.{◌≡◌, ℕ, ◌+◌, ◌<◌, ◌≤◌, List, [], ◌∷◌, ◌++◌, Bool, true, false, Option, Some, None}
use Rattle.std.specs.List.{list_all}
use Rattle.stapl_lexer.specs.declared.terminal.Terminal.{Terminal}
use Rattle.stapl_lexer.specs.declared.terminal.Terminal.TheVariants as terminals
use Rattle.stapl_lexer.specs.Depth.{is_opening, is_closing, is_condition, is_operator}
use Rattle.stapl_syntax.specs.declared.signs.Sign.{Sign}
use Rattle.stapl_syntax.specs.declared.signs.Sign.TheVariants as signs
use Rattle.stapl_syntax.specs.Statements.{Means}
use Rattle.stapl_syntax.specs.Symbols.{Symbol, Plain, Text, Literal, CheckWord}
use Rattle.stapl_syntax.specs.Trees.{BodyTree, integer, integer_array, StmtTree}
use Rattle.canonical_text.specs.Spellable.{is_spellable}

-- the reserved word or the mark that is seen
unfoldable pub sign_terminal : Sign → Option Terminal
sign_terminal (signs.Number z) = None
sign_terminal (signs.Name v) = None
sign_terminal (signs.State k) = Some (terminals.State k)
sign_terminal (signs.Operator op) = Some (terminals.Operator op)
sign_terminal (signs.Mark m) = Some (terminals.Mark m)
sign_terminal (signs.Outer w) = Some (terminals.Outer w)
sign_terminal (signs.Inner w) = Some (terminals.Inner w)
sign_terminal (signs.Simple w) = Some (terminals.Simple w)
sign_terminal signs.If = Some terminals.If
sign_terminal (signs.Port w) = Some (terminals.Port w)
sign_terminal (signs.Join w) = Some (terminals.Join w)
sign_terminal (signs.Function f) = Some (terminals.Function f)
sign_terminal signs.LeftOutStatement = Some terminals.LeftOutStatement
sign_terminal signs.LeftOutWord = Some terminals.LeftOutWord
sign_terminal signs.Other = None

unfoldable pub symbol_terminal : Symbol → Option Terminal
symbol_terminal (Plain sign) = sign_terminal sign
symbol_terminal (Text bytes) = None
symbol_terminal (Literal bits) = None
symbol_terminal (CheckWord n) = None

-- a bracket that opens
abbrev pub opens : Symbol → Bool
opens t = is_opening (symbol_terminal t)

-- a bracket that closes
abbrev pub closes : Symbol → Bool
closes t = is_closing (symbol_terminal t)

-- the word IF
abbrev pub conditions : Symbol → Bool
conditions t = is_condition (symbol_terminal t)

-- an operator mark
abbrev pub operators : Symbol → Bool
operators t = is_operator (symbol_terminal t)

abbrev pub one_if : Bool → ℕ
one_if true = 1
one_if false = 0

-- how many symbols pass a test
abbrev pub weight : (Symbol → Bool) → List Symbol → ℕ
weight f [] = 0
weight f (t ∷ s) = one_if (f t) + weight f s

abbrev pub openings : List Symbol → ℕ
openings s = weight opens s

abbrev pub closings : List Symbol → ℕ
closings s = weight closes s

-- more than 32 brackets are open at some place: some run of symbols has over 32 more opening brackets than closing ones
pub record OpensMany (s : List Symbol) : Type 0 where
  pub front : List Symbol
  pub run : List Symbol
  pub rest : List Symbol
  pub parts : s ≡ front ++ (run ++ rest)
  pub deep : closings run + 32 < openings run

-- a declaration of an INTEGER, in which a sign may stand before each initial value
abbrev pub is_integer_body : BodyTree → Bool
is_integer_body (integer v z) = true
is_integer_body (integer_array v n zs) = true
is_integer_body _ = false

-- A statement that can be printed: it has a writing, whose symbols can be spelled and keep the limits of brackets,
-- conditions and operators. The statement of a piece of any text is one.
pub record CanBePrinted (st : StmtTree) : Type 0 where
  pub writing : List Symbol
  pub means : Means writing st
  pub spelled : list_all is_spellable writing ≡ true
  pub shallow : OpensMany writing → ⊥
  pub conditions_few : weight conditions writing ≤ 32
  pub operators_few : is_integer_body st.body ≡ false → weight operators writing ≤ 256
