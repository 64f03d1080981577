-- What the parser answers for symbols.
use Rattle.std.specs.Prelude.{◌≡◌, ℕ, List, Option, Result, Ok, Err, if◌then◌else◌}
use Rattle.std.specs.Box.{box_value}
use Rattle.std.specs.Option.{option_map}
use Rattle.stapl_lexer.specs.declared.reason.Reason.{Reason}
use Rattle.stapl_lexer.specs.declared.reason.Reason.TheVariants as reasons
use Rattle.stapl_syntax.specs.declared.statement.Stmt.{Stmt}
use Rattle.stapl_syntax.specs.Symbols.{Symbol}
use Rattle.stapl_syntax.specs.Trees.{BodyTree, body_tree}
use Rattle.stapl_syntax.specs.Statements.{IsLabelled}
use Rattle.stapl_syntax.specs.Reasons.{after_label, is_unknown, holds_left_out}
use Rattle.stapl_grammar.specs.declared.parsing.ParseRefused.{ParseRefused}
use Rattle.stapl_grammar.specs.declared.parsing.ParseRefused.TheVariants.{Because, Memory}

-- what the parser answers for symbols that are no statement
unfoldable pub reason_of : List Symbol → Reason
reason_of s =
    if is_unknown (after_label s) then reasons.UnknownStatement
    else if holds_left_out s then reasons.Unsupported
    else reasons.Syntax

-- the symbols are no statement, and this is what the parser answers
pub record IsRefused (s : List Symbol) (reason : Reason) : Type 0 where
  pub reason_is : reason ≡ reason_of s
  pub none : (label : Option (List ℕ)) (body : BodyTree) → IsLabelled s label body → ⊥

-- the symbols are the statement, or they are none for this reason, or memory ran out
abbrev pub AnswersFor : List Symbol → Result Stmt ParseRefused → Type 0
AnswersFor s (Ok st) = IsLabelled s (option_map box_value st.label) (body_tree st.body)
AnswersFor s (Err (Because reason)) = IsRefused s reason
AnswersFor s (Err Memory) = Unit {0}
