-- What is said of a word. The texts are this tool's own, and stand in the code's table alone.
use Rattle.std.specs.Prelude.{ℕ, Bool, ◌==◌, if◌then◌else◌, List, [], ◌++◌, length, take, codes}
use Rattle.std.specs.List.{filter, list_any}
use Rattle.std.specs.Str.Lines.{lines}
use Rattle.std.specs.Str.{str_eq_ignore_ascii_case}
use Rattle.stapl_lexer.specs.declared.reason.Reason.{Reason}
use Rattle.stapl_lexer.specs.Reasons.{reason_name}
use Rattle.board_text.specs.declared.reason.BoardReason.{BoardReason}
use Rattle.board_text.specs.Reasons as boards
use Rattle.tool_questions.specs.declared.explanation_texts.TheConstants.{EXPLANATIONS}

-- a line begins with these bytes, in whatever letter case
abbrev pub is_about : List ℕ → List ℕ → Bool
is_about head line = str_eq_ignore_ascii_case (take (length head) line) head

-- the lines of the table that begin with these bytes; it does not unfold by itself, since the table is long
unfoldable pub paragraphs : List ℕ → List (List ℕ)
paragraphs head = filter (is_about head) (lines EXPLANATIONS.now)

-- what is said of a word: the lines that begin with it and a comma; nothing is said of a word that has a comma itself
abbrev pub word_paragraphs : List ℕ → List (List ℕ)
word_paragraphs word = if list_any (λ b. b == 44) word then [] else paragraphs (word ++ codes ",")

-- what is said of a reason against a program
abbrev pub reason_paragraphs : Reason → List (List ℕ)
reason_paragraphs reason = paragraphs (reason_name reason ++ codes ", of a program:")

-- and against a board
abbrev pub board_reason_paragraphs : BoardReason → List (List ℕ)
board_reason_paragraphs reason = paragraphs (boards.reason_name reason ++ codes ", of a board:")
