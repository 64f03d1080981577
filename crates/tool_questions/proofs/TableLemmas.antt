-- Each name has a line in the table.
use Rattle.std.proofs.Common.{◌≡◌, ◌≢◌, ℕ, Bool, true, false, cond, ◌||◌, List, [], ◌∷◌, refl}
use Rattle.std.specs.List.{filter, list_any}
use Rattle.std.specs.Str.Lines.{lines}
use Rattle.stapl_lexer.specs.declared.reason.Reason.{Reason}
use Rattle.stapl_lexer.specs.declared.reason.Reason.TheVariants as reasons
use Rattle.stapl_meaning.specs.declared.events.RunFault.{RunFault}
use Rattle.stapl_meaning.specs.declared.events.RunFault.TheVariants as faults
use Rattle.stapl_code.specs.declared.reason.CodeReason.{CodeReason}
use Rattle.stapl_code.specs.declared.reason.CodeReason.TheVariants as code_reasons
use Rattle.board_text.specs.declared.reason.BoardReason.{BoardReason}
use Rattle.board_text.specs.declared.reason.BoardReason.TheVariants as board_reasons
use Rattle.tool_questions.specs.declared.explanation_texts.TheConstants.{EXPLANATIONS}
use Rattle.tool_questions.specs.Explanations.{is_about, paragraphs}
use Rattle.tool_questions.specs.Explained.{IsReasonExplained, IsBoardReasonExplained, IsCodeReasonExplained, IsFaultExplained}

-- some line of the table begins with these bytes
abbrev has_line : List ℕ → Bool
has_line head = list_any (is_about head) (lines EXPLANATIONS.now)

kept : {X : Type 0} (first rest : Bool) (x : X) (xs : List X) → (first || rest) ≡ true → (rest ≡ true → xs ≢ []) →
    cond first (x ∷ xs) xs ≢ []
kept true rest x xs h more = λ none. cc
kept false rest x xs h more = more h

found : {X : Type 0} (test : X → Bool) (xs : List X) → list_any test xs ≡ true → filter test xs ≢ []
found test [] h = absurd (cc)
found test (x ∷ xs) h = kept (test x) (list_any test xs) x (filter test xs) h (found test xs)

told : (head : List ℕ) → has_line head ≡ true → paragraphs head ≢ []
unfolding paragraphs
told head h = found (is_about head) (lines EXPLANATIONS.now) h

pub reasons_explained : (reason : Reason) → IsReasonExplained reason
reasons_explained reasons.TooManyPieces = told _ refl
reasons_explained reasons.Unterminated = told _ refl
reasons_explained reasons.BadByte = told _ refl
reasons_explained reasons.OpenString = told _ refl
reasons_explained reasons.Compressed = told _ refl
reasons_explained reasons.NameTooLong = told _ refl
reasons_explained reasons.NumberTooLarge = told _ refl
reasons_explained reasons.TooDeep = told _ refl
reasons_explained reasons.UnknownStatement = told _ refl
reasons_explained reasons.Unsupported = told _ refl
reasons_explained reasons.Syntax = told _ refl
reasons_explained reasons.Order = told _ refl
reasons_explained reasons.Duplicate = told _ refl
reasons_explained reasons.Undefined = told _ refl
reasons_explained reasons.NotVisible = told _ refl
reasons_explained reasons.TypeMismatch = told _ refl
reasons_explained reasons.NotStable = told _ refl
reasons_explained reasons.SizeLimit = told _ refl
reasons_explained reasons.NotClosed = told _ refl
reasons_explained reasons.NothingToDo = told _ refl
reasons_explained reasons.TooLong = told _ refl

pub board_reasons_explained : (reason : BoardReason) → IsBoardReasonExplained reason
board_reasons_explained board_reasons.Form = told _ refl
board_reasons_explained board_reasons.Range = told _ refl
board_reasons_explained board_reasons.Duplicate = told _ refl
board_reasons_explained board_reasons.Misplaced = told _ refl
board_reasons_explained board_reasons.Empty = told _ refl
board_reasons_explained board_reasons.TooMany = told _ refl
board_reasons_explained board_reasons.TooLong = told _ refl

pub code_reasons_explained : (reason : CodeReason) → IsCodeReasonExplained reason
code_reasons_explained code_reasons.Cut = told _ refl
code_reasons_explained code_reasons.Field = told _ refl
code_reasons_explained code_reasons.Extra = told _ refl
code_reasons_explained code_reasons.Invalid = told _ refl
code_reasons_explained code_reasons.TooLong = told _ refl

pub faults_explained : (reason : RunFault) → IsFaultExplained reason
faults_explained faults.DivideByZero = told _ refl
faults_explained faults.IndexOutOfRange = told _ refl
faults_explained faults.RangeReversed = told _ refl
faults_explained faults.LengthMismatch = told _ refl
faults_explained faults.BadLength = told _ refl
faults_explained faults.BadCount = told _ refl
faults_explained faults.ShiftCount = told _ refl
faults_explained faults.ZeroStep = told _ refl
faults_explained faults.NoRecord = told _ refl
faults_explained faults.RecordsFull = told _ refl
faults_explained faults.BadChar = told _ refl
