-- On the lines of a board, and its first fault.
use Rattle.std.proofs.Common.{◌≡◌, ◌≢◌, ◌<◌, ◌-◌, ℕ, zero, suc, List, ◌∷◌, slice_get, Option, Some, None, IsSomeAnd, Result, length, refl, ap, arith, inl}
use Rattle.tool_io.specs.declared.lines.Lines.{Lines}
use Rattle.tool_io.specs.declared.outside.Sink.{Ghosts as SinkOf}
use Rattle.tool_io.specs.Lines.{IsSilent}
use Rattle.tool_frame.specs.declared.no_answer.NoAnswer.{NoAnswer}
use Rattle.tool_frame.specs.Answers.{Says}
use Rattle.tool_frame.proofs.AnswerLemmas.{says_within}
use Rattle.play_words.specs.declared.status.Status.{Status}
use Rattle.board_text.specs.declared.reason.BoardReason.{BoardReason}
use Rattle.board_text.specs.declared.reason.BoardReason.TheVariants.{TooLong}
use Rattle.board_text.specs.Boards.{most_bytes, IsFirstFault}
use Rattle.board_text.proofs.OneAnswer.{one_first_fault}
use Rattle.tool_questions.specs.BoardLines.{FaultAt, IsLongBoardAnswer, LineAnswer, long, CheckAnswer, faulty, HeldLineAnswer, HeldCheckAnswer}

-- a line after the first
pub later_line : (line : List ℕ) (others : List (List ℕ)) (left : ℕ) → left ≢ 0 → slice_get (line ∷ others) left ≡ slice_get others (left - 1)
later_line line others zero some = absurd (some refl)
later_line line others (suc i) some = ap (slice_get others) (omega arith)

-- the first fault is at another line
pub fault_elsewhere : (text : List ℕ) (line number : ℕ) (r : BoardReason) → line ≢ number → IsFirstFault text line r → FaultAt text number None
fault_elsewhere text line number r other fault reason here = other ((one_first_fault text line number r reason fault here).0)

-- the answer to a line of a text that is too long
pub long_line_within : {K : Type 0} (sink : SinkOf K) (old new : Lines K) (number : ℕ) (held : Option (List ℕ)) (r : Result Status NoAnswer) →
    IsSomeAnd held (λ bytes. most_bytes < length bytes) → Says sink IsLongBoardAnswer ⊥ old new r →
    Says sink (HeldLineAnswer number held) (IsSilent old new) old new r
long_line_within sink old new number None r more says = absurd more
long_line_within sink old new number (Some text) r more says =
    says_within sink IsLongBoardAnswer (LineAnswer text number) old new r (record { to = λ said status a. long more a }) (λ none. absurd none) says

-- and to the text alone
pub long_board_within : {K : Type 0} (sink : SinkOf K) (old new : Lines K) (held : Option (List ℕ)) (r : Result Status NoAnswer) →
    IsSomeAnd held (λ bytes. most_bytes < length bytes) → Says sink IsLongBoardAnswer ⊥ old new r →
    Says sink (HeldCheckAnswer held) (IsSilent old new) old new r
long_board_within sink old new None r more says = absurd more
long_board_within sink old new (Some text) r more says =
    says_within sink IsLongBoardAnswer (CheckAnswer text) old new r
    (record { to = λ said status a. faulty 0 TooLong (inl (record { long = more; line_is = refl; reason_is = refl })) (long more a) }) (λ none. absurd none) says
