-- What is said of a piece of a program. The lines are this tool's own.
use Rattle.std.specs.Prelude.{◌≡◌, ◌≤◌, ◌<◌, ◌-◌, ℕ, pos, List, [], ◌++◌, length, take, drop, codes, slice_range, Option, None, Some, IsSomeAnd}
use Rattle.std.specs.Char.{is_ascii_whitespace}
use Rattle.std.specs.List.{prefix_len, suffix_len, flat_map}
use Rattle.tool_io.specs.Texts.{labelled, number_line, word_line}
use Rattle.stapl_lexer.specs.declared.piece.Piece.{Piece}
use Rattle.stapl_lexer.specs.declared.reason.Reason.{Reason}
use Rattle.stapl_lexer.specs.declared.reason.Reason.TheVariants.{TooLong}
use Rattle.stapl_lexer.specs.Pieces.{IsCut, text_limit}
use Rattle.stapl_syntax.specs.Programs.{FirstFault}
use Rattle.named_files.specs.Texts.{refusal_line, usage_line}
use Rattle.tool_questions.specs.Explanations.{reason_paragraphs}
use Rattle.tool_questions.specs.Numbers.{part_numbered}
use Rattle.play_words.specs.declared.status.Status.{Status}
use Rattle.play_words.specs.declared.status.Status.TheVariants.{Done, Usage}
use Rattle.tool_questions.specs.declared.report.PieceReport.{PieceReport}
use Rattle.tool_questions.specs.declared.report.Refusal.{Refusal}

-- some bytes without white space before and after them
abbrev pub without_end : List ℕ → List ℕ
without_end bytes = take (length bytes - suffix_len is_ascii_whitespace bytes) bytes

abbrev pub trimmed : List ℕ → List ℕ
trimmed bytes = without_end (drop (prefix_len is_ascii_whitespace bytes) bytes)

-- the bytes of a piece, without white space around them
abbrev pub piece_bytes : List ℕ → Piece → List ℕ
piece_bytes text piece = trimmed (slice_range text piece.start piece.end)

-- the number of a piece, its line, and its bytes
abbrev pub piece_text : List ℕ → ℕ → Piece → List ℕ
piece_text text number piece =
    labelled (codes "piece ") (pos number) ++ number_line (codes " line ") (pos piece.line) ++ piece_bytes text piece ++ codes "\n"

-- The first fault of a text, if that is at the piece with this number.
abbrev pub RefusalAt : List ℕ → ℕ → Option Refusal → Type 0
RefusalAt text number None = (line : ℕ) (reason : Reason) → FirstFault text number line reason → ⊥
RefusalAt text number (Some refusal) = FirstFault text number refusal.line refusal.reason

-- what is said of the reason of a refusal, if there is one
abbrev pub why_refused : Option Refusal → List (List ℕ)
why_refused None = []
why_refused (Some refusal) = reason_paragraphs refusal.reason

-- the line of a refusal, and what is said of its reason
abbrev pub refusal_text : ℕ → Option Refusal → List ℕ
refusal_text number None = []
refusal_text number (Some refusal) = refusal_line number refusal.line refusal.reason ++ flat_map word_line (reason_paragraphs refusal.reason)

abbrev pub shown_text : List ℕ → ℕ → Piece → Option Refusal → List ℕ
shown_text text number piece refusal = piece_text text number piece ++ refusal_text number refusal

-- What is known of the piece with a number.
pub record IsReport (text : List ℕ) (number : ℕ) (report : PieceReport) : Type 0 where
  pub pieces : List Piece
  pub cut : IsCut text pieces
  pub place : report.place ≡ part_numbered number pieces
  pub refusal : RefusalAt text number report.refusal

-- What is answered for a piece of a text that is not too long: the piece is shown; or the text is refused at its end,
-- which has the number after its last piece; or there is no such piece.
pub data KnownAnswer (text : List ℕ) (number : ℕ) : List ℕ → Status → Type 0 where
  shown : (report : PieceReport) (piece : Piece) → IsReport text number report → report.place ≡ Some piece →
      KnownAnswer text number (shown_text text number piece report.refusal) (Done (pos 0))
  ended : (report : PieceReport) (refusal : Refusal) → IsReport text number report → report.place ≡ None →
      report.refusal ≡ Some refusal → KnownAnswer text number (refusal_text number (Some refusal)) (Done (pos 0))
  lacking : (report : PieceReport) → IsReport text number report → report.place ≡ None → report.refusal ≡ None →
      KnownAnswer text number (usage_line 2) (Usage 2)

-- the refusal of a text that is too long
pub data IsLongAnswer : List ℕ → Status → Type 0 where
  too_long : IsLongAnswer (refusal_text 0 (Some (record { line = 0; reason = TooLong }))) (Done (pos 0))

-- What is answered for a piece of a text.
pub data PieceAnswer (text : List ℕ) (number : ℕ) (said : List ℕ) (status : Status) : Type 0 where
  known : length text ≤ text_limit → KnownAnswer text number said status → PieceAnswer text number said status
  long : text_limit < length text → IsLongAnswer said status → PieceAnswer text number said status

-- The same of the bytes that a file holds.
abbrev pub HeldPieceAnswer : ℕ → Option (List ℕ) → List ℕ → Status → Type 0
HeldPieceAnswer number held said status = IsSomeAnd held (λ text. PieceAnswer text number said status)
