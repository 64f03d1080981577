-- On reports of a piece.
use Rattle.std.proofs.Common.{◌≡◌, ◌≢◌, ◌<◌, ◌-◌, ℕ, zero, suc, List, [], ◌∷◌, slice_get, Option, Some, None, IfSome, IsSomeAnd, Result, length, refl, ap, arith}
use Rattle.std.specs.Prelude.{All}
use Rattle.std.proofs.lemmas.List.Elements.{All-head, All-tail}
use Rattle.tool_io.specs.declared.lines.Lines.{Lines}
use Rattle.tool_io.specs.declared.outside.Sink.{Ghosts as SinkOf}
use Rattle.tool_io.specs.Lines.{IsSilent}
use Rattle.tool_frame.specs.declared.no_answer.NoAnswer.{NoAnswer}
use Rattle.tool_frame.specs.Answers.{Says}
use Rattle.tool_frame.proofs.AnswerLemmas.{says_within}
use Rattle.play_words.specs.declared.status.Status.{Status}
use Rattle.stapl_lexer.specs.Pieces.{text_limit}
use Rattle.stapl_lexer.specs.declared.piece.Piece.{Piece}
use Rattle.stapl_lexer.specs.declared.reason.Reason.{Reason}
use Rattle.stapl_syntax.specs.Programs.{FirstFault}
use Rattle.stapl_checker.proofs.UniqueLemmas.{one_first_fault}
use Rattle.tool_questions.specs.Numbers.{part_numbered}
use Rattle.tool_questions.specs.Pieces.{RefusalAt, IsLongAnswer, PieceAnswer, long, HeldPieceAnswer}

pub numbered : (number : ℕ) (pieces : List Piece) → number ≢ 0 → part_numbered number pieces ≡ slice_get pieces (number - 1)
numbered zero pieces some = absurd (some refl)
numbered (suc i) pieces some = ap (slice_get pieces) (omega arith)

-- what stands of all pieces stands of the one with a number
some_at : {A : Type 0} (P : A → Type 0) (xs : List A) (i : ℕ) → All P xs → IfSome (slice_get xs i) P
some_at P [] i all = tt
some_at P (x ∷ xs) zero all = All-head P x xs all
some_at P (x ∷ xs) (suc i) all = some_at P xs i (All-tail P x xs all)

numbered_has : (P : Piece → Type 0) (number : ℕ) (pieces : List Piece) → All P pieces → IfSome (part_numbered number pieces) P
numbered_has P zero pieces all = tt
numbered_has P (suc i) pieces all = some_at P pieces i all

pub place_has : (P : Piece → Type 0) (number : ℕ) (pieces : List Piece) (place : Option Piece) → place ≡ part_numbered number pieces → All P pieces →
    IfSome place P
place_has P number pieces place is all = rw is (numbered_has P number pieces all)

-- the first fault is at another piece
pub elsewhere : (text : List ℕ) (piece number l : ℕ) (r : Reason) → piece ≢ number → FirstFault text piece l r → RefusalAt text number None
elsewhere text piece number l r other fault line reason here = other ((one_first_fault text piece l number line r reason fault here).0)

-- the answer to a text that is too long
pub long_within : {K : Type 0} (sink : SinkOf K) (old new : Lines K) (number : ℕ) (held : Option (List ℕ)) (r : Result Status NoAnswer) →
    IsSomeAnd held (λ bytes. text_limit < length bytes) → Says sink IsLongAnswer ⊥ old new r →
    Says sink (HeldPieceAnswer number held) (IsSilent old new) old new r
long_within sink old new number None r more says = absurd more
long_within sink old new number (Some text) r more says =
    says_within sink IsLongAnswer (PieceAnswer text number) old new r (record { to = λ said status a. long more a }) (λ none. absurd none) says
