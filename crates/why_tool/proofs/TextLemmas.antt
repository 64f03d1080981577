-- On what is said of bytes that are refused.
use Rattle.std.proofs.Common.{◌≡◌, ℕ, pos, List, Option, None, Some, refl, sym, subst}
use Rattle.std.specs.Prelude.{IsSomeAnd}
use Rattle.stapl_lexer.specs.declared.reason.Reason.{Reason}
use Rattle.stapl_syntax.specs.Trees.{StmtTree}
use Rattle.stapl_syntax.specs.Programs.{FirstFault}
use Rattle.named_files.specs.Texts.{refusal_line}
use Rattle.play_words.specs.declared.status.Status.{Status}
use Rattle.play_words.specs.declared.status.Status.TheVariants.{Done, Refused}
use Rattle.play_tool.specs.Answers.{TextAnswer, refused}
use Rattle.tool_questions.specs.Pieces.{PieceAnswer}
use Rattle.why_tool.specs.Told.{Known, Shows}
use Rattle.why_tool.specs.Whys.{Explains}

-- what is shown of the piece at which a program is refused explains that
pub refused_shown : (answers : List StmtTree → List ℕ → Status → Type 0) (text : List ℕ) (known : Known) → known.program ≡ Some text → {piece line : ℕ} {reason : Reason} →
    FirstFault text piece line reason → (said : List ℕ) → Shows (PieceAnswer text piece) said → Explains (TextAnswer answers text) known said (Done (pos 0))
refused_shown answers text known e {piece = piece} {line = line} {reason = reason} fault said shows = record {
  status = Refused piece reason;
  has = record { text = refusal_line piece line reason; answer = refused piece line reason fault };
  tells = record { told = subst (λ (o : Option (List ℕ)). IsSomeAnd o (λ bytes. Shows (PieceAnswer bytes piece) said)) (sym e) shows; done = refl };
}

-- the same fault, by an equal number of its piece
pub fault_at : {text : List ℕ} {p q line : ℕ} {reason : Reason} → p ≡ q → FirstFault text p line reason → FirstFault text q line reason
fault_at {text = text} {line = line} {reason = reason} e fault = subst (λ (n : ℕ). FirstFault text n line reason) e fault
