-- Each piece is a statement or has a smallest reason.
use Rattle.std.proofs.Common.{◌≡◌, ◌≤◌, ℕ, List, length, refl, Option, Some, None, ◌⊎◌, inl, inr}
use Rattle.stapl_lexer.specs.declared.piece.Piece.{Piece}
use Rattle.stapl_lexer.specs.declared.reason.Reason.{Reason}
use Rattle.stapl_lexer.specs.declared.token.Token.{Token}
use Rattle.stapl_lexer.specs.PieceFaults.{IsSmallestTokenReason, AreTokens}
use Rattle.stapl_lexer.proofs.Answered as lexer
use Rattle.stapl_syntax.specs.Symbols.{symbols_of}
use Rattle.stapl_syntax.specs.Trees.{BodyTree, StmtTree}
use Rattle.stapl_syntax.specs.Statements.{IsPieceStatement}
use Rattle.stapl_syntax.specs.Reasons.{SmallestReason}
use Rattle.stapl_grammar.specs.BodyReading.{statement_of}
use Rattle.stapl_grammar.proofs.BodyComplete.{statement_sound, statement_complete}
use Rattle.stapl_grammar.proofs.ParsingLemmas.{smallest_in_grammar, smallest_in_tokens}

-- what a piece is, or why it is no statement
abbrev pub Answer : List ℕ → Piece → Type 0
Answer text piece = ((st : StmtTree) × IsPieceStatement text piece st) ⊎ ((reason : Reason) × SmallestReason text piece reason)

by_tokens : (text : List ℕ) (piece : Piece) (tokens : List Token) → AreTokens text piece tokens → Answer text piece
by_tokens text piece tokens are = by (statement_of (symbols_of text tokens)) refl
  where
    by : (read : Option (Option (List ℕ) × BodyTree)) → statement_of (symbols_of text tokens) ≡ read → Answer text piece
    by (Some found) e =
        inl (record { label = found.0; body = found.1 }, record { tokens = tokens; are = are; means = statement_sound (symbols_of text tokens) found.0 found.1 e })
    by None e =
        inr (_, smallest_in_grammar text piece tokens are (λ st means. let read = statement_complete (symbols_of text tokens) st.label st.body means in cc))

by_answer : (text : List ℕ) (piece : Piece) → ((tokens : List Token) × AreTokens text piece tokens) ⊎ ((reason : Reason) × IsSmallestTokenReason text piece reason) → Answer text piece
by_answer text piece (inl found) = by_tokens text piece found.0 found.1
by_answer text piece (inr found) = inr (found.0, smallest_in_tokens text piece found.0 found.1)

pub answered : (text : List ℕ) (piece : Piece) → piece.start ≤ piece.end → piece.end ≤ length text → Answer text piece
answered text piece ordered within = by_answer text piece (lexer.answered text piece ordered within)
