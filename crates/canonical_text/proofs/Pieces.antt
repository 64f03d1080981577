-- A piece that holds what is printed has these tokens, and at most the depth rule stands against it.
use Rattle.std.proofs.Common.{◌≡◌, ℕ, ◌≤◌, Bool, true, false, List, [], slice_range, length, None, refl, sym, ap, subst, ◌∙◌, append-nil}
use Rattle.std.specs.List.{list_all, list_any}
use Rattle.stapl_lexer.specs.declared.piece.Piece.{Piece}
use Rattle.stapl_lexer.specs.declared.reason.Reason.{Reason}
use Rattle.stapl_lexer.specs.declared.token.Token.{Token}
use Rattle.stapl_lexer.specs.Segments.{Segment, Divides}
use Rattle.stapl_lexer.specs.PieceTokens.{Lexeme, HasLexemes}
use Rattle.stapl_lexer.specs.PieceFaults.{is_foreign, is_open_string, is_compressed, is_long_word, is_large_number, tokens_of, HasTokenReason, NoSemicolon}
use Rattle.stapl_lexer.specs.PieceFaults.{ForeignByte, UnclosedString, AtSign, LongWord, LargeNumber, Deep, BadToken, AreGoodTokens}
use Rattle.stapl_lexer.specs.Depth.{IsTooDeep}
use Rattle.stapl_lexer.proofs.PieceTokenLemmas.{same_lexemes}
use Rattle.stapl_lexer.proofs.Unique.{one_way}
use Rattle.stapl_syntax.specs.Symbols.{Symbol, symbols_of}
use Rattle.canonical_text.proofs.Reading.{Reads, HasRead, read_in}
use Rattle.canonical_text.proofs.PrintedSegments.{AreCalm, no_foreign, no_open, no_compressed}

-- the piece has good tokens that are seen so, and no reason stands against it but the depth rule
pub record IsPrintedPiece (text : List ℕ) (piece : Piece) (ts : List Symbol) : Type 0 where
  pub tokens : List Token
  pub good : AreGoodTokens text piece tokens
  pub sees : symbols_of text tokens ≡ ts
  pub short : list_any is_long_word tokens ≡ false
  pub only_depth : {reason : Reason} → HasTokenReason text piece reason → IsTooDeep tokens

clash : {P : Type 0} (b : Bool) → b ≡ true → b ≡ false → P
clash b e f = absurd cc

module _ (text : List ℕ) (piece : Piece) (bytes : List ℕ) (segments : List Segment) (ts : List Symbol)
    (ordered : piece.start ≤ piece.end) (within : piece.end ≤ length text) (closed : piece.closed ≡ true)
    (bytes_are : slice_range text piece.start piece.end ≡ bytes) (calm : AreCalm segments bytes) (reads : Reads None bytes ts) where
  abbrev has_read : HasRead text None piece.start piece.end ts
  has_read = read_in text None piece.start piece.end ts ordered within (subst (λ (v : List ℕ). Reads None v ts) (sym bytes_are) reads)

  divided : Divides segments (slice_range text piece.start piece.end) []
  divided = subst (λ (v : List ℕ). Divides segments v []) (append-nil bytes ∙ sym bytes_are) (calm.divides [])

  same : (lexemes : List Lexeme) → HasLexemes text None piece.start piece.end lexemes → lexemes ≡ has_read.lexemes
  same lexemes has = same_lexemes text None piece.start piece.end lexemes has_read.lexemes within has has_read.has

  depth_alone : {reason : Reason} → HasTokenReason text piece reason → IsTooDeep (tokens_of has_read.lexemes)
  depth_alone (NoSemicolon e) = clash piece.closed closed e
  depth_alone (ForeignByte ss d e) = clash _ (ap (list_any is_foreign) (one_way segments ss _ divided d) ∙ e) (no_foreign segments calm.calm)
  depth_alone (UnclosedString ss d e) = clash _ (ap (list_any is_open_string) (one_way segments ss _ divided d) ∙ e) (no_open segments calm.calm)
  depth_alone (AtSign ss d e) = clash _ (ap (list_any is_compressed) (one_way segments ss _ divided d) ∙ e) (no_compressed segments calm.calm)
  depth_alone (LongWord ls has e) = clash _ (ap (λ (v : List Lexeme). list_any is_long_word (tokens_of v)) (sym (same ls has)) ∙ e) has_read.short
  depth_alone (LargeNumber ls has e) = clash _ (ap (λ (v : List Lexeme). list_any (is_large_number text) (tokens_of v)) (sym (same ls has)) ∙ e) has_read.small
  depth_alone (Deep ls has deep) = subst (λ (v : List Lexeme). IsTooDeep (tokens_of v)) (same ls has) deep
  depth_alone (BadToken ls has e) = clash _ has_read.good (ap (list_all (λ (lexeme : Lexeme). lexeme.good)) (sym (same ls has)) ∙ e)

  pub printed_piece : IsPrintedPiece text piece ts
  printed_piece = record {
    tokens = tokens_of has_read.lexemes;
    good = record { within = within; lexemes = has_read.lexemes; has = has_read.has; good = has_read.good; tokens_are = refl };
    sees = has_read.sees;
    short = has_read.short;
    only_depth = depth_alone;
  }
