-- Each piece has tokens, or a smallest reason against it.
use Rattle.std.proofs.Common.{◌≡◌, ◌≤◌, ◌<◌, ℕ, List, refl, Bool, true, false, None, ◌⊎◌, inl, inr, slice_range, length, arith}
use Rattle.std.proofs.lemmas.Bool.{cases_order}
use Rattle.std.specs.List.{list_all, list_any}
use Rattle.stapl_lexer.specs.declared.piece.Piece.{Piece}
use Rattle.stapl_lexer.specs.declared.reason.Reason.{Reason}
use Rattle.stapl_lexer.specs.declared.reason.Reason.TheVariants as reasons
use Rattle.stapl_lexer.specs.declared.token.Token.{Token}
use Rattle.stapl_lexer.specs.Depth.{is_condition, is_operator, count_of, after_label, begins_with_integer, IsTooDeep, Brackets, Conditions, Operators}
use Rattle.stapl_lexer.specs.PieceFaults.{is_foreign, is_open_string, is_compressed, is_long_word, is_large_number, tokens_of, HasPieceLexemes, AreTokens, IsSmallestTokenReason}
use Rattle.stapl_lexer.specs.PieceTokens.{Lexeme}
use Rattle.stapl_lexer.specs.TokenReading.{AreSearched, IsReadPiece}
use Rattle.stapl_lexer.proofs.DepthLemmas.{opens_many, brackets_found, no_brackets}
use Rattle.stapl_lexer.proofs.Dividing.{divided}
use Rattle.stapl_lexer.proofs.Existence.{lexemes_exist}
use Rattle.stapl_lexer.proofs.PieceTokenLemmas.{clash}
use Rattle.stapl_lexer.proofs.ReasonLemmas.{unterminated_first, bad_byte_first, open_string_first, compressed_first, good_bytes, long_word_first, large_number_first, deep_first, bad_token_first, good_tokens, are_tokens}

-- a test passes or fails
decided : {A : Type 0} (test : Bool) → (test ≡ true → A) → (test ≡ false → A) → A
decided true first second = first refl
decided false first second = second refl

-- a number is above another, or not
above_or_not : {A : Type 0} (most n : ℕ) → (most < n → A) → (n ≤ most → A) → A
above_or_not most n first second = elim (cases_order most n) [
  | inl same ↦ second (omega arith)
  | inr (inl lt) ↦ first lt
  | inr (inr gt) ↦ second (omega arith)
]

-- a piece is too deep, or it is not
deep_or_not : {A : Type 0} (tokens : List Token) → (IsTooDeep tokens → A) → ((IsTooDeep tokens → ⊥) → A) → A
deep_or_not tokens first second =
    decided (opens_many 0 tokens) (λ many. first (Brackets (brackets_found tokens many)))
    (λ few. above_or_not 32 (count_of is_condition tokens) (λ many. first (Conditions many))
    (λ conditions. decided (begins_with_integer (after_label tokens)) (λ integer. second (none few conditions (λ marks is. clash _ integer is)))
    (λ is. above_or_not 256 (count_of is_operator tokens) (λ many. first (Operators is many))
    (λ marks. second (none few conditions (λ many _. absurd (omega arith)))))))
  where
    none : opens_many 0 tokens ≡ false → count_of is_condition tokens ≤ 32 →
        (256 < count_of is_operator tokens → begins_with_integer (after_label tokens) ≡ false → ⊥) → IsTooDeep tokens → ⊥
    none few conditions marks (Brackets has) = no_brackets tokens few has
    none few conditions marks (Conditions many) = absurd (omega arith)
    none few conditions marks (Operators is many) = marks many is

-- tokens, or a smallest reason
abbrev Answer : List ℕ → Piece → Type 0
Answer text piece = ((tokens : List Token) × AreTokens text piece tokens) ⊎ ((reason : Reason) × IsSmallestTokenReason text piece reason)

-- the answer by the tokens
by_tokens : (text : List ℕ) (piece : Piece) (tokens : List Token) (good large : Bool) → IsReadPiece text piece tokens good large → Answer text piece
by_tokens text piece tokens good large r =
    decided (list_any is_long_word tokens) (λ l. inr (reasons.NameTooLong, long_word_first text piece tokens good large r l))
    (λ l. decided large (λ n. inr (reasons.NumberTooLarge, large_number_first text piece tokens good large r l n))
    (λ n. deep_or_not tokens (λ d. inr (reasons.TooDeep, deep_first text piece tokens good large r l n d))
    (λ d. decided good (λ g. inl (tokens, are_tokens text piece tokens good large r (good_tokens text piece tokens good large r l n d g)))
    (λ g. inr (reasons.Syntax, bad_token_first text piece tokens good large r l n d g)))))

-- the answer by the bytes, and then by the tokens
by_bytes : (text : List ℕ) (piece : Piece) (foreign unclosed compressed : Bool) → AreSearched (slice_range text piece.start piece.end) foreign unclosed compressed →
    (lexemes : List Lexeme) → piece.end ≤ length text → HasPieceLexemes text piece lexemes → Answer text piece
by_bytes text piece foreign unclosed compressed searched lexemes within has =
    decided piece.closed
    (λ c. decided foreign (λ f. inr (reasons.BadByte, bad_byte_first text piece foreign unclosed compressed searched c f))
    (λ f. decided unclosed (λ u. inr (reasons.OpenString, open_string_first text piece foreign unclosed compressed searched c f u))
    (λ u. decided compressed (λ z. inr (reasons.Compressed, compressed_first text piece foreign unclosed compressed searched c f u z))
    (λ z. by_tokens text piece (tokens_of lexemes) (list_all (λ (lexeme : Lexeme). lexeme.good) lexemes) (list_any (is_large_number text) (tokens_of lexemes))
    (record {
      within = within;
      read = record { lexemes = lexemes; tokens_are = refl; good_is = refl; large_is = refl; has = has };
      below = good_bytes text piece foreign unclosed compressed searched c f u z;
    })))))
    (λ c. inr (reasons.Unterminated, unterminated_first text piece c))

pub answered : (text : List ℕ) (piece : Piece) → piece.start ≤ piece.end → piece.end ≤ length text → Answer text piece
answered text piece le within =
    let d = divided (slice_range text piece.start piece.end) in
    let ls = lexemes_exist text None piece.start piece.end le within in
    by_bytes text piece (list_any is_foreign d.0) (list_any is_open_string d.0) (list_any is_compressed d.0)
    (record { segments = d.0; divides = d.1; foreign_is = refl; unclosed_is = refl; compressed_is = refl }) ls.0 within ls.1
