-- What becomes of a program that is to carry its padding.
use Rattle.std.proofs.Common.{◌≡◌, ℕ, ◌+◌, ◌<◌, ◌≤◌, ◌⊎◌, inl, inr, Bool, true, false, List, length, refl, sym, ap, ◌∙◌, arith}
use Rattle.std.proofs.lemmas.Bool.{cases_lt}
use Rattle.stapl_lexer.specs.Pieces.{text_limit}
use Rattle.stapl_syntax.specs.Programs.{piece_limit, IsProgram}
use Rattle.stapl_syntax.specs.Trees.{StmtTree}
use Rattle.dev_card.specs.Padding.{BaseLengths}
use Rattle.carried_plays.specs.OwnPaddings.{has_own_padding, IsFirstPadding}
use Rattle.carried_plays.specs.PadNames.{pad_name, IsPadNumber}
use Rattle.carried_plays.specs.CarriedPrograms.{carried_program}
use Rattle.canonical_text.specs.CanonicalText.{canonical_text}
use Rattle.carried_plays.specs.CarriedTexts.{carried_text, IsTooLarge, too_many_pieces, too_many_bytes}
use Rattle.carried_plays.proofs.CarriedTexts.{one_text}
use Rattle.carried_plays.proofs.FirstPaddings.{first_padding}
use Rattle.carried_plays.proofs.PadNumbers.{a_number, one_number}
use Rattle.chain_rewrite.specs.NewNames.{IsNewName}
use Rattle.chain_rewrite.specs.Rewritten.{IsRewritten, BecomesTooLarge}

-- a program with few pieces and a short text is not too large
is_small : (base : BaseLengths) (program : List StmtTree) (n : ℕ) → IsPadNumber program n → length program + 6 ≤ piece_limit →
    length (carried_text n base program) ≤ text_limit → IsTooLarge base program → ⊥
is_small base program n named few short (too_many_pieces many) = omega (arith, few, many)
is_small base program n named few short (too_many_bytes m other long) =
    omega (arith, short, long, ap (λ (k : ℕ). length (carried_text k base program)) (one_number program n m named other))

-- the text is there
pub is_rewritten : (base : BaseLengths) (program : List StmtTree) (n : ℕ) (text : List ℕ) → has_own_padding program ≡ false → IsPadNumber program n →
    length program + 6 ≤ piece_limit → text ≡ carried_text n base program → length text ≤ text_limit → IsRewritten base program text
is_rewritten base program n text plain named few same short = record {
  plain = plain;
  small = is_small base program n named few (omega (arith, ap length same, short));
  carried = record { number = n; named = named; whole = same };
}

-- what was printed, of the pieces and the lengths as the code has them
printed_is : (base b : BaseLengths) (program p : List StmtTree) (name : List ℕ) (new : IsNewName program name) → b ≡ base → p ≡ program →
    canonical_text (carried_program name b p) ≡ carried_text new.number base program
printed_is base b program p name new e f =
    ap (λ (v : List ℕ). canonical_text (carried_program v b p)) new.same
    ∙ ap (λ (v : BaseLengths). canonical_text (carried_program (pad_name new.number) v p)) e
    ∙ ap (λ (v : List StmtTree). canonical_text (carried_program (pad_name new.number) base v)) f

pub text_is : (base b : BaseLengths) (program p : List StmtTree) (name text : List ℕ) → IsNewName program name → b ≡ base → p ≡ program → has_own_padding p ≡ false →
    length p + 6 ≤ piece_limit → text ≡ canonical_text (carried_program name b p) → length text ≤ text_limit → IsRewritten base program text
text_is base b program p name text new e f plain few same short =
    is_rewritten base program new.number text (sym (ap has_own_padding f) ∙ plain) new.named (omega (arith, few, ap length f))
    (same ∙ printed_is base b program p name new e f) short

pub large_is : (base b : BaseLengths) (program p : List StmtTree) (name : List ℕ) → IsNewName program name → b ≡ base → p ≡ program → has_own_padding p ≡ false →
    text_limit < length (canonical_text (carried_program name b p)) → BecomesTooLarge base program
large_is base b program p name new e f plain long = record {
  plain = sym (ap has_own_padding f) ∙ plain;
  large = too_many_bytes new.number new.named (omega (arith, long, ap length (printed_is base b program p name new e f)));
}

pub one_rewritten : (base : BaseLengths) (program : List StmtTree) (a b : List ℕ) → IsRewritten base program a → IsRewritten base program b → a ≡ b
one_rewritten base program a b x y = one_text base program a b x.carried y.carried

-- a padding of its own, or too large, or a text
pub data Outcome (base : BaseLengths) (program : List StmtTree) : Type 0 where
  has_padding : (piece : ℕ) → IsFirstPadding program piece → Outcome base program
  is_large : BecomesTooLarge base program → Outcome base program
  has_text : (text : List ℕ) → IsRewritten base program text → Outcome base program

pub an_outcome : (base : BaseLengths) (bytes : List ℕ) (program : List StmtTree) → IsProgram bytes program → Outcome base program
an_outcome base bytes program is = by (has_own_padding program) refl
  where
    by_bytes : has_own_padding program ≡ false → (n : ℕ) → IsPadNumber program n → length program + 6 ≤ piece_limit →
        (text_limit < length (carried_text n base program)) ⊎ (length (carried_text n base program) ≤ text_limit) → Outcome base program
    by_bytes plain n named few (inl long) = is_large (record { plain = plain; large = too_many_bytes n named long })
    by_bytes plain n named few (inr short) =
        has_text (carried_text n base program) (is_rewritten base program n (carried_text n base program) plain named few refl short)

    by_pieces : has_own_padding program ≡ false → (piece_limit < length program + 6) ⊎ (length program + 6 ≤ piece_limit) → Outcome base program
    by_pieces plain (inl many) = is_large (record { plain = plain; large = too_many_pieces many })
    by_pieces plain (inr few) =
        let found = a_number bytes program is in
        by_bytes plain found.0 found.2 few (cases_lt text_limit (length (carried_text found.0 base program)))

    by : (b : Bool) → has_own_padding program ≡ b → Outcome base program
    by true own = let first = first_padding program own in has_padding first.0 first.2
    by false plain = by_pieces plain (cases_lt piece_limit (length program + 6))
