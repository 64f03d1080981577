-- How many bits a literal has: its digits are among its bytes, and a good one has a digit.
use Rattle.std.proofs.Common.{ℕ, ◌≤◌, true, false, List, length, length-drop, drop, sym, ap, arith}
use Rattle.std.proofs.lemmas.Bool.{leb-true}
use Rattle.bit_list.specs.Digits.{bits_of_digits}
use Rattle.bit_list.proofs.DigitBits.{length-bits_of_digits}
use Rattle.stapl_lexer.specs.declared.token.TokenKind.{TokenKind}
use Rattle.stapl_lexer.specs.declared.token.TokenKind.TheVariants as kinds
use Rattle.stapl_lexer.specs.PieceTokens.{IsLiteral, digits_in}
use Rattle.stapl_lexer.proofs.DigitLemmas.{digits_are_spaced, few_digits}
use Rattle.stapl_syntax.specs.Contents.{AreLiteralBits}

module _ (own after : List ℕ) (n : ℕ) (short : length own ≤ n) where
  some_digit : (kind : TokenKind) → IsLiteral kind true own after → 1 ≤ length (digits_in kind false (drop 1 own))
  some_digit kind is =
      let same = ap length (digits_are_spaced kind (drop 1 own) after is.0 is.1) in
      let some : 1 ≤ length is.0 = leb-true 1 (length is.0) (sym is.2) in
      omega (arith, same, some)

  digits_within : (kind : TokenKind) → length (digits_in kind false (drop 1 own)) ≤ n
  digits_within kind = omega (arith, few_digits kind false (drop 1 own), length-drop 1 own, short)

  pub binary_bits : IsLiteral kinds.Binary true own after → AreLiteralBits n (bits_of_digits 1 (digits_in kinds.Binary false (drop 1 own)))
  binary_bits is =
      let digits = digits_in kinds.Binary false (drop 1 own) in
      record {
        some = omega (arith, length-bits_of_digits 1 digits, some_digit kinds.Binary is);
        few = omega (arith, length-bits_of_digits 1 digits, digits_within kinds.Binary);
      }

  pub hex_bits : IsLiteral kinds.Hexadecimal true own after → AreLiteralBits n (bits_of_digits 4 (digits_in kinds.Hexadecimal false (drop 1 own)))
  hex_bits is =
      let digits = digits_in kinds.Hexadecimal false (drop 1 own) in
      record {
        some = omega (arith, length-bits_of_digits 4 digits, some_digit kinds.Hexadecimal is);
        few = omega (arith, length-bits_of_digits 4 digits, digits_within kinds.Hexadecimal);
      }
