-- On the check word of a text.
use Rattle.std.proofs.Common.{◌≡◌, ℕ, ◌<◌, ◌+◌, ◌-◌, ◌/◌, ◌%◌, List, [], ◌∷◌, ◌++◌, take, get_or, refl, sym, ap, ◌∙◌, Bool, ◌==◌, arith, suc, add-one, length}
use Rattle.std.proofs.Math.Seq.{take-suc}
use Rattle.std.proofs.lemmas.Grind.{flat_map-append}
use Rattle.std.proofs.lemmas.List.{append-nil}
use Rattle.std.proofs.lemmas.List.Concat.{flat_map-cons}
use Rattle.stapl_lexer.specs.Crc.{low_bits, remainder_after, remainder, bits_of_byte, bits_of_text}

-- one bit more of a byte
pub remainder_more : (i crc bits : ℕ) → i < 8 →
    remainder (remainder_after crc (bits % 2 == 1)) (low_bits (8 - (i + 1)) (bits / 2)) ≡ remainder crc (low_bits (8 - i) bits)
remainder_more i crc bits lt =
    let fewer : 8 - i ≡ suc (8 - (i + 1)) = omega arith in
    sym (ap (λ (k : ℕ). remainder crc (low_bits k bits)) fewer)

remainder_append : (crc : ℕ) (a b : List Bool) → remainder crc (a ++ b) ≡ remainder (remainder crc a) b
remainder_append crc [] b = refl
remainder_append crc (x ∷ xs) b = remainder_append (remainder_after crc x) xs b

-- one byte more of a text
pub text_more : (bytes : List ℕ) (i : ℕ) → i < length bytes →
    remainder 65535 (bits_of_text (take (i + 1) bytes)) ≡ remainder (remainder 65535 (bits_of_text (take i bytes))) (bits_of_byte (get_or bytes i 0))
text_more bytes i lt =
    let b = get_or bytes i 0 in
    ap (λ (k : ℕ). remainder 65535 (bits_of_text (take k bytes))) (add-one i)
    ∙ ap (λ (v : List ℕ). remainder 65535 (bits_of_text v)) (take-suc bytes i 0 lt)
    ∙ ap (remainder 65535) (flat_map-append bits_of_byte (take i bytes) (b ∷ []))
    ∙ remainder_append 65535 (bits_of_text (take i bytes)) (bits_of_text (b ∷ []))
    ∙ ap (remainder (remainder 65535 (bits_of_text (take i bytes)))) (flat_map-cons bits_of_byte b [] ∙ append-nil (bits_of_byte b))
