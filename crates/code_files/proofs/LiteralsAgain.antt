-- A literal that was written is read again.
use Rattle.std.proofs.Common.{◌≡◌, ◌≤◌, ◌<◌, ◌+◌, ◌-◌, ◌*◌, ◌/◌, ◌%◌, ℕ, zero, suc, Bool, true, false, not, List, [], ◌∷◌, ◌++◌, length, take, drop, Ok, refl, sym, ap, ◌∙◌, append_assoc, arith, inl, inr, nat_eq}
use Rattle.std.specs.Prelude.{replicate}
use Rattle.std.specs.List.{flat_map, list_all}
use Rattle.std.proofs.lemmas.Bool.{cases_lt}
use Rattle.std.proofs.lemmas.List.{take_at, drop_at, append-nil, length-append, length-take, length-drop, take-append-drop}
use Rattle.base.specs.Bits.{low_bits, bit_value, number_of}
use Rattle.stapl_code.specs.Ranges.{IsLiteral}
use Rattle.stapl_code.specs.Fields.{number, bytes_of_bits, bytes_for, literal}
use Rattle.code_files.specs.Reading.{field}
use Rattle.code_files.specs.ReadInstrs.{with_number_from}
use Rattle.code_files.specs.ReadFiles.{is_padded, literal_at}
use Rattle.code_files.proofs.FieldsAgain.{field_again, with_number_from_again}
use Rattle.code_files.proofs.PartsAgain.{made_again, followed_again}
use Rattle.stapl_code.proofs.SizeLemmas.{length_of_packed}

half_of : (b : Bool) (k : ℕ) → (bit_value b + 2 * k) / 2 ≡ k
half_of true k = omega arith
half_of false k = omega arith

lowest_of : (b : Bool) (k : ℕ) → nat_eq ((bit_value b + 2 * k) % 2) 1 ≡ b
lowest_of true k = let low : (1 + 2 * k) % 2 ≡ 1 = omega arith in rw low refl
lowest_of false k = let low : (0 + 2 * k) % 2 ≡ 0 = omega arith in rw low refl

-- the bits of a number, and zeros after them
low_bits_padded : (k : ℕ) (bits : List Bool) → length bits ≤ k → low_bits k (number_of bits) ≡ bits ++ replicate (k - length bits) false
low_bits_padded zero [] few = refl
low_bits_padded zero (b ∷ bits) few = absurd (omega arith)
low_bits_padded (suc k) [] few =
    let more : suc k - 0 ≡ suc (k - 0) = omega arith in
    rw more (ap (λ (z : List Bool). false ∷ z) (low_bits_padded k [] (omega arith)))
low_bits_padded (suc k) (b ∷ bits) few =
    let less : suc k - suc (length bits) ≡ k - length bits = omega arith in
    rw (lowest_of b (number_of bits), half_of b (number_of bits), less) (ap (λ (z : List Bool). b ∷ z) (low_bits_padded k bits (omega arith)))

replicate_more : (m n : ℕ) → replicate m false ++ replicate n false ≡ replicate (m + n) false
replicate_more zero n = let same : 0 + n ≡ n = omega arith in rw same refl
replicate_more (suc m) n = let more : suc m + n ≡ suc (m + n) = omega arith in rw more (ap (λ (z : List Bool). false ∷ z) (replicate_more m n))

none_left : (bits : List Bool) → length bits ≤ 0 → bits ≡ []
none_left [] few = refl
none_left (b ∷ bits) few = absurd (omega arith)

-- eight bits and the rest, each with zeros after it, where the first ones are fewer than eight only at the end
joined : (a b : List Bool) (n : ℕ) → length a ≤ 8 → (length a < 8 → b ≡ []) → length b ≤ 8 * n
    → (a ++ replicate (8 - length a) false) ++ (b ++ replicate (8 * n - length b) false) ≡ (a ++ b) ++ replicate (8 * suc n - length (a ++ b)) false
joined a b n few last rest =
    elim (cases_lt (length a) 8) [
      | inl less ↦
          let gone : b ≡ [] = last less in
          let total : (8 - length a) + 8 * n ≡ 8 * suc n - length a = omega arith in
          let all : 8 * n - 0 ≡ 8 * n = omega arith in
          rw (gone, append-nil a, all) (append_assoc a (replicate (8 - length a) false) (replicate (8 * n) false)
          ∙ ap (λ (z : List Bool). a ++ z) (replicate_more (8 - length a) (8 * n)) ∙ ap (λ (k : ℕ). a ++ replicate k false) total)
      | inr full ↦
          let none : 8 - length a ≡ 0 = omega arith in
          let total : 8 * n - length b ≡ 8 * suc n - length (a ++ b) = omega (arith, length-append a b) in
          rw (none, append-nil a, total) (sym (append_assoc a b (replicate (8 * suc n - length (a ++ b)) false)))
    ]

-- zeros alone stand after the bits
pub unpacked : (n : ℕ) (bits : List Bool) → length bits ≤ 8 * n → flat_map (low_bits 8) (bytes_of_bits n bits) ≡ bits ++ replicate (8 * n - length bits) false
unpacked zero bits few = rw (none_left bits few) refl
unpacked (suc n) bits few =
    let a = take 8 bits in
    let b = drop 8 bits in
    let short : length a ≤ 8 = omega (arith, length-take 8 bits) in
    let front : low_bits 8 (number_of a) ≡ a ++ replicate (8 - length a) false = low_bits_padded 8 a short in
    let after : flat_map (low_bits 8) (bytes_of_bits n b) ≡ b ++ replicate (8 * n - length b) false = unpacked n b (omega (arith, length-drop 8 bits)) in
    let whole : a ++ b ≡ bits = take-append-drop 8 bits in
    let last : length a < 8 → b ≡ [] = λ less. none_left b (omega (arith, length-take 8 bits, length-drop 8 bits)) in
    ap (λ (z : List Bool). z ++ flat_map (low_bits 8) (bytes_of_bits n b)) front
    ∙ ap (λ (z : List Bool). (a ++ replicate (8 - length a) false) ++ z) after
    ∙ joined a b n short last (omega (arith, length-drop 8 bits))
    ∙ ap (λ (z : List Bool). z ++ replicate (8 * suc n - length z) false) whole

all_zero : (n : ℕ) → list_all not (replicate n false) ≡ true
all_zero zero = refl
all_zero (suc n) = all_zero n

pub literal_again : (bits : List Bool) (rest : List ℕ) → IsLiteral bits → literal_at (literal bits ++ rest) ≡ Ok (bits, rest)
literal_again bits rest h =
    let n = bytes_for (length bits) in
    let packed = bytes_of_bits n bits in
    let zeros = 8 * n - length bits in
    let unfolded : flat_map (low_bits 8) packed ≡ bits ++ replicate zeros false = unpacked n bits (omega arith) in
    let kept : take (length bits) (flat_map (low_bits 8) packed) ≡ bits = rw unfolded (take_at bits (replicate zeros false) (length bits) refl) in
    let padded : is_padded (length bits) packed ≡ true = rw (unfolded, drop_at bits (replicate zeros false) (length bits) refl) (all_zero zeros) in
    followed_again (with_number_from 1 16777217 (λ x. x)) _ (number (length bits) ++ (packed ++ rest)) (length bits) (packed ++ rest)
    (with_number_from_again 1 16777217 (λ x. x) (length bits) (packed ++ rest) (omega arith) h.some (omega (arith, h.few)))
    ∙ made_again (λ x. take (length bits) (flat_map (low_bits 8) x)) (field n (is_padded (length bits))) (packed ++ rest) packed rest
    (field_again n (is_padded (length bits)) packed rest (length_of_packed n bits) padded)
    ∙ ap (λ (y : List Bool). Ok (y, rest)) kept
