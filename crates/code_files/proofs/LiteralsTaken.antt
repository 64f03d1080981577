-- A literal that is read is spelled by the bytes that were read.
use Rattle.std.proofs.Common.{◌≡◌, ◌≤◌, ◌<◌, ◌+◌, ◌-◌, ◌*◌, ℕ, zero, suc, Bool, true, false, not, List, [], ◌∷◌, ◌++◌, length, take, drop, refl, sym, ap, ◌∙◌, arith}
use Rattle.std.specs.List.{flat_map, list_all}
use Rattle.std.proofs.Math.Seq.{take-append-add}
use Rattle.std.proofs.lemmas.List.{take_at, drop_at, append-nil, length-append, length-take-le}
use Rattle.base.specs.Bits.{low_bits, bit_value, number_of}
use Rattle.base.proofs.NumberBits.{length-low_bits, number_of-low_bits}
use Rattle.stapl_code.specs.Ranges.{IsLiteral}
use Rattle.stapl_code.specs.Fields.{number, bytes_of_bits, bytes_for, literal}
use Rattle.code_files.specs.Reading.{field}
use Rattle.code_files.specs.ReadInstrs.{with_number_from}
use Rattle.code_files.specs.ReadFiles.{is_padded, literal_at}
use Rattle.code_files.proofs.FieldsTaken.{AreBytes, rest_bytes, Takes, IsFrom, IsField, field_takes, made_takes_if, followed_takes, numbers_take}

-- bits that are all 0 are the number 0
zero_bits : (xs : List Bool) → list_all not xs ≡ true → number_of xs ≡ 0
zero_bits [] h = refl
zero_bits (true ∷ xs) h = absurd (cc)
zero_bits (false ∷ xs) h = let rest : number_of xs ≡ 0 = zero_bits xs h in rw rest refl

-- without the bits from a place on, which are 0, the number is the same
same_number : (k : ℕ) (xs : List Bool) → list_all not (drop k xs) ≡ true → number_of (take k xs) ≡ number_of xs
same_number zero xs h = sym (zero_bits xs h)
same_number (suc k) [] h = refl
same_number (suc k) (x ∷ xs) h = ap (λ (n : ℕ). bit_value x + 2 * n) (same_number k xs h)

pub take_front : (k : ℕ) (xs ys : List Bool) → length xs ≤ k → take k (xs ++ ys) ≡ xs ++ take (k - length xs) ys
take_front k xs ys few = let split : k ≡ length xs + (k - length xs) = omega arith in ap (λ (n : ℕ). take n (xs ++ ys)) split ∙ take-append-add xs ys (k - length xs)

pub drop_front : (k : ℕ) (xs ys : List Bool) → length xs ≤ k → drop k (xs ++ ys) ≡ drop (k - length xs) ys
drop_front k [] ys few = let all : k - 0 ≡ k = omega arith in ap (λ (n : ℕ). drop n ys) (sym all)
drop_front zero (x ∷ xs) ys few = absurd (omega arith)
drop_front (suc k) (x ∷ xs) ys few =
    let less : suc k - suc (length xs) ≡ k - length xs = omega arith in
    drop_front k xs ys (omega arith) ∙ ap (λ (n : ℕ). drop n ys) (sym less)

pub take_few : (k : ℕ) (xs : List Bool) → length xs ≤ k → take k xs ≡ xs
take_few zero [] few = refl
take_few zero (x ∷ xs) few = absurd (omega arith)
take_few (suc k) [] few = refl
take_few (suc k) (x ∷ xs) few = ap (λ (z : List Bool). x ∷ z) (take_few k xs (omega arith))

-- eight bits in front are a byte
full_byte : (byte rest : List Bool) (bits n : ℕ) → length byte ≡ 8 → 8 ≤ bits
    → bytes_of_bits (suc n) (take bits (byte ++ rest)) ≡ number_of byte ∷ bytes_of_bits n (take (bits - 8) rest)
full_byte byte rest bits n eight most =
    let left : bits - length byte ≡ bits - 8 = omega arith in
    let front : take bits (byte ++ rest) ≡ byte ++ take (bits - 8) rest = take_front bits byte rest (omega arith) ∙ ap (λ (k : ℕ). byte ++ take k rest) left in
    ap (bytes_of_bits (suc n)) front
    ∙ ap (λ (z : List Bool). number_of z ∷ bytes_of_bits n (drop 8 (byte ++ take (bits - 8) rest))) (take_at byte (take (bits - 8) rest) 8 eight)
    ∙ ap (λ (z : List Bool). number_of byte ∷ bytes_of_bits n z) (drop_at byte (take (bits - 8) rest) 8 eight)

-- at most eight bits are the last byte
last_byte : (byte : List Bool) (bits : ℕ) → length byte ≡ 8 → bits ≤ 8 → list_all not (drop bits byte) ≡ true
    → bytes_of_bits 1 (take bits byte) ≡ number_of byte ∷ []
last_byte byte bits eight most zeros =
    let short : length (take bits byte) ≤ 8 = omega (arith, length-take-le bits byte (omega arith)) in
    ap (λ (z : List Bool). number_of z ∷ []) (take_few 8 (take bits byte) short) ∙ ap (λ (n : ℕ). n ∷ []) (same_number bits byte zeros)

byte_is : (b : ℕ) → b < 256 → number_of (low_bits 8 b) ≡ b
byte_is b h = number_of-low_bits 8 b ∙ omega arith

pub length-unpack : (packed : List ℕ) → length (flat_map (low_bits 8) packed) ≡ 8 * length packed
length-unpack [] = refl
length-unpack (b ∷ packed) = omega (arith, length-unpack packed, length-append (low_bits 8 b) (flat_map (low_bits 8) packed), length-low_bits 8 b)

-- the bits of some bytes, of which all but the last byte are used, are those bytes
packed_again : (packed : List ℕ) (bits : ℕ) → AreBytes packed → bits ≤ 8 * length packed → 8 * length packed < bits + 8
    → list_all not (drop bits (flat_map (low_bits 8) packed)) ≡ true → bytes_of_bits (length packed) (take bits (flat_map (low_bits 8) packed)) ≡ packed
packed_again [] bits are most least zeros = refl
packed_again (b ∷ []) bits are most least zeros =
    let b_is : number_of (low_bits 8 b) ≡ b = byte_is b (are.each 0 0 (omega arith)) in
    let alone : low_bits 8 b ++ [] ≡ low_bits 8 b = append-nil (low_bits 8 b) in
    let none : list_all not (drop bits (low_bits 8 b)) ≡ true = ap (λ (z : List Bool). list_all not (drop bits z)) (sym alone) ∙ zeros in
    ap (λ (z : List Bool). bytes_of_bits 1 (take bits z)) alone
    ∙ last_byte (low_bits 8 b) bits (length-low_bits 8 b) (omega arith) none ∙ ap (λ (n : ℕ). n ∷ []) b_is
packed_again (b ∷ (d ∷ packed)) bits are most least zeros =
    let b_is : number_of (low_bits 8 b) ≡ b = byte_is b (are.each 0 0 (omega arith)) in
    let eight : length (low_bits 8 b) ≡ 8 = length-low_bits 8 b in
    let full : 8 ≤ bits = omega arith in
    let left : bits - length (low_bits 8 b) ≡ bits - 8 = omega arith in
    let none : list_all not (drop (bits - 8) (flat_map (low_bits 8) (d ∷ packed))) ≡ true =
    ap (λ (k : ℕ). list_all not (drop k (flat_map (low_bits 8) (d ∷ packed)))) (sym left)
    ∙ ap (λ (z : List Bool). list_all not z) (sym (drop_front bits (low_bits 8 b) (flat_map (low_bits 8) (d ∷ packed)) (omega arith))) ∙ zeros in
    full_byte (low_bits 8 b) (flat_map (low_bits 8) (d ∷ packed)) bits (length (d ∷ packed)) eight full
    ∙ ap (λ (n : ℕ). n ∷ bytes_of_bits (length (d ∷ packed)) (take (bits - 8) (flat_map (low_bits 8) (d ∷ packed)))) b_is
    ∙ ap (λ (z : List ℕ). b ∷ z) (packed_again (d ∷ packed) (bits - 8) (rest_bytes (b ∷ []) (d ∷ packed) are) (omega arith) (omega arith) none)

-- what the bytes of a literal of so many bits are
record IsUnpacked (bits : ℕ) (packed : List ℕ) (made : List Bool) : Type 0 where
  many : length made ≡ bits
  spelled : bytes_of_bits (bytes_for bits) made ≡ packed

unpacked_is : (bits : ℕ) (packed : List ℕ) → IsField (bytes_for bits) (is_padded bits) packed → IsUnpacked bits packed (take bits (flat_map (low_bits 8) packed))
unpacked_is bits packed h =
    let most : bits ≤ 8 * length packed = omega (arith, h.0) in
    let least : 8 * length packed < bits + 8 = omega (arith, h.0) in
    record {
      many = length-take-le bits (flat_map (low_bits 8) packed) (omega (arith, length-unpack packed));
      spelled = ap (λ (n : ℕ). bytes_of_bits n (take bits (flat_map (low_bits 8) packed))) (sym h.0) ∙ packed_again packed bits h.2 most least h.1;
    }

spelled_so : (bits : ℕ) (packed : List ℕ) (made : List Bool) → IsUnpacked bits packed made → literal made ≡ number bits ++ packed
spelled_so bits packed made h =
    ap (λ (n : ℕ). number n ++ bytes_of_bits (bytes_for n) made) h.many ∙ ap (λ (z : List ℕ). number bits ++ z) h.spelled

is_literal : (bits : ℕ) (packed : List ℕ) (made : List Bool) → IsFrom 1 16777217 bits → IsUnpacked bits packed made → IsLiteral made
is_literal bits packed made few h = record { some = omega (arith, h.many, few.0); few = omega (arith, h.many, few.1) }

pub literal_takes : Takes [] literal_at literal IsLiteral
literal_takes =
    followed_takes [] (with_number_from 1 16777217 (λ bits. bits)) _ number (IsFrom 1 16777217) literal IsLiteral
    (numbers_take [] 1 16777217 (λ bits. bits) number (IsFrom 1 16777217) (λ n. refl) (λ n h. h))
    (λ bits few. made_takes_if _ (λ packed. take bits (flat_map (low_bits 8) packed)) (field (bytes_for bits) (is_padded bits)) (λ x. x) (IsField (bytes_for bits) (is_padded bits))
    literal IsLiteral (field_takes (bytes_for bits) (is_padded bits))
    (λ packed h. spelled_so bits packed (take bits (flat_map (low_bits 8) packed)) (unpacked_is bits packed h))
    (λ packed h. is_literal bits packed (take bits (flat_map (low_bits 8) packed)) few (unpacked_is bits packed h)))
