-- The bits of a literal, word by word.
use Rattle.std.proofs.Common.{◌≡◌, ◌≤◌, ◌<◌, ◌^◌, ◌+◌, ◌-◌, ◌*◌, ◌/◌, ◌%◌, min, ℕ, zero, suc, Bool, true, not, List, [], ◌∷◌, ◌++◌, length, take, drop, replicate, get_or, nat_eq, ◌≢◌, refl, sym, ap, ap₂, ◌∙◌, arith}
use Rattle.std.specs.List.{flat_map, list_all}
use Rattle.std.specs.Int.{w64, from_le_bytes}
use Rattle.std.proofs.Math.Seq.{take-add}
use Rattle.std.proofs.Math.Nat.{pow-suc}
use Rattle.std.proofs.lemmas.Nat.{le_bytes_8}
use Rattle.std.proofs.lemmas.Bool.Decides.{nat_tests}
use Rattle.std.proofs.lemmas.List.{append-nil, length-append, length-drop, length-take-le, take-append-drop, take-append-le, take_all, drop_all, take_min}
use Rattle.std.proofs.lemmas.List.Concat.{flat_map-append}
use Rattle.base.specs.Bits.{low_bits}
use Rattle.base.proofs.NumberBits.{length-low_bits, drop-low_bits, lowest_bits}
use Rattle.bit_list.specs.Ranges.{spliced}
use Rattle.bit_list.proofs.Splices.{taken_of_first, spliced_next}
use Rattle.stapl_code.specs.Fields.{bytes_for}
use Rattle.code_files.specs.ReadFiles.{is_padded}
use Rattle.code_files.proofs.LiteralBytes.{bits_of_bytes}
use Rattle.code_files.proofs.LiteralsTaken.{drop_front, length-unpack}

-- ---- the bits of words

-- the bits of the bytes from one on
drop_bytes : (q : ℕ) (packed : List ℕ) → q ≤ length packed → drop (8 * q) (flat_map (low_bits 8) packed) ≡ flat_map (low_bits 8) (drop q packed)
drop_bytes zero packed inside = refl
drop_bytes (suc q) [] inside = absurd (omega arith)
drop_bytes (suc q) (b ∷ packed) inside =
    let left : 8 * suc q - length (low_bits 8 b) ≡ 8 * q = omega (arith, length-low_bits 8 b) in
    drop_front (8 * suc q) (low_bits 8 b) (flat_map (low_bits 8) packed) (omega (arith, length-low_bits 8 b))
    ∙ ap (λ k. drop k (flat_map (low_bits 8) packed)) left ∙ drop_bytes q packed (omega arith)

-- the first bits do not see what stands after their bytes
front_bits : (n : ℕ) (bytes rest : List ℕ) → n ≤ 8 * length bytes → take n (flat_map (low_bits 8) (bytes ++ rest)) ≡ take n (flat_map (low_bits 8) bytes)
front_bits n bytes rest few =
    ap (take n) (flat_map-append (low_bits 8) bytes rest)
    ∙ take-append-le n (flat_map (low_bits 8) bytes) (flat_map (low_bits 8) rest) (omega (arith, length-unpack bytes))

-- the word of eight bytes
word_bits : (n word : ℕ) (bytes : List ℕ) → n ≤ 64 → length bytes ≡ 8 → ((i : ℕ) → get_or bytes i 0 < 256) → word ≡ from_le_bytes w64 bytes
    → low_bits n word ≡ take n (flat_map (low_bits 8) bytes)
word_bits n word bytes few eight small is =
    sym (lowest_bits n 64 word few)
    ∙ ap (take n) (sym (bits_of_bytes 8 word) ∙ ap (flat_map (low_bits 8)) (le_bytes_8 bytes word eight small is))

-- ---- numbers that are bytes

small_take : (k : ℕ) (xs : List ℕ) → ((i : ℕ) → get_or xs i 0 < 256) → (i : ℕ) → get_or (take k xs) i 0 < 256
small_take zero xs small i = omega arith
small_take (suc k) [] small i = omega arith
small_take (suc k) (x ∷ xs) small zero = small 0
small_take (suc k) (x ∷ xs) small (suc i) = small_take k xs (λ j. small (suc j)) i

small_append : (xs ys : List ℕ) → ((i : ℕ) → get_or xs i 0 < 256) → ((i : ℕ) → get_or ys i 0 < 256) → (i : ℕ) → get_or (xs ++ ys) i 0 < 256
small_append [] ys small others i = others i
small_append (x ∷ xs) ys small others zero = small 0
small_append (x ∷ xs) ys small others (suc i) = small_append xs ys (λ j. small (suc j)) others i

small_zeros : (k m i : ℕ) → get_or (drop m (replicate k 0)) i 0 < 256
small_zeros zero zero i = omega arith
small_zeros zero (suc m) i = omega arith
small_zeros (suc k) zero zero = omega arith
small_zeros (suc k) zero (suc i) = small_zeros k zero i
small_zeros (suc k) (suc m) i = small_zeros k m i

-- ---- words

-- the word of the first eight of more bytes
pub front_word : (n word : ℕ) (bytes front : List ℕ) → n ≤ 64 → 8 ≤ length bytes → ((i : ℕ) → get_or bytes i 0 < 256) →
    front ≡ take 8 bytes → word ≡ from_le_bytes w64 front
    → low_bits n word ≡ take n (flat_map (low_bits 8) bytes)
front_word n word bytes front few long small is value =
    word_bits n word (take 8 bytes) few (length-take-le 8 bytes long) (small_take 8 bytes small) (value ∙ ap (from_le_bytes w64) is)
    ∙ sym (front_bits n (take 8 bytes) (drop 8 bytes) (omega (arith, length-take-le 8 bytes long)))
    ∙ ap (λ x. take n (flat_map (low_bits 8) x)) (take-append-drop 8 bytes)

-- the word of fewer bytes, with zeros after them
pub short_word : (n word : ℕ) (bytes copied : List ℕ) → n ≤ 8 * length bytes → length bytes < 8 → ((i : ℕ) → get_or bytes i 0 < 256) → copied ≡ bytes
    → word ≡ from_le_bytes w64 (copied ++ drop (length bytes) (replicate 8 0)) → low_bits n word ≡ take n (flat_map (low_bits 8) bytes)
short_word n word bytes copied few short small same value =
    let filler : List ℕ = replicate 8 0 in
    let zeros : List ℕ = drop (length bytes) filler in
    let eight : length (bytes ++ zeros) ≡ 8 = omega (arith, length-append bytes zeros, length-drop (length bytes) filler) in
    word_bits n word (bytes ++ zeros) (omega arith) eight (small_append bytes zeros small (small_zeros 8 (length bytes)))
    (value ∙ ap (λ x. from_le_bytes w64 (x ++ zeros)) same)
    ∙ front_bits n bytes zeros few

-- a word more is read
pub word_read : (packed : List ℕ) (start bits new : List Bool) (len k n word : ℕ) → length packed ≡ bytes_for len → length start ≡ len → 64 * k < len →
    n ≡ min 64 (len - 64 * k) →
    low_bits n word ≡ take n (flat_map (low_bits 8) (take (length packed - 8 * k) (drop (8 * k) packed))) →
    new ≡ spliced (64 * k) (low_bits n word) bits →
    bits ≡ spliced 0 (take (64 * k) (take len (flat_map (low_bits 8) packed))) start →
    new ≡ spliced 0 (take (64 * (k + 1)) (take len (flat_map (low_bits 8) packed))) start
word_read packed start bits new len k n word size long lt is read made so_far =
    let all : List Bool = flat_map (low_bits 8) packed in
    let many : length (take len all) ≡ len = length-take-le len all (omega (arith, length-unpack packed)) in
    let front : length (take (64 * k) (take len all)) ≡ 64 * k = length-take-le (64 * k) (take len all) (omega arith) in
    let place : 8 * (8 * k) ≡ 64 * k = omega arith in
    let next : 64 * k + 64 ≡ 64 * (k + 1) = omega arith in
    let room : n ≡ min 64 (length (drop (64 * k) (take len all))) = omega (arith, length-drop (64 * k) (take len all)) in
    let part : low_bits n word ≡ take 64 (drop (64 * k) (take len all)) =
    read ∙ ap (λ x. take n (flat_map (low_bits 8) x)) (take_all (length packed - 8 * k) (drop (8 * k) packed) (omega (arith, length-drop (8 * k) packed)))
    ∙ ap (take n) (sym (drop_bytes (8 * k) packed (omega arith)) ∙ ap (λ j. drop j all) place)
    ∙ sym (taken_of_first len (64 * k) n all (omega arith))
    ∙ ap (λ j. take j (drop (64 * k) (take len all))) room ∙ take_min 64 (drop (64 * k) (take len all)) in
    made ∙ ap₂ (spliced (64 * k)) part so_far
    ∙ spliced_next 0 (64 * k) (take (64 * k) (take len all)) (take 64 (drop (64 * k) (take len all))) start (omega arith) (omega arith)
    ∙ ap (λ z. spliced 0 z start) (sym (take-add (64 * k) 64 (take len all)) ∙ ap (λ j. take j (take len all)) next)

-- all words are read
pub words_read : (packed : List ℕ) (start bits : List Bool) (len k : ℕ) → length packed ≡ bytes_for len → length start ≡ len → len ≤ 64 * k →
    bits ≡ spliced 0 (take (64 * k) (take len (flat_map (low_bits 8) packed))) start → bits ≡ take len (flat_map (low_bits 8) packed)
words_read packed start bits len k size long all is =
    let whole : List Bool = take len (flat_map (low_bits 8) packed) in
    let many : length whole ≡ len = length-take-le len (flat_map (low_bits 8) packed) (omega (arith, length-unpack packed)) in
    let none : drop (0 + length whole) start ≡ [] = drop_all (0 + length whole) start (omega arith) in
    is ∙ ap (λ z. spliced 0 z start) (take_all (64 * k) whole (omega arith)) ∙ ap (λ z. whole ++ z) none ∙ append-nil whole

-- ---- the unused bits

low_zero : (m x : ℕ) → x < 2 ^ m → list_all not (low_bits m x) ≡ nat_eq x 0
low_zero zero x h = let none : x ≡ 0 = omega arith in rw none refl
low_zero (suc m) x h =
    let half : x / 2 < 2 ^ m = omega (arith, pow-suc 2 m) in
    let rest : list_all not (low_bits m (x / 2)) ≡ nat_eq (x / 2) 0 = low_zero m (x / 2) half in
    rw rest (grind (arith, nat_tests))

part_below : (byte used : ℕ) → byte < 256 → used < 8 → byte / 2 ^ used < 2 ^ (8 - used)
part_below byte zero small few = omega arith
part_below byte (suc zero) small few = omega arith
part_below byte (suc (suc zero)) small few = omega arith
part_below byte (suc (suc (suc zero))) small few = omega arith
part_below byte (suc (suc (suc (suc zero)))) small few = omega arith
part_below byte (suc (suc (suc (suc (suc zero))))) small few = omega arith
part_below byte (suc (suc (suc (suc (suc (suc zero)))))) small few = omega arith
part_below byte (suc (suc (suc (suc (suc (suc (suc zero))))))) small few = omega arith
part_below byte (suc (suc (suc (suc (suc (suc (suc (suc k)))))))) small few = absurd (omega arith)

pub zero_from : (byte used : ℕ) → byte < 256 → used < 8 → list_all not (drop used (low_bits 8 byte)) ≡ nat_eq (byte / 2 ^ used) 0
zero_from byte used small few =
    let split : 8 ≡ used + (8 - used) = omega arith in
    ap (λ (n : ℕ). list_all not (drop used (low_bits n byte))) split ∙ ap (list_all not) (drop-low_bits used (8 - used) byte)
    ∙ low_zero (8 - used) (byte / 2 ^ used) (part_below byte used small few)

-- the bits after those of a literal are in its last byte
after_last : (packed : List ℕ) (bits : ℕ) → 1 ≤ length packed → 8 * (length packed - 1) ≤ bits
    → drop bits (flat_map (low_bits 8) packed) ≡ drop (bits - 8 * (length packed - 1)) (low_bits 8 (get_or packed (length packed - 1) 0))
after_last [] bits some least = absurd (omega arith)
after_last (b ∷ []) bits some least =
    let all : bits - 0 ≡ bits = omega arith in
    ap (drop bits) (append-nil (low_bits 8 b)) ∙ ap (λ (n : ℕ). drop n (low_bits 8 b)) (sym all)
after_last (b ∷ (d ∷ packed)) bits some least =
    let eight : bits - length (low_bits 8 b) ≡ bits - 8 = omega (arith, length-low_bits 8 b) in
    let index : suc (suc (length packed)) - 1 ≡ suc (suc (length packed) - 1) = omega arith in
    let left : bits - 8 - 8 * (suc (length packed) - 1) ≡ bits - 8 * (suc (suc (length packed)) - 1) = omega arith in
    drop_front bits (low_bits 8 b) (flat_map (low_bits 8) (d ∷ packed)) (omega (arith, length-low_bits 8 b))
    ∙ ap (λ (n : ℕ). drop n (flat_map (low_bits 8) (d ∷ packed))) eight
    ∙ after_last (d ∷ packed) (bits - 8) (omega arith) (omega arith)
    ∙ ap (λ (n : ℕ). drop n (low_bits 8 (get_or (d ∷ packed) (suc (length packed) - 1) 0))) left
    ∙ ap (λ (k : ℕ). drop (bits - 8 * (suc (suc (length packed)) - 1)) (low_bits 8 (get_or (b ∷ (d ∷ packed)) k 0))) (sym index)

pub padded_full : (packed : List ℕ) (bits : ℕ) → length packed ≡ bytes_for bits → bits % 8 ≡ 0 → is_padded bits packed ≡ true
padded_full packed bits size none =
    let all : drop bits (flat_map (low_bits 8) packed) ≡ [] = drop_all bits (flat_map (low_bits 8) packed) (omega (arith, length-unpack packed)) in
    rw all refl

pub padded_last : (packed : List ℕ) (bits : ℕ) → length packed ≡ bytes_for bits → bits % 8 ≢ 0
    → is_padded bits packed ≡ list_all not (drop (bits % 8) (low_bits 8 (get_or packed (length packed - 1) 0)))
padded_last packed bits size some =
    let used : bits - 8 * (length packed - 1) ≡ bits % 8 = omega arith in
    ap (list_all not) (after_last packed bits (omega arith) (omega arith) ∙ ap (λ (n : ℕ). drop n (low_bits 8 (get_or packed (length packed - 1) 0))) used)
