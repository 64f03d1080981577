-- Blocks of bits in rings.
use Rattle.std.proofs.Common.{◌≡◌, ◌<◌, ◌≤◌, ℕ, inl, inr, ◌+◌, ◌-◌, ◌^◌, Bool, List, [], ◌++◌, length, take, drop, sym, ap, ap₂, ◌∙◌, subst, append_assoc, arith}
use Rattle.std.specs.Prelude.{min}
use Rattle.std.proofs.lemmas.Bool.{cases_lt}
use Rattle.std.proofs.lemmas.List.{append-nil, length-append, length-take-le, take-append-drop, take_at, drop_at, drop_all, drop-drop, drop-take, take-take}
use Rattle.base.specs.Bits.{low_bits, number_of}
use Rattle.base.proofs.NumberBits.{length-low_bits, number_of-below}
use Rattle.bit_list.specs.Ranges.{taken, spliced}
use Rattle.bit_list.proofs.Splices.{length_taken, taken_of_first, take_spliced, spliced_next}
use Rattle.dev_kinds.specs.ShiftRegister.{rotated}

-- the number of a part
pub part_below : (at n : ℕ) (bits : List Bool) → at + n ≤ length bits → number_of (taken at n bits) < 2 ^ n
part_below at n bits h = subst (λ k. number_of (taken at n bits) < 2 ^ k) (length_taken at n bits h) (number_of-below (taken at n bits))

-- a part of a ring is written, and the ring begins after it
block_moved : (head n : ℕ) (xs part : List Bool) → head + n ≤ length xs → length part ≡ n →
    rotated head xs ++ part ≡ taken head n xs ++ rotated (head + n) (spliced head part xs)
block_moved head n xs part h e =
    let rest : List Bool = drop (head + n) xs in
    let front : length (take head xs ++ part) ≡ head + n = length-append (take head xs) part ∙ omega (arith, length-take-le head xs (omega arith), e) in
    let ring : spliced head part xs ≡ (take head xs ++ part) ++ rest = ap (λ k. (take head xs ++ part) ++ drop (head + k) xs) e in
    let turned : rotated (head + n) (spliced head part xs) ≡ rest ++ (take head xs ++ part) =
    ap (rotated (head + n)) ring ∙ ap₂ (λ u v. u ++ v) (drop_at (take head xs ++ part) rest (head + n) front)
    (take_at (take head xs ++ part) rest (head + n) front) in
    let parted : drop head xs ≡ taken head n xs ++ rest = sym (take-append-drop n (drop head xs)) ∙ ap (λ z. taken head n xs ++ z) (drop-drop n head xs) in
    ap (λ z. (z ++ take head xs) ++ part) parted
    ∙ ap (λ z. z ++ part) (append_assoc (taken head n xs) rest (take head xs))
    ∙ append_assoc (taken head n xs) (rest ++ take head xs) part
    ∙ ap (λ z. taken head n xs ++ z) (append_assoc rest (take head xs) part ∙ sym turned)

pub exchanged : (len head n out number : ℕ) (old new : List Bool) → head + n ≤ len → len ≤ length old → low_bits n out ≡ taken head n old →
    new ≡ spliced head (low_bits n number) old → rotated head (take len old) ++ low_bits n number ≡ low_bits n out ++ rotated (head + n) (take len new)
exchanged len head n out number old new h w e f =
    let size : length (low_bits n number) ≡ n = length-low_bits n number in
    let long : length (take len old) ≡ len = length-take-le len old w in
    block_moved head n (take len old) (low_bits n number) (omega arith) size
    ∙ ap₂ (λ u v. u ++ rotated (head + n) v) (taken_of_first len head n old h ∙ sym e)
    (sym (take_spliced len head (low_bits n number) old (omega arith) w) ∙ ap (take len) (sym f))

-- what is left of n places after the end of the ring stands at its front
pub front_has_room : (n len head first place : ℕ) → first ≡ min n (len - head) → head < len → n ≤ len → place < len →
    (head + first ≡ len → place ≡ 0) → place + (n - first) ≤ len
front_has_room n len head first place e h l p z = elim (cases_lt (len - head) n) [
  | inl more ↦ let start : place ≡ 0 = z (omega (arith, e, more, h)) in omega (arith, start, e, l)
  | inr fits ↦ omega (arith, e, fits, p)
]

-- what goes through in two steps
pub in_two_steps : (first second third all near far low high out : List Bool) → all ≡ near ++ far →
    first ++ near ≡ low ++ second → second ++ far ≡ high ++ third →
    out ≡ low ++ high → first ++ all ≡ out ++ third
in_two_steps first second third all near far low high out a e f o =
    ap (λ z. first ++ z) a ∙ sym (append_assoc first near far) ∙ ap (λ z. z ++ far) e ∙ append_assoc low second far
    ∙ ap (λ z. low ++ z) f ∙ sym (append_assoc low high third) ∙ ap (λ z. z ++ third) (sym o)

-- all bits of a number, and none after them
pub all_of_it : (n both out none : ℕ) → low_bits n both ≡ low_bits n out ++ low_bits (n - n) none → low_bits n out ≡ low_bits n both
all_of_it n both out none e =
    let zero_left : n - n ≡ 0 = omega arith in
    sym (e ∙ ap (λ k. low_bits n out ++ low_bits k none) zero_left ∙ append-nil (low_bits n out))

-- the bits of a ring, from its first on to the end of the ring, and then those at its front
pub ring_parts : (len head first : ℕ) (ring : List Bool) → head + first ≡ len → rotated head (take len ring) ≡ taken head first ring ++ taken 0 head ring
ring_parts len head first ring e =
    ap₂ (λ u v. u ++ v) (ap (λ k. drop head (take k ring)) (sym e) ∙ drop-take head first ring) (take-take head len ring (omega arith))

-- the front of a list is written whole, and a ring begins there
pub front_loaded : (n : ℕ) (part old : List Bool) → length part ≡ n → rotated 0 (take n (spliced 0 part old)) ≡ part
front_loaded n part old e = append-nil (take n (spliced 0 part old)) ∙ take_at part (drop (0 + length part) old) n e

-- a ring is copied in two parts
pub ring_given : (len head first : ℕ) (ring old one two : List Bool) → head + first ≡ len → len ≤ length ring → length old ≡ len →
    one ≡ spliced 0 (taken head first ring) old → two ≡ spliced first (taken 0 head ring) one → two ≡ rotated head (take len ring)
ring_given len head first ring old one two e w k a b =
    let near : length (taken head first ring) ≡ first = length_taken head first ring (omega arith) in
    let far : length (taken 0 head ring) ≡ head = length_taken 0 head ring (omega arith) in
    let all : List Bool = taken head first ring ++ taken 0 head ring in
    let size : length all ≡ first + head = length-append (taken head first ring) (taken 0 head ring) ∙ omega arith in
    let none : drop (0 + length all) old ≡ [] = drop_all (0 + length all) old (omega arith) in
    b ∙ ap (spliced first (taken 0 head ring)) a
    ∙ spliced_next 0 first (taken head first ring) (taken 0 head ring) old (omega arith) (omega arith)
    ∙ ap (λ z. all ++ z) none ∙ append-nil all ∙ sym (ring_parts len head first ring e)
