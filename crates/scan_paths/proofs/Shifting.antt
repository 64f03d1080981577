-- The shift clocks of one part of a scan, bit by bit, and of all parts.
use Rattle.std.proofs.Common.{◌≡◌, ◌<◌, ◌≤◌, ◌+◌, ◌-◌, ◌*◌, ◌/◌, ◌%◌, ◌^◌, ◌&&◌, ℕ, suc, zero, nat_eq, Bool, true, false, List, [], ◌∷◌, ◌++◌, take, drop, length, replicate, refl, sym, ap, ◌∙◌, append_assoc, arith}
use Rattle.std.proofs.lemmas.Bool.Decides.{nat_tests}
use Rattle.std.proofs.lemmas.List.{length-append, length-drop, length-take-le, length-replicate, nil_from_length, drop-drop, drop-take, take-take, take-append-drop, replicate-append-replicate}
use Rattle.std.proofs.lemmas.Nat.{pow_pos}
use Rattle.std.proofs.Math.Seq.{drop-append_seam, take-append_seam}
use Rattle.std.proofs.Math.Nat.{pow-succ'}
use Rattle.base.specs.Bits.{low_bits, number_of}
use Rattle.base.proofs.NumberBits.{length-low_bits, low_bits-number_of}
use Rattle.bit_list.specs.Ranges.{taken, spliced}
use Rattle.dev_card.specs.Blocks.{block_inputs}
use Rattle.dev_card.specs.Board.{Input}
use Rattle.dev_card.specs.Clocks.{is_nil, part_inputs}
use Rattle.dev_card.specs.Padding.{Paddings, padded}
use Rattle.dev_card.proofs.Scanning.{inputs_of_both}
use Rattle.scan_paths.specs.declared.pads.Pads.{Pads}
use Rattle.scan_paths.specs.declared.scans.ScanPlan.{ScanPlan}
use Rattle.scan_paths.specs.Scans.{AreInside, planned_pre, planned_post, paddings_of}
use Rattle.scan_paths.proofs.Arriving.{minus_zero}

-- whether a part is the last one, of which the rest is known
nil_from : (bs : List Bool) (i n : ℕ) → i ≤ n → length bs ≡ n - i → is_nil bs ≡ nat_eq i n
nil_from [] i n h e = let k : i ≡ n = omega arith in grind (arith, nat_tests)
nil_from (b ∷ bs) i n h e = let k : i < n = omega arith in grind (arith, nat_tests)

-- ones: all of them, the next block, none
pub all_ones : (n : ℕ) (last : Bool) → part_inputs last (replicate n true) ≡ part_inputs last (replicate (n - 0) true)
all_ones n last = ap (λ m. part_inputs last (replicate m true)) (minus_zero n)

half_of_ones : (n : ℕ) → (2 * n - 1) / 2 ≡ n - 1
half_of_ones n = omega arith

odd_ones : (n : ℕ) → 1 ≤ n → (2 * n - 1) % 2 ≡ 1
odd_ones n h = omega arith

suc_and : (n m : ℕ) → suc n + m ≡ suc (n + m)
suc_and n m = omega arith

ones_number : (n m : ℕ) → low_bits n (2 ^ (n + m) - 1) ≡ replicate n true
ones_number zero m = refl
ones_number (suc n) m =
    let p : 2 ^ (suc n + m) ≡ 2 * 2 ^ (n + m) = ap (λ k. 2 ^ k) (suc_and n m) ∙ pow-succ' 2 (n + m) in
    let q : ℕ = 2 ^ (n + m) in
    let some : 1 ≤ q = pow_pos (n + m) in
    ap (λ x. low_bits (suc n) (x - 1)) p
    ∙ ap (λ z. nat_eq z 1 ∷ low_bits n ((2 * q - 1) / 2)) (odd_ones q some)
    ∙ ap (λ x. true ∷ low_bits n x) (half_of_ones q)
    ∙ ap (λ z. true ∷ z) (ones_number n m)

ones_in_word : (len : ℕ) → len ≤ 64 → low_bits len 18446744073709551615 ≡ replicate len true
ones_in_word len h = let e : len + (64 - len) ≡ 64 = omega (arith, h) in sym (ap (λ k. low_bits len (2 ^ k - 1)) e) ∙ ones_number len (64 - len)

pub next_ones : (n at len : ℕ) (last : Bool) → len ≤ 64 → at + len ≤ n →
    part_inputs last (replicate (n - at) true) ≡ block_inputs 18446744073709551615 len (last && nat_eq (at + len) n)
    ++ part_inputs last (replicate (n - (at + len)) true)
next_ones n at len last w h =
    let rest : List Bool = replicate (n - (at + len)) true in
    let e : n - at ≡ len + (n - (at + len)) = omega (arith, h) in
    ap (λ k. part_inputs last (replicate k true)) e
    ∙ ap (part_inputs last) (sym (replicate-append-replicate len (n - (at + len)) true))
    ∙ inputs_of_both last (replicate len true) rest
    ∙ ap (λ t. part_inputs (last && t) (replicate len true) ++ part_inputs last rest) (nil_from rest (at + len) n h (length-replicate (n - (at + len)) true))
    ∙ ap (λ z. part_inputs (last && nat_eq (at + len) n) z ++ part_inputs last rest) (sym (ones_in_word len w))

pub no_ones : (n i : ℕ) (last : Bool) → n ≤ i → part_inputs last (replicate (n - i) true) ≡ []
no_ones n i last h = let e : n - i ≡ 0 = omega arith in ap (λ m. part_inputs last (replicate m true)) e

-- the lowest bits of a list: the next block, none
taken_of_front : (bits : List Bool) (n at len : ℕ) → at + len ≤ n → take len (drop at (take n bits)) ≡ taken at len bits
taken_of_front bits n at len h =
    let k : ℕ = n - (at + len) in
    let e : n ≡ at + (len + k) = omega (arith, h) in
    ap (λ j. take len (drop at (take j bits))) e ∙ ap (take len) (drop-take at (len + k) bits) ∙ take-take len (len + k) (drop at bits) (omega arith)

pub next_block : (bits : List Bool) (n at len word : ℕ) (last : Bool) → at + len ≤ n → n ≤ length bits → word ≡ number_of (taken at len bits) →
    part_inputs last (drop at (take n bits)) ≡ block_inputs word len (last && nat_eq (at + len) n) ++ part_inputs last (drop (at + len) (take n bits))
next_block bits n at len word last h k w =
    let own : List Bool = take n bits in
    let size : length (take n bits) ≡ n = length-take-le n bits k in
    let parts : drop at own ≡ take len (drop at own) ++ drop (at + len) own = sym (take-append-drop len (drop at own))
    ∙ ap (λ z. take len (drop at own) ++ z) (drop-drop len at own) in
    let count : length (taken at len bits) ≡ len = length-take-le len (drop at bits) (omega (arith, h, k, length-drop at bits)) in
    let same : take len (drop at own) ≡ low_bits len word =
    taken_of_front bits n at len h ∙ sym (low_bits-number_of (taken at len bits))
    ∙ ap (λ m. low_bits m (number_of (taken at len bits))) count ∙ ap (low_bits len) (sym w) in
    ap (part_inputs last) parts ∙ inputs_of_both last (take len (drop at own)) (drop (at + len) own)
    ∙ ap (λ t. part_inputs (last && t) (take len (drop at own)) ++ part_inputs last (drop (at + len) own))
    (nil_from (drop (at + len) own) (at + len) n h (omega (arith, length-drop (at + len) own, size)))
    ∙ ap (λ z. part_inputs (last && nat_eq (at + len) n) z ++ part_inputs last (drop (at + len) own)) same

pub none_in_list : (bits : List Bool) (n i : ℕ) (last : Bool) → n ≤ i → n ≤ length bits → part_inputs last (drop i (take n bits)) ≡ []
none_in_list bits n i last h k =
    ap (part_inputs last) (nil_from_length (drop i (take n bits)) (omega (arith, length-drop i (take n bits), length-take-le n bits k)))

-- a block that was written
front_of_spliced : (at len : ℕ) (w c : List Bool) → length w ≡ len → at + len ≤ length c → take (at + len) (spliced at w c) ≡ take at c ++ w
front_of_spliced at len w c e h =
    let n : length (take at c ++ w) ≡ at + len = omega (arith, length-append (take at c) w, length-take-le at c, e, h) in
    ap (λ k. take k ((take at c ++ w) ++ drop (at + length w) c)) (sym n)
    ∙ take-append_seam (take at c ++ w) (drop (at + length w) c)

after_spliced : (at len n : ℕ) (w c : List Bool) → length w ≡ len → at + len ≤ length c → at + len ≤ n → drop n (spliced at w c) ≡ drop n c
after_spliced at len n w c e h k =
    let m : ℕ = n - (at + len) in
    let f : n ≡ (at + len) + m = omega (arith, k) in
    let size : length (take at c ++ w) ≡ at + len = omega (arith, length-append (take at c) w, length-take-le at c, e, h) in
    let one : drop (at + len) (spliced at w c) ≡ drop (at + len) c =
    ap (λ j. drop j ((take at c ++ w) ++ drop (at + length w) c)) (sym size)
    ∙ drop-append_seam (take at c ++ w) (drop (at + length w) c) ∙ ap (λ j. drop (at + j) c) e in
    ap (λ j. drop j (spliced at w c)) f ∙ sym (drop-drop m (at + len) (spliced at w c)) ∙ ap (drop m) one
    ∙ drop-drop m (at + len) c ∙ ap (λ j. drop j c) (sym f)

length_of_spliced : (at len : ℕ) (w c : List Bool) → length w ≡ len → at + len ≤ length c → length (spliced at w c) ≡ length c
length_of_spliced at len w c e h =
    omega (
      arith,
      length-append (take at c ++ w) (drop (at + length w) c),
      length-append
          (take at c) w,
      length-take-le at c,
      length-drop (at + length w) c,
      e,
      h,
    )

pub front_of_word : (at len word : ℕ) (new c : List Bool) → new ≡ spliced at (low_bits len word) c →
    at + len ≤ length c → take (at + len) new ≡ take at c ++ low_bits len word
front_of_word at len word new c e h = ap (take (at + len)) e ∙ front_of_spliced at len (low_bits len word) c (length-low_bits len word) h

pub after_word : (at len n word : ℕ) (new c : List Bool) → new ≡ spliced at (low_bits len word) c → at + len ≤ length c → at + len ≤ n → drop n new ≡ drop n c
after_word at len n word new c e h k = ap (drop n) e ∙ after_spliced at len n (low_bits len word) c (length-low_bits len word) h k

pub length_of_word : (at len word : ℕ) (new c : List Bool) → new ≡ spliced at (low_bits len word) c → at + len ≤ length c → length new ≡ length c
length_of_word at len word new c e h = ap length e ∙ length_of_spliced at len (low_bits len word) c (length-low_bits len word) h

-- which part has the last bit
nil_of_list : (n : ℕ) (bits : List Bool) → n ≤ length bits → is_nil (take n bits) ≡ nat_eq n 0
nil_of_list zero bits h = refl
nil_of_list (suc n) [] h = absurd (omega arith)
nil_of_list (suc n) (b ∷ bits) h = grind (arith, nat_tests)

nil_of_ones : (n : ℕ) → is_nil (replicate n true) ≡ nat_eq n 0
nil_of_ones zero = refl
nil_of_ones (suc n) = grind (arith, nat_tests)

both_nil : (xs ys : List Bool) → is_nil (xs ++ ys) ≡ is_nil xs && is_nil ys
both_nil [] ys = refl
both_nil (x ∷ xs) ys = refl

some_here : (xs ys : List Bool) → 0 < length xs → is_nil (xs ++ ys) ≡ false
some_here [] ys h = absurd (omega arith)
some_here (x ∷ xs) ys h = refl

some_after : (xs ys : List Bool) → is_nil ys ≡ false → is_nil (xs ++ ys) ≡ false
some_after [] ys h = h
some_after (x ∷ xs) ys h = refl

inputs_of_padded : (p : Paddings) (bits : List Bool) (no_post no_base : Bool) → 0 < length bits →
    no_post ≡ is_nil (p.post ++ replicate p.base_post true) → no_base ≡ is_nil (replicate p.base_post true) →
    part_inputs true (padded p bits) ≡ part_inputs false (replicate p.base_pre true) ++
    (part_inputs false p.pre ++
    (part_inputs no_post bits ++ (part_inputs no_base p.post ++ part_inputs true (replicate p.base_post true))))
inputs_of_padded p bits no_post no_base h a b =
    let ones : List Bool = replicate p.base_pre true in
    let last : List Bool = replicate p.base_post true in
    let back : List Bool = p.post ++ last in
    let e : padded p bits ≡ ones ++ (p.pre ++ (bits ++ back)) =
    ap (λ z. ones ++ z) (append_assoc p.pre (bits ++ p.post) last ∙ ap (λ z. p.pre ++ z) (append_assoc bits p.post last)) in
    let s1 : is_nil (bits ++ back) ≡ false = some_here bits back h in
    let s2 : is_nil (p.pre ++ (bits ++ back)) ≡ false = some_after p.pre (bits ++ back) s1 in
    let i1 : List Input = part_inputs false ones in
    let i2 : List Input = part_inputs false p.pre in
    let i5 : List Input = part_inputs true last in
    ap (part_inputs true) e
    ∙ inputs_of_both true ones (p.pre ++ (bits ++ back)) ∙ ap (λ t. part_inputs t ones ++ part_inputs true (p.pre ++ (bits ++ back))) s2
    ∙ ap (λ z. i1 ++ z) (inputs_of_both true p.pre (bits ++ back) ∙ ap (λ t. part_inputs t p.pre ++ part_inputs true (bits ++ back)) s1
    ∙ ap (λ z. i2 ++ z) (inputs_of_both true bits back ∙ ap (λ t. part_inputs t bits ++ part_inputs true back) (sym a)
    ∙ ap (λ z. part_inputs no_post bits ++ z) (inputs_of_both true p.post last ∙ ap (λ t. part_inputs t p.post ++ i5) (sym b))))

-- what goes in at the five parts of the shift clocks
abbrev pub base_before : ℕ → List Input
base_before before = part_inputs false (replicate before true)

abbrev pub program_before : Pads → List Input
program_before pads = part_inputs false (take pads.pre pads.pre_bits)

abbrev pub data_part : Pads → ℕ → List Bool → ℕ → List Input
data_part pads after bits n = part_inputs (nat_eq pads.post 0 && nat_eq after 0) (take n bits)

abbrev pub program_after : Pads → ℕ → List Input
program_after pads after = part_inputs (nat_eq after 0) (take pads.post pads.post_bits)

abbrev pub base_after : ℕ → List Input
base_after after = part_inputs true (replicate after true)

-- the paddings of the program between so many ones
abbrev within : ℕ → Pads → ℕ → Paddings
within before pads after = record { base_pre = before; pre = take pads.pre pads.pre_bits; post = take pads.post pads.post_bits; base_post = after }

parts_within : (before : ℕ) (pads : Pads) (after : ℕ) (bits : List Bool) (n : ℕ) → 1 ≤ n → n ≤ length bits → AreInside pads →
    part_inputs true (padded (within before pads after) (take n bits))
    ≡ base_before before ++ (program_before pads ++ (data_part pads after bits n ++ (program_after pads after ++ base_after after)))
parts_within before pads after bits n some h w =
    let no_base : Bool = nat_eq after 0 in
    let no_post : Bool = nat_eq pads.post 0 && no_base in
    inputs_of_padded (within before pads after) (take n bits) no_post no_base (omega (arith, length-take-le n bits h, some))
    (ap (λ t. t && no_base) (sym (nil_of_list pads.post pads.post_bits w.post))
    ∙ ap (λ t. is_nil (take pads.post pads.post_bits) && t) (sym (nil_of_ones after))
    ∙ sym (both_nil (take pads.post pads.post_bits) (replicate after true)))
    (sym (nil_of_ones after))

pub parts_of_pads : (plan : ScanPlan) (pads : Pads) (bits : List Bool) (before after : ℕ) → before ≡ planned_pre plan → after ≡ planned_post plan →
    1 ≤ plan.len → plan.len ≤ length bits → AreInside pads →
    part_inputs true (padded (paddings_of plan pads) (take plan.len bits))
    ≡ base_before before ++ (program_before pads ++ (data_part pads after bits plan.len ++ (program_after pads after ++ base_after after)))
parts_of_pads plan pads bits before after e k some h w =
    ap (λ m. part_inputs true (padded (within m pads (planned_post plan)) (take plan.len bits))) (sym e)
    ∙ ap (λ m. part_inputs true (padded (within before pads m) (take plan.len bits))) (sym k)
    ∙ parts_within before pads after bits plan.len some h w

pub length_of_inputs : (last : Bool) (xs : List Bool) → length (part_inputs last xs) ≡ length xs
length_of_inputs last [] = refl
length_of_inputs last (x ∷ xs) = omega (arith, length_of_inputs last xs)

pub place_of_data : (before : ℕ) (pads : Pads) → AreInside pads → length (base_before before) + (length (program_before pads) + 0) ≡ before + pads.pre
place_of_data before pads w =
    omega (
      arith,
      length_of_inputs false (replicate before true),
      length-replicate before true,
      length_of_inputs false (take pads.pre pads.pre_bits),
      length-take-le pads.pre pads.pre_bits w.pre,
    )
