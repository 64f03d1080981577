-- Lists of bits that are changed as a whole: the bits that two lists have in common, word by word.
use Rattle.std.proofs.Common.{◌≡◌, ◌<◌, ◌≤◌, ℕ, zero, suc, ◌+◌, ◌/◌, ◌%◌, nat_eq, Bool, ◌&&◌, List, [], ◌∷◌, ◌++◌, length, take, refl, sym, ap, ap₂, ◌∙◌, min, arith}
use lib.Bits.{bit_and}
use Rattle.std.proofs.Math.Seq.{take-add}
use Rattle.std.proofs.lemmas.Nat.{and_shr}
use Rattle.std.proofs.lemmas.Nat.Bits.{bit_at_lowest, bit_at_and}
use Rattle.std.proofs.lemmas.List.{take_all, length-take-le}
use Rattle.base.specs.Bits.{low_bits}
use Rattle.bit_list.specs.Ranges.{taken, spliced}
use Rattle.bit_list.proofs.Splices.{spliced_next, taken_above, spliced_whole}
use Rattle.dev_card.specs.Card.{and_bits}

-- the bits that two lists have in common, in two parts
pub length-and_bits : (xs ys : List Bool) → length ys ≡ length xs → length (and_bits xs ys) ≡ length xs
length-and_bits [] ys e = refl
length-and_bits (x ∷ xs) [] e = absurd (omega (arith, e))
length-and_bits (x ∷ xs) (y ∷ ys) e = ap suc (length-and_bits xs ys (omega (arith, e)))

and_bits-append : (xs ys us vs : List Bool) → length ys ≡ length xs → and_bits (xs ++ us) (ys ++ vs) ≡ and_bits xs ys ++ and_bits us vs
and_bits-append [] [] us vs e = refl
and_bits-append [] (y ∷ ys) us vs e = absurd (omega (arith, e))
and_bits-append (x ∷ xs) [] us vs e = absurd (omega (arith, e))
and_bits-append (x ∷ xs) (y ∷ ys) us vs e = ap (λ l. (x && y) ∷ l) (and_bits-append xs ys us vs (omega (arith, e)))

-- those of two numbers
common_bit : (a b : ℕ) → a < 2 → b < 2 → nat_eq (min a b) 1 ≡ (nat_eq a 1 && nat_eq b 1)
common_bit zero zero h k = refl
common_bit zero (suc zero) h k = refl
common_bit zero (suc (suc b)) h k = absurd (omega arith)
common_bit (suc zero) zero h k = refl
common_bit (suc zero) (suc zero) h k = refl
common_bit (suc zero) (suc (suc b)) h k = absurd (omega arith)
common_bit (suc (suc a)) b h k = absurd (omega arith)

low_bits_and : (n x y : ℕ) → low_bits n (bit_and x y) ≡ and_bits (low_bits n x) (low_bits n y)
low_bits_and zero x y = refl
low_bits_and (suc n) x y =
    let lowest : bit_and x y % 2 ≡ min (x % 2) (y % 2) = sym (bit_at_lowest (bit_and x y)) ∙ bit_at_and x y 0 ∙ ap₂ min (bit_at_lowest x) (bit_at_lowest y) in
    let first : nat_eq (bit_and x y % 2) 1 ≡ (nat_eq (x % 2) 1 && nat_eq (y % 2) 1) =
    ap (λ z. nat_eq z 1) lowest ∙ common_bit (x % 2) (y % 2) (omega arith) (omega arith) in
    ap₂ (λ b l. b ∷ l) first (ap (low_bits n) (and_shr x y 1) ∙ low_bits_and n (x / 2) (y / 2))

-- the lowest bits are in common, and the others as they were
abbrev pub common_below : ℕ → List Bool → List Bool → List Bool
common_below done old other = spliced 0 (and_bits (take done old) (take done other)) old

pub common_more : (old other now new : List Bool) (done n x y : ℕ) → length other ≡ length old → done + n ≤ length old → now ≡ common_below done old other →
    low_bits n x ≡ taken done n now → low_bits n y ≡ taken done n other →
    new ≡ spliced done (low_bits n (bit_and x y)) now → new ≡ common_below (done + n) old other
common_more old other now new done n x y e h inv a b p =
    let front : List Bool = and_bits (take done old) (take done other) in
    let next : List Bool = and_bits (taken done n old) (taken done n other) in
    let own : length (take done old) ≡ done = length-take-le done old (omega arith) in
    let same : length (take done other) ≡ length (take done old) = length-take-le done other (omega (arith, e)) ∙ sym own in
    let size : length front ≡ done = length-and_bits (take done old) (take done other) same ∙ own in
    let kept : taken done n now ≡ taken done n old = ap (taken done n) inv ∙ taken_above 0 done n front old (omega arith) (omega arith) in
    let part : low_bits n (bit_and x y) ≡ next = low_bits_and n x y ∙ ap₂ and_bits (a ∙ kept) b in
    let joined : front ++ next ≡ and_bits (take (done + n) old) (take (done + n) other) =
    sym (ap₂ and_bits (take-add done n old) (take-add done n other)
    ∙ and_bits-append (take done old) (take done other) (taken done n old) (taken done n other) same) in
    p ∙ ap₂ (spliced done) part inv ∙ spliced_next 0 done front next old (omega arith) (omega arith) ∙ ap (λ z. spliced 0 z old) joined

pub common_end : (old other now : List Bool) (done : ℕ) → length other ≡ length old → length old ≤ done →
    now ≡ common_below done old other → now ≡ and_bits old other
common_end old other now done e h inv =
    inv ∙ ap (λ z. spliced 0 z old) (ap₂ and_bits (take_all done old h) (take_all done other (omega (arith, e))))
    ∙ spliced_whole (and_bits old other) old (length-and_bits old other e)
