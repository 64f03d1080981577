-- A division has one quotient and one remainder
use Rattle.std.proofs.Common.{◌≡◌, ◌≢◌, ◌<◌, ℕ, zero, suc, ◌+◌, ◌*◌, ℤ, pos, negsuc, ◌<ℤ◌, nat_abs, refl, arith}
use Rattle.std.proofs.lemmas.Int.{ints}
use Rattle.std.proofs.lemmas.Nat.{same_from_place}
use borrow.Author.Differences.{up, down, same_in, same_out, sum_is_lem, product_is}
use Rattle.meaning_laws.specs.Numbers.{IsDivided, IsRoundedDown}

pub one_rounded : (a y z : ℤ) (divisor : ℕ) → IsRoundedDown a divisor y → IsRoundedDown a divisor z → y ≡ z
one_rounded a y z d g h =
    let e = g.whole in
    let f = h.whole in
    let sum : (up y + down z) * d + g.rest ≡ (up z + down y) * d + h.rest = omega (arith, same_out, sum_is_lem, product_is) in
    let same = same_from_place (up y + down z) g.rest (up z + down y) h.rest d g.small h.small sum in
    same_in y z same.0

-- what is left has no sign that the divided integer does not have
not_below : (a : ℕ) (r : ℤ) → (r <ℤ pos 0 → pos a <ℤ pos 0) → (down r ≡ 0) × (up r ≡ nat_abs r)
not_below a (pos r) h = (refl, refl)
not_below a (negsuc r) h = let no = h (let t : negsuc r <ℤ pos 0 = omega (arith, ints) in t) in absurd (omega (arith, ints))

not_above : (a : ℕ) (r : ℤ) → (pos 0 <ℤ r → pos 0 <ℤ negsuc a) → (up r ≡ 0) × (down r ≡ nat_abs r)
not_above a (pos zero) h = (refl, refl)
not_above a (pos (suc r)) h = let no = h (let t : pos 0 <ℤ pos (suc r) = omega (arith, ints) in t) in absurd (omega (arith, ints))
not_above a (negsuc r) h = (refl, refl)

pub one_division : (a b quotient remainder other rest : ℤ) → b ≢ pos 0 → IsDivided a b quotient remainder → IsDivided a b other rest →
    (quotient ≡ other) × (remainder ≡ rest)
one_division (pos a) (pos b) q r p s some g h =
    let e = g.whole in
    let f = h.whole in
    let m = not_below a r g.below in
    let n = not_below a s h.below in
    let less : up r < b = let t = g.small in omega arith in
    let less_too : up s < b = let t = h.small in omega arith in
    let sum : (up q + down p) * b + up r ≡ (up p + down q) * b + up s = omega (arith, same_out, sum_is_lem, product_is) in
    let same = same_from_place (up q + down p) (up r) (up p + down q) (up s) b less less_too sum in
    (same_in q p same.0, same_in r s (omega (arith, same.1)))
one_division (pos a) (negsuc b) q r p s some g h =
    let e = g.whole in
    let f = h.whole in
    let m = not_below a r g.below in
    let n = not_below a s h.below in
    let less : up r < suc b = let t = g.small in omega arith in
    let less_too : up s < suc b = let t = h.small in omega arith in
    let sum : (up p + down q) * suc b + up r ≡ (up q + down p) * suc b + up s = omega (arith, same_out, sum_is_lem, product_is) in
    let same = same_from_place (up p + down q) (up r) (up q + down p) (up s) (suc b) less less_too sum in
    (same_in q p (omega (arith, same.0)), same_in r s (omega (arith, same.1)))
one_division (negsuc a) (pos b) q r p s some g h =
    let e = g.whole in
    let f = h.whole in
    let m = not_above a r g.above in
    let n = not_above a s h.above in
    let less : down r < b = let t = g.small in omega arith in
    let less_too : down s < b = let t = h.small in omega arith in
    let sum : (up p + down q) * b + down r ≡ (up q + down p) * b + down s = omega (arith, same_out, sum_is_lem, product_is) in
    let same = same_from_place (up p + down q) (down r) (up q + down p) (down s) b less less_too sum in
    (same_in q p (omega (arith, same.0)), same_in r s (omega (arith, same.1)))
one_division (negsuc a) (negsuc b) q r p s some g h =
    let e = g.whole in
    let f = h.whole in
    let m = not_above a r g.above in
    let n = not_above a s h.above in
    let less : down r < suc b = let t = g.small in omega arith in
    let less_too : down s < suc b = let t = h.small in omega arith in
    let sum : (up q + down p) * suc b + down r ≡ (up p + down q) * suc b + down s = omega (arith, same_out, sum_is_lem, product_is) in
    let same = same_from_place (up q + down p) (down r) (up p + down q) (down s) (suc b) less less_too sum in
    (same_in q p same.0, same_in r s (omega (arith, same.1)))
