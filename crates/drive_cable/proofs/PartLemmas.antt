-- A slice whose end was written, and digits that were put one by one.
use Rattle.std.proofs.Common.{◌≡◌, ◌≤◌, ◌<◌, ◌-◌, ◌+◌, ℕ, suc, nat_eq, Bool, true, false, cond, List, [], ◌∷◌, ◌++◌, take, drop, length, refl, sym, ap, ◌∙◌, ◌||◌, add-one, arith}
use Rattle.std.proofs.lemmas.Bool.{false≢true}
use Rattle.std.proofs.lemmas.Bool.Decides.{nat_tests}
use Rattle.std.specs.Prelude.{slice_set, slice_index_or}
use Rattle.std.proofs.lemmas.List.{append-nil, drop_all, length-drop}
use borrow.Rule.Slice.PartMut.{put_mid}
use Rattle.link_server.specs.Runs.{digit_of}
use Rattle.drive_cable.specs.Peers.{digits_of}
use Rattle.drive_cable.specs.Digits.{is_digit, digits_first}

pub put_end : {A : Type 0} (n : ℕ) (xs ys : List A) → n ≤ length xs → put_mid n (length xs - n) xs ys ≡ take n xs ++ ys
put_end n xs ys h =
    let none : drop (length xs - n) (drop n xs) ≡ [] = drop_all (length xs - n) (drop n xs) (omega (arith, length-drop n xs)) in
    ap (λ v. take n xs ++ (ys ++ v)) none ∙ ap (λ v. take n xs ++ v) (append-nil ys)

is_that : (b k : ℕ) → nat_eq b k ≡ true → b ≡ k
is_that b k e = grind (arith, nat_tests)

pub digit_is : (b : ℕ) → is_digit b ≡ true → digit_of (nat_eq b 49) ≡ b
digit_is b e = by (nat_eq b 48) (nat_eq b 49) refl refl e
  where
    by : (s t : Bool) → nat_eq b 48 ≡ s → nat_eq b 49 ≡ t → (s || t) ≡ true → digit_of t ≡ b
    by s true f g e = sym (is_that b 49 g)
    by true false f g e = sym (is_that b 48 f)
    by false false f g e = absurd (false≢true e)

few_by : (t : Bool) (n m : ℕ) → n ≤ m → cond t (n + 1) 0 ≤ suc m
few_by true n m h = omega (arith, h)
few_by false n m h = omega arith

pub first_few : (bytes : List ℕ) → digits_first bytes ≤ length bytes
first_few [] = omega arith
first_few (b ∷ bytes) = few_by (is_digit b) (digits_first bytes) (length bytes) (first_few bytes)

-- one digit more, before those of the rest
pub one_more : (answers : List ℕ) (into new : List Bool) (r : ℕ) → 0 < length answers → 0 < length into → is_digit (slice_index_or answers 0 0) ≡ true →
    digits_of (take r new) ≡ take r (drop 1 answers) →
    digits_of (take (r + 1) (put_mid 1 (length (slice_set into 0 (nat_eq (slice_index_or answers 0 0) 49)) - 1)
    (slice_set into 0 (nat_eq (slice_index_or answers 0 0) 49)) new)) ≡ take (r + 1) answers
one_more [] into new r some place is e = absurd (omega (arith, some))
one_more (a ∷ answers) [] new r some place is e = absurd (omega (arith, place))
one_more (a ∷ answers) (x ∷ into) new r some place is e =
    ap (λ v. digits_of (take (r + 1) v)) (put_end 1 (nat_eq a 49 ∷ into) new (omega arith))
    ∙ ap (λ k. digits_of (take k (nat_eq a 49 ∷ new))) (add-one r)
    ∙ ap (λ v. v ∷ digits_of (take r new)) (digit_is a is)
    ∙ ap (λ v. a ∷ v) e
    ∙ ap (λ k. take k (a ∷ answers)) (sym (add-one r))
