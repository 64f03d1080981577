-- The tests of limits and of ranges, against the words of the table
use Rattle.std.proofs.Common.{◌≡◌, ℕ, ◌+◌, ◌-◌, ◌<◌, ◌≤◌, Bool, true, false, ◌&&◌, ℤ, pos, negsuc, inl, inr, refl, sym, ap, ◌∙◌, subst, arith, nat_lt}
use Rattle.std.proofs.Common.{nat_le, int_le, if◌then◌else◌}
use Rattle.std.proofs.Math.Facts.{ltb_yes, yes_ltb, leb_yes, yes_leb}
use Rattle.std.proofs.lemmas.Bool.{lt-ltb, le-ltb, ltb-true, ltb-false, leb-true, leb-false, le-leb, lt-leb}
use Rattle.std.specs.Int.Signed.{lt_z_yes, le_z_yes}
use Rattle.stapl_meaning.specs.declared.events.RunFault.{RunFault}
use Rattle.stapl_meaning.specs.declared.events.RunFault.TheVariants.{IndexOutOfRange}
use Rattle.stapl_meaning.specs.Values.{Known, Faults, is_index, Span, rising_span, span_between, of_programs}
use Rattle.meaning_laws.specs.Limits.{IsOutside, IsNoIndex}
use Rattle.meaning_laws.specs.ExprFaults.{RangeBreaks, first_outside, second_outside}
use Rattle.meaning_laws.specs.PartFaults.{RangeHas, to_lower, to_higher}
use Rattle.meaning_laws.proofs.Gets.{Gives}

pub no_index : (size : ℕ) (z : ℤ) → is_index z size ≡ false → IsNoIndex size z
no_index size (pos n) e = inr (le_z_yes (yes_leb (ltb-false n size e)))
no_index size (negsuc n) e = inl (lt_z_yes tt)

pub not_index : (size : ℕ) (z : ℤ) → IsNoIndex size z → is_index z size ≡ false
not_index size (pos n) (inl h) = let below : n < 0 = ltb_yes h.lt in absurd (omega (arith, below))
not_index size (pos n) (inr h) = le-ltb n size (leb_yes h.le)
not_index size (negsuc n) h = refl

-- an index below most + 1 is one up to most
pub outside : (most : ℕ) (z : ℤ) → is_index z (most + 1) ≡ false → IsOutside (pos 0) (pos most) z
outside most (pos n) e = let above : most + 1 ≤ n = ltb-false n (most + 1) e in inr (lt_z_yes (yes_ltb (omega (arith, above))))
outside most (negsuc n) e = inl (lt_z_yes tt)

pub not_outside : (most : ℕ) (z : ℤ) → IsOutside (pos 0) (pos most) z → is_index z (most + 1) ≡ false
not_outside most (pos n) (inl h) = let below : n < 0 = ltb_yes h.lt in absurd (omega (arith, below))
not_outside most (pos n) (inr h) = let above : most < n = ltb_yes h.lt in le-ltb n (most + 1) (omega (arith, above))
not_outside most (negsuc n) h = refl

-- from a least number that is not 0 on
pub outside_both : (least most : ℕ) (z : ℤ) → int_le (pos least) z && int_le z (pos most) ≡ false → IsOutside (pos least) (pos most) z
outside_both least most (negsuc n) e = inl (lt_z_yes tt)
outside_both least most (pos n) e = by (nat_le least n) refl (nat_le n most) refl e
  where
    by : (a : Bool) → nat_le least n ≡ a → (b : Bool) → nat_le n most ≡ b → a && b ≡ false → IsOutside (pos least) (pos most) (pos n)
    by false f b g e = inl (lt_z_yes (yes_ltb (leb-false least n f)))
    by true f false g e = inr (lt_z_yes (yes_ltb (leb-false n most g)))
    by true f true g e = absurd cc

pub not_both : (least most : ℕ) (z : ℤ) → IsOutside (pos least) (pos most) z → int_le (pos least) z && int_le z (pos most) ≡ false
not_both least most (negsuc n) h = refl
not_both least most (pos n) (inl h) = ap (λ b. b && nat_le n most) (lt-leb least n (ltb_yes h.lt))
not_both least most (pos n) (inr h) = ap (λ b. nat_le least n && b) (lt-leb n most (ltb_yes h.lt)) ∙ and_false (nat_le least n)
  where
    and_false : (b : Bool) → b && false ≡ false
    and_false true = refl
    and_false false = refl

pub both : (least most n : ℕ) → int_le (pos least) (pos n) && int_le (pos n) (pos most) ≡ true → (least ≤ n) × (n ≤ most)
both least most n e = by (nat_le least n) refl (nat_le n most) refl e
  where
    by : (a : Bool) → nat_le least n ≡ a → (b : Bool) → nat_le n most ≡ b → a && b ≡ true → (least ≤ n) × (n ≤ most)
    by true f true g e = (leb-true least n f, leb-true n most g)
    by true f false g e = absurd cc
    by false f b g e = absurd cc

pub is_between : (least most n : ℕ) → least ≤ n → n ≤ most → int_le (pos least) (pos n) && int_le (pos n) (pos most) ≡ true
is_between least most n a b = ap (λ t. t && nat_le n most) (le-leb least n a) ∙ le-leb n most b

-- a range that breaks by the table breaks by the tests
pub range_faults : {n : ℕ} {first second : ℤ} {k : RunFault} → RangeBreaks n first second k → span_between of_programs n first second ≡ Faults k
range_faults {n = n} (first_outside {first = first} out) = let e : is_index first n ≡ false = not_index n first out in rw e refl
range_faults {n = n} (second_outside {first = first} {second = second} inside out) =
    let e : nat_lt first n ≡ true = lt-ltb first n inside in
    let f : is_index second n ≡ false = not_index n second out in
    rw e (rw f refl)

-- the part that a range is, by whether its second index is not above its first index
abbrev pub part_by : Bool → (first second : ℕ) → Span
part_by true first second = record { low = second; count = first + 1 - second; falls = false }
part_by false first second = record { low = first; count = second + 1 - first; falls = true }

abbrev pub part_of : (first second : ℕ) → Span
part_of first second = part_by (nat_le second first) first second

-- it has as many bits as its range
pub part_has : (first second : ℕ) → RangeHas first second (part_of first second).count
part_has first second = by (nat_le second first) refl
  where
    by : (t : Bool) → nat_le second first ≡ t → RangeHas first second (part_by t first second).count
    by true e = let below : second ≤ first = leb-true second first e in to_lower below (omega (arith, below))
    by false e = let above : first < second = leb-false second first e in to_higher above (omega (arith, above))

pub part_count : {first second n : ℕ} → RangeHas first second n → (part_of first second).count ≡ n
part_count {first = first} {second = second} (to_lower below count) =
    ap (λ t. (part_by t first second).count) (le-leb second first below) ∙ omega (arith, below, count)
part_count {first = first} {second = second} (to_higher above count) =
    ap (λ t. (part_by t first second).count) (lt-leb second first above) ∙ omega (arith, above, count)

-- a range by the table is a part of the array
pub part_known : (n first second : ℕ) → first < n → second < n → span_between of_programs n (pos first) (pos second) ≡ Known (part_of first second)
part_known n first second first_in second_in =
    let e : nat_lt first n ≡ true = lt-ltb first n first_in in
    let f : nat_lt second n ≡ true = lt-ltb second n second_in in
    rw e (rw f (by (nat_le second first)))
  where
    by : (t : Bool) → (if t then Known (part_by true first second) else rising_span of_programs first second) ≡ Known (part_by t first second)
    by true = refl
    by false = refl

-- the tests break a range by the table, or it is a part of the array
pub range_gives : (Q : Span → Type 0) (P : RunFault → Type 0) (n : ℕ) (first second : ℤ) → ((k : RunFault) → RangeBreaks n first second k → P k) →
    ((i j : ℕ) → first ≡ pos i → second ≡ pos j → i < n → j < n → Q (part_of i j)) → Gives Q P (span_between of_programs n first second)
range_gives Q P n (negsuc i) second p q = p IndexOutOfRange (first_outside (inl (lt_z_yes tt)))
range_gives Q P n (pos i) second p q = by (nat_lt i n) refl second (is_index second n) refl refl
  where
    broken : RangeBreaks n (pos i) second IndexOutOfRange → Gives Q P (span_between of_programs n (pos i) second)
    broken h = subst (Gives Q P) (sym (range_faults h)) (p IndexOutOfRange h)

    by : (a : Bool) → nat_lt i n ≡ a → (z : ℤ) (b : Bool) → is_index z n ≡ b → second ≡ z → Gives Q P (span_between of_programs n (pos i) second)
    by false e z b f is = broken (first_outside (no_index n (pos i) e))
    by true e z false f is = broken (second_outside (ltb-true i n e) (subst (IsNoIndex n) (sym is) (no_index n z f)))
    by true e (negsuc j) true f is = absurd cc
    by true e (pos j) true f is =
        let first_in : i < n = ltb-true i n e in
        let second_in : j < n = ltb-true j n f in
        subst (λ z. Gives Q P (span_between of_programs n (pos i) z)) (sym is)
        (subst (Gives Q P) (sym (part_known n i j first_in second_in)) (q i j refl is first_in second_in))
