-- On lists that grow.
use Rattle.std.proofs.Common.{◌≡◌, ℕ, zero, suc, ◌+◌, List, [], ◌∷◌, ◌++◌, refl, ap, ◌∙◌, arith, append_assoc}
use Rattle.std.proofs.lemmas.List.{flat_map_more}
use Rattle.std.specs.List.{flat_map, range_with_len}

-- one number more
pub range_more : (a n j : ℕ) → a + n ≡ j → range_with_len a (n + 1) ≡ range_with_len a n ++ j ∷ []
range_more a zero j e =
    let k : a ≡ j = omega arith in
    rw k refl
range_more a (suc n) j e =
    let k : suc n + 1 ≡ suc (n + 1) = omega arith in
    rw k (ap (λ ns. a ∷ ns) (range_more (a + 1) n j (omega arith)))

-- and what each number stands for
pub numbered_more : {A : Type 0} (f : ℕ → List A) (before : List A) (a n j : ℕ) → a + n ≡ j →
    (before ++ flat_map f (range_with_len a n)) ++ f j ≡ before ++ flat_map f (range_with_len a (n + 1))
numbered_more f before a n j e = rw (range_more a n j e) (flat_map_more f before (range_with_len a n) j)

-- these elements follow those that stood there at the start
pub record IsAppended {A : Type 0} (start put now : List A) : Type 0 where
  pub is : now ≡ start ++ put

pub appended_first : {A : Type 0} (start put now : List A) → now ≡ start ++ put → IsAppended start put now
appended_first start put now e = record { is = e }

pub appended_then : {A : Type 0} {start put was : List A} (more now : List A) → IsAppended start put was → now ≡ was ++ more →
    IsAppended start (put ++ more) now
appended_then {start = start} {put = put} more now p e = record { is = e ∙ rw p.is (append_assoc start put more) }
