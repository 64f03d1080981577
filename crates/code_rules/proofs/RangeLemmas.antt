-- Elements of a range of a list.
use Rattle.std.proofs.Common.{◌≡◌, ℕ, zero, suc, ◌+◌, ◌-◌, ◌<◌, ◌≤◌, List, [], ◌∷◌, Some, length, take, drop, slice_get, slice_range, arith, refl, sym, ap, ◌∙◌, add-one, length-take, length-drop}
use Rattle.std.proofs.lemmas.Option.{slice_get_within}
use Rattle.stapl_code.proofs.Heads.{head_of, get_head, drop_tail}

module _ {A : Type 0} where
  range_by : (n i : ℕ) (xs l : List A) (x : A) (rest : List A) → drop i xs ≡ l → take n l ≡ x ∷ rest →
      (m : ℕ) × (n ≡ suc m) × (slice_get xs i ≡ Some x) × (take m (drop (i + 1) xs) ≡ rest)
  range_by zero i xs l x rest d e = absurd cc
  range_by (suc m) i xs [] x rest d e = absurd cc
  range_by (suc m) i xs (y ∷ ys) x rest d e =
      let same : y ≡ x = cc in
      let tail : take m ys ≡ rest = cc in
      let dropped : drop (i + 1) xs ≡ ys = rw add-one (drop_tail i xs ∙ ap (drop 1) d) in
      (m, refl, get_head i xs ∙ ap head_of d ∙ ap Some same, ap (take m) dropped ∙ tail)

  -- the first element of a range, and the range after it
  pub range_cons : (xs : List A) (i to : ℕ) (x : A) (rest : List A) → slice_range xs i to ≡ x ∷ rest →
      (i < to) × (i < length xs) × (slice_get xs i ≡ Some x) × (slice_range xs (i + 1) to ≡ rest)
  range_cons xs i to x rest e =
      let r = range_by (to - i) i xs (drop i xs) x rest refl e in
      let fewer : to - (i + 1) ≡ r.0 = omega (arith, r.1) in
      (omega (arith, r.1), slice_get_within xs i x r.2, r.2, ap (λ (n : ℕ). take n (drop (i + 1) xs)) fewer ∙ r.3)

  pub range_none : (xs : List A) (i to : ℕ) → slice_range xs i to ≡ [] → i < to → i < length xs → ⊥
  range_none xs i to e h within = omega (arith, ap length e, length-take (to - i) (drop i xs), length-drop i xs)

  -- a range with an element ends after its beginning
  pub range_goes_on : (xs : List A) (i to : ℕ) (l : List A) → slice_range xs i to ≡ l → 0 < length l → i < to
  range_goes_on xs i to [] e some = absurd (omega arith)
  range_goes_on xs i to (y ∷ more) e some = (range_cons xs i to y more e).0

  get_taken : (n k : ℕ) (l : List A) (x : A) → slice_get (take n l) k ≡ Some x → (k < n) × (slice_get l k ≡ Some x)
  get_taken zero k l x e = absurd cc
  get_taken (suc n) k [] x e = absurd cc
  get_taken (suc n) zero (y ∷ l) x e = (omega arith, e)
  get_taken (suc n) (suc k) (y ∷ l) x e = let r = get_taken n k l x e in (omega (arith, r.0), r.1)

  get_take : (n k : ℕ) (l : List A) → k < n → slice_get (take n l) k ≡ slice_get l k
  get_take zero k l h = absurd (omega arith)
  get_take (suc n) k [] h = refl
  get_take (suc n) zero (y ∷ l) h = refl
  get_take (suc n) (suc k) (y ∷ l) h = get_take n k l (omega arith)

  get_drop : (n k : ℕ) (l : List A) → slice_get (drop n l) k ≡ slice_get l (n + k)
  get_drop zero k l = let same : k ≡ 0 + k = omega arith in ap (slice_get l) same
  get_drop (suc n) k [] = refl
  get_drop (suc n) k (y ∷ l) = let same : suc (n + k) ≡ suc n + k = omega arith in get_drop n k l ∙ ap (slice_get (y ∷ l)) same

  -- an element that is found in a range is the list's own
  pub range_some : (xs : List A) (from to i : ℕ) (x : A) → from ≤ i → slice_get (slice_range xs from to) (i - from) ≡ Some x →
      (i < to) × (slice_get xs i ≡ Some x)
  range_some xs from to i x h e =
      let r = get_taken (to - from) (i - from) (drop from xs) x e in
      let same : from + (i - from) ≡ i = omega arith in
      (omega (arith, r.0), ap (slice_get xs) (sym same) ∙ sym (get_drop from (i - from) xs) ∙ r.1)

  pub range_get : (xs : List A) (from to i : ℕ) → from ≤ i → i < to → slice_get (slice_range xs from to) (i - from) ≡ slice_get xs i
  range_get xs from to i h less =
      let same : from + (i - from) ≡ i = omega arith in
      get_take (to - from) (i - from) (drop from xs) (omega arith) ∙ get_drop from (i - from) xs ∙ ap (slice_get xs) same
