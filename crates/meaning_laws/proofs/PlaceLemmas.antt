-- The places of a range, by their numbers: how many there are, and which one comes at each number
use Rattle.std.proofs.Common.{◌≡◌, ℕ, zero, suc, ◌+◌, ◌<◌, ◌≤◌, ◌-◌, ◌⊎◌, inl, inr, List, [], ◌∷◌, length, get_or, refl, sym, ◌∙◌, subst, arith}
use Rattle.std.proofs.lemmas.Bool.{cases_lt}
use Rattle.std.proofs.lemmas.List.{same_lists}
use Rattle.meaning_laws.specs.Places.{ArePlaces, last, upwards, downwards}

-- places that go upwards, and places that go downwards
pub record GoUp (first second : ℕ) (places : List ℕ) : Type 0 where
  pub count : second + length places ≡ first + 1
  pub item : (k d : ℕ) → k < length places → get_or places k d ≡ second + k

pub record GoDown (first second : ℕ) (places : List ℕ) : Type 0 where
  pub count : first + length places ≡ second + 1
  pub item : (k d : ℕ) → k < length places → get_or places k d + k ≡ second

one_up : (first k d : ℕ) → k < 1 → get_or (first ∷ []) k d ≡ first + k
one_up first zero d less = omega arith
one_up first (suc k) d less = absurd (omega arith)

more_up : (first second k d : ℕ) (places : List ℕ) → GoUp first (suc second) places → k < suc (length places) → get_or (second ∷ places) k d ≡ second + k
more_up first second zero d places more less = omega arith
more_up first second (suc k) d places more less = more.item k d (omega arith) ∙ omega arith

pub go_up : {first second : ℕ} {places : List ℕ} → ArePlaces first second places → second ≤ first → GoUp first second places
go_up {first = first} last below = record { count = refl; item = one_up first }
go_up {first = first} (upwards {second = second} {places = places} less after) below =
    let more : GoUp first (suc second) places = go_up after (omega arith) in
    record { count = omega (arith, more.count); item = λ k d. more_up first second k d places more }
go_up (downwards over after) below = absurd (omega (arith, over, below))

one_down : (first k d : ℕ) → k < 1 → get_or (first ∷ []) k d + k ≡ first
one_down first zero d less = omega arith
one_down first (suc k) d less = absurd (omega arith)

more_down : (first second k d : ℕ) (places : List ℕ) → GoDown first second places → k < suc (length places) → get_or (suc second ∷ places) k d + k ≡ suc second
more_down first second zero d places more less = omega arith
more_down first second (suc k) d places more less = omega (arith, more.item k d (omega arith))

pub go_down : {first second : ℕ} {places : List ℕ} → ArePlaces first second places → first ≤ second → GoDown first second places
go_down {first = first} last above = record { count = refl; item = one_down first }
go_down (upwards less after) above = absurd (omega (arith, less, above))
go_down {first = first} (downwards {second = second} {places = places} over after) above =
    let more : GoDown first second places = go_down after over in
    record { count = omega (arith, more.count); item = λ k d. more_down first second k d places more }

pub same_places : (first second : ℕ) (places others : List ℕ) → ArePlaces first second places → ArePlaces first second others → places ≡ others
same_places first second places others p q = by (cases_lt first second)
  where
    by : (first < second) ⊎ (second ≤ first) → places ≡ others
    by (inr below) =
        let one : GoUp first second places = go_up p below in let other : GoUp first second others = go_up q below in
        same_lists places others (omega (arith, one.count, other.count))
        (λ k d less. one.item k d less ∙ sym (other.item k d (omega (arith, one.count, other.count, less))))
    by (inl above) =
        let one : GoDown first second places = go_down p (omega arith) in let other : GoDown first second others = go_down q (omega arith) in
        same_lists places others (omega (arith, one.count, other.count))
        (λ k d less. omega (arith, one.item k d less, other.item k d (omega (arith, one.count, other.count, less))))

places_up : (n first second : ℕ) → second + n ≡ first → (places : List ℕ) × ArePlaces first second places
places_up zero first second e =
    let same : first ≡ second = omega (arith, e) in subst (λ j. (places : List ℕ) × ArePlaces first j places) same (first ∷ [], last)
places_up (suc n) first second e =
    let more : (places : List ℕ) × ArePlaces first (suc second) places = places_up n first (suc second) (omega (arith, e)) in
    (second ∷ more.0, upwards (omega (arith, e)) more.1)

places_down : (n first second : ℕ) → first + n ≡ second → (places : List ℕ) × ArePlaces first second places
places_down zero first second e =
    let same : first ≡ second = omega (arith, e) in subst (λ j. (places : List ℕ) × ArePlaces first j places) same (first ∷ [], last)
places_down (suc n) first zero e = absurd (omega (arith, e))
places_down (suc n) first (suc second) e =
    let more : (places : List ℕ) × ArePlaces first second places = places_down n first second (omega (arith, e)) in
    (suc second ∷ more.0, downwards (omega (arith, e)) more.1)

pub some_places : (first second : ℕ) → (places : List ℕ) × ArePlaces first second places
some_places first second = by (cases_lt first second)
  where
    by : (first < second) ⊎ (second ≤ first) → (places : List ℕ) × ArePlaces first second places
    by (inr below) = places_up (first - second) first second (omega arith)
    by (inl above) = places_down (second - first) first second (omega arith)
