-- Of as many names as there are blocks, and one more, one is free.
use Rattle.std.proofs.Common.{◌≡◌, ◌≢◌, ◌⊎◌, ℕ, zero, suc, ◌+◌, ◌<◌, ◌≤◌, ◌^◌, ◌||◌, Bool, true, false, cond, not, List, [], ◌∷◌, length, drop, refl, sym, ap, ◌∙◌, arith}
use mathlib.Core.Logic.{inl, inr}
use Rattle.std.proofs.lemmas.Bool.{false≢true, true≢false, or_parts, cases_order}
use Rattle.std.proofs.lemmas.Fmt.{decimal_injective}
use Rattle.std.proofs.lemmas.Slice.Eq.{bytes_eq-Decides}
use Rattle.std.specs.List.{list_any, filter}
use Rattle.std.specs.Str.{bytes_eq}
use Rattle.stapl_syntax.specs.Trees.{BodyTree, procedure, data_block, StmtTree}
use Rattle.stapl_syntax.specs.Programs.{IsProgram}
use Rattle.stapl_meaning.proofs.Sound.{sound}
use Rattle.carried_plays.specs.PadNames.{pad_name, begins_block, has_block, IsPadNumber}

-- one of these names is that of this number
abbrev is_taken : List (List ℕ) → ℕ → Bool
is_taken names n = list_any (bytes_eq (pad_name n)) names

-- the names that are not this one
abbrev without : List ℕ → List (List ℕ) → List (List ℕ)
without y names = filter (λ x. not (bytes_eq y x)) names

not_longer : (y : List ℕ) (names : List (List ℕ)) → length (without y names) ≤ length names
not_longer y [] = omega arith
not_longer y (z ∷ zs) = by (bytes_eq y z) (not_longer y zs)
  where
    by : (t : Bool) → length (without y zs) ≤ length zs → length (cond (not t) (z ∷ without y zs) (without y zs)) ≤ suc (length zs)
    by true h = omega arith
    by false h = omega arith

shorter : (y : List ℕ) (names : List (List ℕ)) → list_any (bytes_eq y) names ≡ true → length (without y names) < length names
shorter y [] h = absurd (false≢true h)
shorter y (z ∷ zs) h = by (bytes_eq y z) h (not_longer y zs) (shorter y zs)
  where
    by : (t : Bool) → (t || list_any (bytes_eq y) zs) ≡ true → length (without y zs) ≤ length zs → (list_any (bytes_eq y) zs ≡ true → length (without y zs) < length zs)
        → length (cond (not t) (z ∷ without y zs) (without y zs)) < suc (length zs)
    by true h le f = omega arith
    by false h le f = let lt = f h in omega (arith, lt)

free_more : (x y : List ℕ) (names : List (List ℕ)) → bytes_eq x y ≡ false → list_any (bytes_eq x) (without y names) ≡ false → list_any (bytes_eq x) names ≡ false
free_more x y [] differ h = refl
free_more x y (z ∷ zs) differ h = by (bytes_eq y z) refl h (free_more x y zs differ)
  where
    by : (t : Bool) → bytes_eq y z ≡ t → list_any (bytes_eq x) (cond (not t) (z ∷ without y zs) (without y zs)) ≡ false
        → (list_any (bytes_eq x) (without y zs) ≡ false → list_any (bytes_eq x) zs ≡ false) → (bytes_eq x z || list_any (bytes_eq x) zs) ≡ false
    by true e h f = ap (λ w. bytes_eq x w || list_any (bytes_eq x) zs) (sym ((bytes_eq-Decides y z).0 e)) ∙ ap (λ t. t || list_any (bytes_eq x) zs) differ ∙ f h
    by false e h f = let p = or_parts (bytes_eq x z) (list_any (bytes_eq x) (without y zs)) h in ap (λ t. t || list_any (bytes_eq x) zs) p.0 ∙ f p.1

or_right : (a b : Bool) → b ≡ true → (a || b) ≡ true
or_right true b e = refl
or_right false b e = e

taken_more : (x y : List ℕ) (names : List (List ℕ)) → list_any (bytes_eq x) (without y names) ≡ true → list_any (bytes_eq x) names ≡ true
taken_more x y [] h = h
taken_more x y (z ∷ zs) h = by (bytes_eq y z) h (taken_more x y zs)
  where
    in_front : (a b c : Bool) → (a || b) ≡ true → (b ≡ true → c ≡ true) → (a || c) ≡ true
    in_front true b c h f = refl
    in_front false b c h f = f h

    by : (t : Bool) → list_any (bytes_eq x) (cond (not t) (z ∷ without y zs) (without y zs)) ≡ true → (list_any (bytes_eq x) (without y zs) ≡ true → list_any (bytes_eq x) zs ≡ true)
        → (bytes_eq x z || list_any (bytes_eq x) zs) ≡ true
    by true h f = or_right (bytes_eq x z) (list_any (bytes_eq x) zs) (f h)
    by false h f = in_front (bytes_eq x z) (list_any (bytes_eq x) (without y zs)) (list_any (bytes_eq x) zs) h f

names_differ : (n m : ℕ) → n < 2 ^ 64 → m < 2 ^ 64 → n ≢ m → bytes_eq (pad_name n) (pad_name m) ≡ false
names_differ n m a b differ = by (bytes_eq (pad_name n) (pad_name m)) refl
  where
    by : (t : Bool) → bytes_eq (pad_name n) (pad_name m) ≡ t → t ≡ false
    by false e = refl
    by true e = absurd (differ (decimal_injective n m a b (ap (λ (xs : List ℕ). drop 10 xs) ((bytes_eq-Decides (pad_name n) (pad_name m)).0 e))))

-- the first free name from a number on
record FirstFree (names : List (List ℕ)) (s k : ℕ) : Type 0 where
  number : ℕ
  from : s ≤ number
  to : number ≤ s + k
  free : is_taken names number ≡ false
  least : (m : ℕ) → s ≤ m → m < number → is_taken names m ≡ true

first_free : (k s : ℕ) (names : List (List ℕ)) → length names ≤ k → s + k < 2 ^ 64 → FirstFree names s k
first_free zero s [] few small =
    record { number = s; from = omega arith; to = omega arith; free = refl; least = λ m le lt. absurd (omega (arith, le, lt)) }
first_free zero s (x ∷ xs) few small = absurd (omega (arith, few))
first_free (suc k) s names few small = by (is_taken names s) refl (first_free k (s + 1) (without (pad_name s) names))
  where
    by : (t : Bool) → is_taken names s ≡ t
        → (length (without (pad_name s) names) ≤ k → s + 1 + k < 2 ^ 64 → FirstFree (without (pad_name s) names) (s + 1) k) → FirstFree names s (suc k)
    by false e go = record { number = s; from = omega arith; to = omega arith; free = e; least = λ m le lt. absurd (omega (arith, le, lt)) }
    by true e go =
        let less = shorter (pad_name s) names e in
        let f : FirstFree (without (pad_name s) names) (s + 1) k = go (omega (arith, less, few)) (omega (arith, small)) in
        let differ : f.number ≢ s = λ e. omega (arith, f.from, e) in
        let other : bytes_eq (pad_name f.number) (pad_name s) ≡ false = names_differ f.number s (omega (arith, f.to, small)) (omega (arith, small)) differ in
        record {
          number = f.number;
          from = omega (arith, f.from);
          to = omega (arith, f.to);
          free = free_more (pad_name f.number) (pad_name s) names other f.free;
          least = λ m le lt. at_or_after f m le lt (cases_order s m);
        }
      where
        at_or_after : (f : FirstFree (without (pad_name s) names) (s + 1) k) (m : ℕ) → s ≤ m → m < f.number → (s ≡ m) ⊎ ((s < m) ⊎ (m < s)) → is_taken names m ≡ true
        at_or_after f m le lt (inl same) = ap (is_taken names) (sym same) ∙ e
        at_or_after f m le lt (inr (inl above)) = taken_more (pad_name m) (pad_name s) names (f.least m (omega (arith, above)) lt)
        at_or_after f m le lt (inr (inr below)) = absurd (omega (arith, le, below))

-- the names of the blocks, in order
abbrev block_name : BodyTree → List (List ℕ) → List (List ℕ)
block_name (procedure own uses) names = own ∷ names
block_name (data_block own) names = own ∷ names
block_name _ names = names

abbrev block_names : List StmtTree → List (List ℕ)
block_names [] = []
block_names (st ∷ rest) = block_name st.body (block_names rest)

taken_is : (program : List StmtTree) (n : ℕ) → is_taken (block_names program) n ≡ has_block program (pad_name n)
taken_is [] n = refl
taken_is (st ∷ rest) n = by st.body (taken_is rest n)
  where
    by : (b : BodyTree) → is_taken (block_names rest) n ≡ has_block rest (pad_name n) →
        is_taken (block_name b (block_names rest)) n ≡ (begins_block (pad_name n) b || has_block rest (pad_name n))
    by (procedure own uses) e = ap (λ t. bytes_eq (pad_name n) own || t) e
    by (data_block own) e = ap (λ t. bytes_eq (pad_name n) own || t) e
    by _ e = e

as_many : (program : List StmtTree) → length (block_names program) ≤ length program
as_many [] = omega arith
as_many (st ∷ rest) = by st.body (as_many rest)
  where
    by : (b : BodyTree) → length (block_names rest) ≤ length rest → length (block_name b (block_names rest)) ≤ suc (length rest)
    by (procedure own uses) le = omega (arith, le)
    by (data_block own) le = omega (arith, le)
    by _ le = omega (arith, le)

pub a_number : (text : List ℕ) (program : List StmtTree) → IsProgram text program → (n : ℕ) × (n ≤ length program) × IsPadNumber program n
a_number text program is =
    let names : List (List ℕ) = block_names program in
    let few : length program ≤ 100000 = (sound text program is).few in
    let less : length names ≤ length program = as_many program in
    let f : FirstFree names 0 (length names) = first_free (length names) 0 names (omega arith) (omega (arith, few, less)) in (
      f.number,
      omega (arith, f.to, less),
      record {
        free = sym (taken_is program f.number) ∙ f.free;
        least = λ m lt. sym (taken_is program m) ∙ f.least m (omega arith) lt;
      },
    )

pub one_number : (program : List StmtTree) (n m : ℕ) → IsPadNumber program n → IsPadNumber program m → n ≡ m
one_number program n m a b = by (cases_order n m)
  where
    by : (n ≡ m) ⊎ ((n < m) ⊎ (m < n)) → n ≡ m
    by (inl e) = e
    by (inr (inl lt)) = absurd (true≢false (sym (b.least n lt) ∙ a.free))
    by (inr (inr lt)) = absurd (true≢false (sym (a.least m lt) ∙ b.free))
