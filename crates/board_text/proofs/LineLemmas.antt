-- The first line of a text.
use Rattle.std.proofs.Common.{◌≡◌, ◌<◌, ◌≤◌, ◌+◌, ℕ, List, [], ◌∷◌, length, take, drop, refl, sym, ap, ◌∙◌, Bool, true, false, cond, nat_lt, Some, None, arith}
use Rattle.std.specs.Prelude.{not, ◌==◌}
use Rattle.std.specs.List.{slice_split, onto_first, position, position_or_len}
use Rattle.std.specs.Str.Lines.{lines, lines_of_parts, strip_carriage_return}
use Rattle.std.proofs.Math.Seq.{drop-length}
use Rattle.std.proofs.lemmas.Bool.{ltb-true, ltb-false, ne_eqb, not-true}
use Rattle.std.proofs.lemmas.List.Splits.{slice_split_first, slice_split_none}
use Rattle.std.proofs.lemmas.List.Sums.{prefix_len_passes}

abbrev feeds : ℕ → Bool
feeds b = b == 10

found_at : (inside : Bool) (n m : ℕ) → Some m ≡ cond inside (Some n) None → (inside ≡ true) × (m ≡ n)
found_at true n m e = (refl, cc)
found_at false n m e = cc

not_found : (inside : Bool) (n : ℕ) → None ≡ cond inside (Some n) None → inside ≡ false
not_found true n e = cc
not_found false n e = refl

more_parts_at : (x : List ℕ) (y : ℕ) (feed : Bool) (parts : List (List ℕ)) → lines_of_parts (x ∷ cond feed ([] ∷ parts) (onto_first y parts))
    ≡ strip_carriage_return x ∷ lines_of_parts (cond feed ([] ∷ parts) (onto_first y parts))
more_parts_at x y true parts = refl
more_parts_at x y false [] = refl
more_parts_at x y false (part ∷ parts) = refl

more_parts : (x ys : List ℕ) → lines_of_parts (x ∷ slice_split feeds ys) ≡ strip_carriage_return x ∷ lines_of_parts (slice_split feeds ys)
more_parts x [] = refl
more_parts x (y ∷ ys) = more_parts_at x y (feeds y) (slice_split feeds ys)

pub line_with_end : (xs : List ℕ) (n : ℕ) → Some n ≡ position feeds xs → lines xs ≡ strip_carriage_return (take n xs) ∷ lines (drop (n + 1) xs)
line_with_end xs n found =
    let place = found_at (nat_lt (position_or_len feeds xs) (length xs)) (position_or_len feeds xs) n found in
    let inside : position_or_len feeds xs < length xs = ltb-true _ _ place.0 in
    ap lines_of_parts (slice_split_first feeds xs 0 inside) ∙ more_parts (take (position_or_len feeds xs) xs) (drop (position_or_len feeds xs + 1) xs)
    ∙ ap (λ (k : ℕ). strip_carriage_return (take k xs) ∷ lines (drop (k + 1) xs)) (sym place.1)

last_part : (xs : List ℕ) → 0 < length xs → lines_of_parts (xs ∷ []) ≡ xs ∷ []
last_part [] some = absurd (omega arith)
last_part (x ∷ xs) some = ap (λ (b : Bool). cond b [] ((x ∷ xs) ∷ [])) (ne_eqb (length (x ∷ xs)) 0 (λ e. absurd (omega arith)))

pub last_line : (xs : List ℕ) → None ≡ position feeds xs → 0 < length xs → lines xs ≡ xs ∷ lines (drop (length xs) xs)
last_line xs none some =
    let ge : length xs ≤ position_or_len feeds xs = ltb-false _ _ (not_found (nat_lt (position_or_len feeds xs) (length xs)) (position_or_len feeds xs) none) in
    ap lines_of_parts (slice_split_none feeds xs (λ k d lt. not-true _ (prefix_len_passes (λ (x : ℕ). not (feeds x)) xs k d (omega arith))))
    ∙ last_part xs some ∙ ap (λ (r : List ℕ). xs ∷ lines r) (sym (drop-length xs))
