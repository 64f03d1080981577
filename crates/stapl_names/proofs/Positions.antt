-- What stands at the first place that passes a test.
use Rattle.std.proofs.Common.{◌≡◌, ℕ, zero, suc, ◌+◌, ◌<◌, ◌≤◌, Bool, true, false, cond, not, List, [], ◌∷◌, length, position, nat_lt, slice_get, Option, Some, None, IfSome, unwrap_or, is_some, refl, sym, ap, ◌∙◌, subst, arith, true≢false}
use Rattle.std.specs.List.{position_or_len}
use Rattle.std.specs.Str.{bytes_eq}
use Rattle.std.proofs.lemmas.Bool.{ltb-true, ltb-false}
use Rattle.std.specs.Map.{keys_of}
use Rattle.std.specs.Option.{option_map, option_map_or}
use Rattle.std.proofs.lemmas.Option.{slice_get-map, same_Some}
use Rattle.indexmap.proofs.MapLemmas.{some_index}
use Rattle.stapl_syntax.specs.declared.names.Block.{Block}
use Rattle.stapl_syntax.specs.Names.{Names, block_named, found_in}
use Rattle.stapl_names.specs.Tables.{block_name, blocks_used}
use Rattle.stapl_names.proofs.Keys.{name_same, name_itself, none_from}

module _ {X : Type 0} (test : X → Bool) where
  -- an item that is found passes
  pub record IsFoundAt (xs : List X) (i : ℕ) : Type 0 where
    pub item : X
    pub there : slice_get xs i ≡ Some item
    pub passes : test item ≡ true

  found_first : (xs : List X) → position_or_len test xs < length xs → IsFoundAt xs (position_or_len test xs)
  found_first [] within = absurd (omega (arith, within))
  found_first (x ∷ xs) within = by (found_first xs) (test x) refl within
    where
      by : (position_or_len test xs < length xs → IsFoundAt xs (position_or_len test xs))
          → (b : Bool) → test x ≡ b → position_or_len test (x ∷ xs) < length (x ∷ xs) → IsFoundAt (x ∷ xs) (position_or_len test (x ∷ xs))
      by later true is h = record {
        item = x;
        there = ap (λ b. slice_get (x ∷ xs) (cond (not b) (1 + position_or_len test xs) 0)) is;
        passes = is;
      }
      by later false is h =
          let next : 1 + position_or_len test xs ≡ suc (position_or_len test xs) = omega arith in
          let at : position_or_len test (x ∷ xs) ≡ suc (position_or_len test xs) = ap (λ b. cond (not b) (1 + position_or_len test xs) 0) is ∙ next in
          let rest = later (omega (arith, at, h)) in
          record { item = rest.item; there = ap (slice_get (x ∷ xs)) at ∙ rest.there; passes = rest.passes }

  pub found_at : (xs : List X) (i : ℕ) → position test xs ≡ Some i → IsFoundAt xs i
  found_at xs i = by (nat_lt (position_or_len test xs) (length xs)) refl
    where
      by : (b : Bool) → nat_lt (position_or_len test xs) (length xs) ≡ b → cond b (Some (position_or_len test xs)) None ≡ Some i → IsFoundAt xs i
      by true within is = subst (IsFoundAt xs) (ap (λ o. unwrap_or o i) is) (found_first xs (ltb-true (position_or_len test xs) (length xs) within))
      by false within is = absurd (true≢false (sym (ap is_some is)))

  or_len_within : (xs : List X) → position_or_len test xs ≤ length xs
  or_len_within [] = omega arith
  or_len_within (x ∷ xs) = by (or_len_within xs) (not (test x))
    where
      by : position_or_len test xs ≤ length xs → (b : Bool) → cond b (1 + position_or_len test xs) 0 ≤ length (x ∷ xs)
      by later true = omega (arith, later)
      by later false = omega arith

  -- the first place, or the length
  pub place_or_len : (xs : List X) (o : Option ℕ) → o ≡ position test xs → unwrap_or o (length xs) ≡ position_or_len test xs
  place_or_len xs o is = ap (λ p. unwrap_or p (length xs)) is ∙ by (nat_lt (position_or_len test xs) (length xs)) refl
    where
      by : (b : Bool) → nat_lt (position_or_len test xs) (length xs) ≡ b → unwrap_or (cond b (Some (position_or_len test xs)) None) (length xs) ≡ position_or_len test xs
      by true e = refl
      by false e =
          let above : length xs ≤ position_or_len test xs = ltb-false (position_or_len test xs) (length xs) e in
          let within = or_len_within xs in
          omega (arith, above, within)

-- a name that has a position stands there
pub named_there : (name : List ℕ) (names : List (List ℕ)) (o : Option ℕ) → o ≡ position (bytes_eq name) names → IfSome o (λ i. slice_get names i ≡ Some name)
named_there name names None is = tt
named_there name names (Some i) is =
    let at = found_at (bytes_eq name) names i (sym is) in
    at.there ∙ ap Some (sym (name_same name at.item at.passes))

-- the first place of a name is no later than any of its places
pub first_is_least : (name : List ℕ) (names : List (List ℕ)) (i : ℕ) → slice_get names i ≡ Some name → position_or_len (bytes_eq name) names ≤ i
first_is_least name [] i at = absurd (true≢false (sym (ap is_some at)))
first_is_least name (x ∷ xs) zero at =
    let is : bytes_eq name x ≡ true = ap (λ o. bytes_eq name (unwrap_or o name)) at ∙ name_itself name in
    let e : position_or_len (bytes_eq name) (x ∷ xs) ≡ 0 = ap (λ b. cond (not b) (1 + position_or_len (bytes_eq name) xs) 0) is in
    omega (arith, e)
first_is_least name (x ∷ xs) (suc i) at = by (first_is_least name xs i at) (not (bytes_eq name x))
  where
    by : position_or_len (bytes_eq name) xs ≤ i → (b : Bool) → cond b (1 + position_or_len (bytes_eq name) xs) 0 ≤ suc i
    by later true = omega (arith, later)
    by later false = omega arith

-- a block that has no number uses none
pub unlisted : (names : Names) (own name : List ℕ) → position (bytes_eq own) (keys_of names.blocks) ≡ None →
    found_in names [] name ≡ found_in names (blocks_used names own) name
unlisted names own name none = ap (λ o. found_in names (option_map_or (λ (b : Block). b.uses) o []) name) (sym none_named)
  where
    some_none : is_some (block_named names own) ≡ false
    some_none = sym (some_index (bytes_eq own) names.blocks) ∙ ap is_some none

    none_named : block_named names own ≡ None
    none_named = none_from (block_named names own) some_none

-- the block with the number of a name is the block of that name
pub used_by : (names : Names) (own : List ℕ) (number : ℕ) (block : Block) → block_name names number ≡ Some own →
    slice_get names.blocks number ≡ Some (block.name, block) → block_named names block.name ≡ Some block → blocks_used names own ≡ block.uses
used_by names own number block named entry is =
    ap (blocks_used names) (sym same) ∙ ap (λ o. option_map_or (λ (b : Block). b.uses) o []) is
  where
    at : slice_get (keys_of names.blocks) number ≡ Some block.name
    at = slice_get-map (λ e. e.0) names.blocks number ∙ ap (option_map (λ e. e.0)) entry

    same : block.name ≡ own
    same = same_Some block.name own (sym at ∙ named)
