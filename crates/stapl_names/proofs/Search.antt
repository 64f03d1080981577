-- A search through the blocks that declare a name.
use Rattle.std.proofs.Common.{◌≡◌, ℕ, zero, suc, ◌+◌, ◌<◌, ◌≤◌, Bool, true, false, List, [], ◌∷◌, drop, length, get_or, min, nat_lt, slice_get, All, Option, Some, None, is_some, unwrap_or, true≢false, refl, sym, ap, ◌∙◌, subst, arith}
use Rattle.std.specs.List.{position_or_len}
use Rattle.std.specs.Map.{keys_of}
use Rattle.std.specs.Option.{option_map, option_map_or}
use Rattle.std.specs.Str.{bytes_eq}
use Rattle.std.proofs.lemmas.Bool.{ltb-true, ltb-false}
use Rattle.std.proofs.lemmas.Grind.{get_or_default_zero}
use Rattle.stapl_syntax.specs.declared.names.Found.TheVariants as found
use Rattle.stapl_syntax.specs.declared.names.Key.{Key}
use Rattle.stapl_syntax.specs.Names.{Names, key_eq, key_in, variable_number, found_in}
use Rattle.stapl_names.specs.Tables.{numbers_from}
use Rattle.stapl_names.proofs.Keys.{key_same, name_itself}
use Rattle.stapl_names.proofs.Positions.{found_at, first_is_least}
use Rattle.stapl_names.proofs.Spelled.{numbers_all, numbers_within}

-- the block of a variable
abbrev pub block_of_number : Names → ℕ → List ℕ
block_of_number names number = unwrap_or (option_map (λ e. e.0.block) (slice_get names.variables number)) []

-- none of the first n numbers is that of a variable whose block stands before this place
abbrev pub NoneBefore : Names → List ℕ → List (List ℕ) → ℕ → ℕ → Type 0
NoneBefore names numbers uses n place =
    (k d : ℕ) → k < n → place ≤ position_or_len (bytes_eq (block_of_number names (get_or numbers k d))) uses

entry_at : {K V : Type 0} (es : List (K × V)) (i : ℕ) (k : K) → slice_get (keys_of es) i ≡ Some k → (v : V) × (slice_get es i ≡ Some (k, v))
entry_at [] i k at = absurd (true≢false (sym (ap is_some at)))
entry_at (e ∷ es) zero k at = (e.1, ap Some (λ j. (unwrap_or (at j) k, e.1)))
entry_at (e ∷ es) (suc i) k at = entry_at es i k at

module _ (names : Names) (name : List ℕ) where
  -- blocks that do not declare the name are skipped
  skipped : (uses : List (List ℕ)) (first : ℕ) → ((i : ℕ) (block : List ℕ) → slice_get uses i ≡ Some block → i < first → variable_number names block name ≡ None)
      → found_in names (drop first uses) name ≡ found_in names uses name
  skipped [] zero none = refl
  skipped [] (suc first) none = refl
  skipped (u ∷ us) zero none = refl
  skipped (u ∷ us) (suc first) none =
      skipped us first (λ i block at below. none (suc i) block at (omega (arith, below)))
      ∙ sym (ap (λ o. option_map_or found.Variable o (found_in names us name)) (none 0 u refl (omega arith)))

  none_before : (uses : List (List ℕ)) (first : ℕ)
      → All (λ n. first ≤ position_or_len (bytes_eq (block_of_number names n)) uses) (numbers_from name 0 names.variables)
      → (i : ℕ) (block : List ℕ) → slice_get uses i ≡ Some block → i < first → variable_number names block name ≡ None
  none_before uses first all i block at below = by (variable_number names block name) refl
    where
      by : (o : Option ℕ) → variable_number names block name ≡ o → variable_number names block name ≡ None
      by None is = is
      by (Some n) is =
          let key : Key = key_in block name in
          let found = found_at (key_eq key) (keys_of names.variables) n is in
          let entry = entry_at names.variables n key (found.there ∙ ap Some (sym (key_same key found.item found.passes))) in
          let first_in : ℕ → ℕ = λ m. position_or_len (bytes_eq (block_of_number names m)) uses in
          let least : first ≤ first_in (0 + n) = numbers_all name (λ m. first ≤ first_in m) names.variables 0 n (key, entry.0) all entry.1 (name_itself name) in
          let same : 0 + n ≡ n = omega arith in
          let of_n : first ≤ position_or_len (bytes_eq block) uses =
          subst (λ b. first ≤ position_or_len (bytes_eq b) uses) (ap (λ o. unwrap_or (option_map (λ e. e.0.block) o) []) entry.1) (subst (λ m. first ≤ first_in m) same least) in
          let later = first_is_least block uses i at in
          absurd (omega (arith, of_n, later, below))

  -- the first place of the blocks that declare the name
  pub first_found : (uses : List (List ℕ)) (first : ℕ)
      → All (λ n. first ≤ position_or_len (bytes_eq (block_of_number names n)) uses) (numbers_from name 0 names.variables)
      → found_in names (drop first uses) name ≡ found_in names uses name
  first_found uses first all = skipped uses first (none_before uses first all)

  -- the place that all numbers of the name leave
  pub place_found : (numbers : List ℕ) (uses : List (List ℕ)) (n place : ℕ) → numbers ≡ numbers_from name 0 names.variables → length numbers ≤ n
      → NoneBefore names numbers uses n place → found_in names (drop place uses) name ≡ found_in names uses name
  place_found numbers uses n place are all none =
      first_found uses place (subst (λ l. All (λ m. place ≤ position_or_len (bytes_eq (block_of_number names m)) uses) l) are
      (λ k d below. none k d (omega (arith, below, all))))

  -- a number of the name is that of a variable
  pub number_within : (numbers : List ℕ) (i : ℕ) → numbers ≡ numbers_from name 0 names.variables → i < length numbers → get_or numbers i 0 < length names.variables
  number_within numbers i are below =
      let all = subst (λ l. All (λ k. k < 0 + length names.variables) l) (sym are) (numbers_within name names.variables 0) in
      let within = all i 0 below in
      omega (arith, within)

-- a number more
pub number_more : (names : Names) (numbers : List ℕ) (uses : List (List ℕ)) (i place next : ℕ) (block : List ℕ)
    → NoneBefore names numbers uses i place → i < length numbers
    → option_map (λ e. e.0.block) (slice_get names.variables (get_or numbers i 0)) ≡ Some block
    → next ≡ min place (position_or_len (bytes_eq block) uses) → NoneBefore names numbers uses (i + 1) next
number_more names numbers uses i place next block none within is least k d below = by (nat_lt k i) refl
  where
    by : (b : Bool) → nat_lt k i ≡ b → next ≤ position_or_len (bytes_eq (block_of_number names (get_or numbers k d))) uses
    by true earlier =
        let before = none k d (ltb-true k i earlier) in
        omega (arith, before, least)
    by false later =
        let above : i ≤ k = ltb-false k i later in
        let same : k ≡ i = omega (arith, above, below) in
        let number : get_or numbers k d ≡ get_or numbers i 0 = ap (λ m. get_or numbers m d) same ∙ get_or_default_zero numbers i d within in
        let of_it : block_of_number names (get_or numbers k d) ≡ block = ap (block_of_number names) number ∙ ap (λ o. unwrap_or o []) is in
        rw of_it (omega (arith, least))
