-- The variables of a program keep the limits, since no declaration passes one.
use Rattle.std.proofs.Common.{◌≡◌, ℕ, zero, suc, ◌+◌, ◌≤◌, Bool, true, false, ◌||◌, if◌then◌else◌, List, [], ◌∷◌, ◌++◌, take, map, slice_get, Option, Some, None, IfSome, is_some, sum_by, nat_lt, nat_eq, nat_abs, refl, subst, arith}
use Rattle.std.specs.List.{cons_option}
use Rattle.std.specs.Map.{lookup}
use Rattle.std.specs.Option.{option_map_or}
use Rattle.std.proofs.lemmas.Bool.{or_parts, ltb-false, true≢false}
use Rattle.std.proofs.lemmas.List.Sums.{sum_by-cons, sum_by_push}
use Rattle.std.proofs.lemmas.Option.{same_Some, none-some}
use Rattle.stapl_lexer.specs.declared.reason.Reason.TheVariants as reasons
use Rattle.stapl_syntax.specs.declared.names.Declaration.{Declaration}
use Rattle.stapl_syntax.specs.declared.names.Key.{Key}
use Rattle.stapl_syntax.specs.declared.names.Variable.{Variable}
use Rattle.stapl_syntax.specs.Trees.{BodyTree, boolean, boolean_array, integer, integer_array, StmtTree}
use Rattle.stapl_syntax.specs.Names.{Numbered, numbered_from, numbered, inside_next, declaration, variable_entry, variable_in, variable_of, declared_from, declared, put_first, firsts_after, firsts, key_eq}
use Rattle.stapl_syntax.specs.Rules.{is_boolean, Totals, totals_of, boolean_limit, booleans_limit, integers_limit, is_too_large, has_too_many_values}
use Rattle.stapl_meaning.specs.Scopes.{program_names, block_at}
use Rattle.stapl_meaning.specs.Typed.{HasSize, IsSized, integers_of, booleans_of, AreSized}
use Rattle.stapl_meaning.proofs.Entries.{all_declared, all_firsts}
use Rattle.stapl_meaning.proofs.Sound.{IsSound}

-- ---- one declaration

some_elements : (n : ℕ) → nat_eq n 0 ≡ false → 1 ≤ n
some_elements zero e = absurd (true≢false e)
some_elements (suc n) e = omega arith

-- what a declaration that keeps the limits says of its variable
abbrev IsSizedAs : Declaration → Type 0
IsSizedAs d = (1 ≤ nat_abs d.size) × HasSize d.kind (nat_abs d.size)

sized_body : (before : Totals) (body : BodyTree) → option_map_or (is_too_large before) (declaration body) false ≡ false → IfSome (declaration body) IsSizedAs
sized_body before (boolean name start) small = (omega arith, refl)
sized_body before (integer name start) small = (omega arith, refl)
sized_body before (boolean_array name size bits) small =
    let alone = nat_lt boolean_limit (nat_abs size) in
    let together = nat_lt booleans_limit (before.booleans + nat_abs size) in
    let both = or_parts (nat_eq (nat_abs size) 0) (alone || together) small in
    (some_elements (nat_abs size) both.0, ltb-false boolean_limit (nat_abs size) (or_parts alone together both.1).0)
sized_body before (integer_array name size values) small =
    let both = or_parts (nat_eq (nat_abs size) 0) (nat_lt integers_limit (before.integers + nat_abs size)) small in
    let within : before.integers + nat_abs size ≤ integers_limit = ltb-false integers_limit (before.integers + nat_abs size) both.1 in
    (some_elements (nat_abs size) both.0, omega (arith, within))
sized_body before _ small = tt

sized_entry : (now : Option (List ℕ)) (n : ℕ) (o : Option Declaration) (e : Key × Variable) → variable_in now n o ≡ Some e → IfSome o IsSizedAs → IsSized e
sized_entry None n o e is sized = absurd (none-some e is)
sized_entry (Some block) n None e is sized = absurd (none-some e is)
sized_entry (Some block) n (Some d) e is sized = subst IsSized (same_Some (variable_entry block n d) e is) (record { some = sized.0; fits = sized.1 })

-- a declaration keeps the limit of all elements
integers_kept : (before : Totals) (o : Option Declaration) → option_map_or (is_too_large before) o false ≡ false → before.integers ≤ integers_limit →
    before.integers + option_map_or (λ d. if is_boolean d.kind then 0 else nat_abs d.size) o 0 ≤ integers_limit
integers_kept before None small within = omega (arith, within)
integers_kept before (Some d) small within = by (is_boolean d.kind) (or_parts (nat_eq (nat_abs d.size) 0) _ small).1
  where
    by : (b : Bool) → (if b then nat_lt boolean_limit (nat_abs d.size) || nat_lt booleans_limit (before.booleans + nat_abs d.size) else nat_lt integers_limit
        (before.integers + nat_abs d.size)) ≡ false →
        before.integers + (if b then 0 else nat_abs d.size) ≤ integers_limit
    by true small = omega (arith, within)
    by false small = ltb-false integers_limit (before.integers + nat_abs d.size) small

booleans_kept : (before : Totals) (o : Option Declaration) → option_map_or (is_too_large before) o false ≡ false → before.booleans ≤ booleans_limit →
    before.booleans + option_map_or (λ d. if is_boolean d.kind then nat_abs d.size else 0) o 0 ≤ booleans_limit
booleans_kept before None small within = omega (arith, within)
booleans_kept before (Some d) small within = by (is_boolean d.kind) (or_parts (nat_eq (nat_abs d.size) 0) _ small).1
  where
    by : (b : Bool) → (if b then nat_lt boolean_limit (nat_abs d.size) || nat_lt booleans_limit (before.booleans + nat_abs d.size) else nat_lt integers_limit
        (before.integers + nat_abs d.size)) ≡ false →
        before.booleans + (if b then nat_abs d.size else 0) ≤ booleans_limit
    by true small = ltb-false booleans_limit (before.booleans + nat_abs d.size) (or_parts (nat_lt boolean_limit (nat_abs d.size)) (nat_lt booleans_limit (before.booleans + nat_abs d.size)) small).1
    by false small = omega (arith, within)

-- ---- sums

module _ (elements : BodyTree → ℕ) where
  abbrev sum_of : List Numbered → ℕ
  sum_of statements = sum_by (λ s. elements s.statement.body) statements

  sum_first : (n : ℕ) (st : StmtTree) (statements : List Numbered) → sum_of (record { piece = n; statement = st } ∷ statements) ≡ elements st.body + sum_of statements
  sum_first n st = sum_by-cons (λ s. elements s.statement.body) (record { piece = n; statement = st })

  -- the sum over statements keeps a limit if each statement keeps it
  sum_kept : (limit : ℕ) (rest : List StmtTree) (n before : ℕ) → before ≤ limit →
      ((i : ℕ) (st : StmtTree) → slice_get rest i ≡ Some st → before + sum_of (numbered_from n (take i (map Some rest))) ≤ limit →
      before + sum_of (numbered_from n (take i (map Some rest))) + elements st.body ≤ limit) →
      before + sum_of (numbered_from n (map Some rest)) ≤ limit
  sum_kept limit [] n before within each = omega (arith, within)
  sum_kept limit (st ∷ rest) n before within each =
      let first = each 0 st refl (omega (arith, within)) in
      let more = sum_kept limit rest (n + 1) (before + elements st.body) (omega (arith, first)) (λ i s at le.
      let parts = sum_first n st (numbered_from (n + 1) (take i (map Some rest))) in
      let kept = each (suc i) s at (omega (arith, parts, le)) in
      omega (arith, parts, kept)) in
      omega (arith, sum_first n st (numbered_from (n + 1) (map Some rest)), more)

  -- what statements declare has no more elements than they have
  sum_declared : {K V : Type 0} (declares : Option (List ℕ) → ℕ → StmtTree → Option (K × V)) (size : K × V → ℕ) →
      ((now : Option (List ℕ)) (n : ℕ) (st : StmtTree) (e : K × V) → declares now n st ≡ Some e → size e ≤ elements st.body) →
      (rest : List StmtTree) (now : Option (List ℕ)) (n : ℕ) →
      sum_by size (declared_from declares now (numbered_from n (map Some rest))) ≤ sum_of (numbered_from n (map Some rest))
  sum_declared declares size each [] now n = omega arith
  sum_declared {K} {V} declares size each (st ∷ rest) now n = by (declares now n st) refl (sum_declared declares size each rest (inside_next now st.body) (n + 1))
    where
      by : (o : Option (K × V)) → declares now n st ≡ o →
          sum_by size (declared_from declares (inside_next now st.body) (numbered_from (n + 1) (map Some rest))) ≤ sum_of (numbered_from (n + 1) (map Some rest)) →
          sum_by size (cons_option o (declared_from declares (inside_next now st.body) (numbered_from (n + 1) (map Some rest))))
          ≤ sum_of (record { piece = n; statement = st } ∷ numbered_from (n + 1) (map Some rest))
      by None e more =
          omega (arith, more, sum_first n st (numbered_from (n + 1) (map Some rest)))
      by (Some x) e more =
          omega (
            arith,
            more,
            each now n st x e,
            sum_first n st (numbered_from (n + 1) (map Some rest)),
            sum_by-cons size x (declared_from declares (inside_next now st.body) (numbered_from (n + 1) (map Some rest))),
          )

-- the first entries of each key have no more elements than all
module _ {K V : Type 0} (eq : K → K → Bool) (size : K × V → ℕ) where
  sum_put : (es : List (K × V)) (x : K × V) → sum_by size (put_first eq es x) ≤ sum_by size es + size x
  sum_put es x = by (is_some (lookup (eq x.0) es))
    where
      by : (b : Bool) → sum_by size (if b then es else es ++ (x ∷ [])) ≤ sum_by size es + size x
      by true = omega arith
      by false = omega (arith, sum_by_push size es x)

  sum_after : (xs es : List (K × V)) → sum_by size (firsts_after eq es xs) ≤ sum_by size es + sum_by size xs
  sum_after [] es = omega arith
  sum_after (x ∷ xs) es = omega (arith, sum_after xs (put_first eq es x), sum_put es x, sum_by-cons size x xs)

  sum_firsts : (xs : List (K × V)) → sum_by size (firsts eq xs) ≤ sum_by size xs
  sum_firsts xs = omega (arith, sum_after xs [])

-- the variables have no more elements than all declarations
sum_of_variables : (elements : Option Declaration → ℕ) (limit : ℕ) (size : Key × Variable → ℕ) →
    ((block : List ℕ) (n : ℕ) (d : Declaration) → size (variable_entry block n d) ≤ elements (Some d)) → (program : List StmtTree) →
    ((i : ℕ) (st : StmtTree) → slice_get program i ≡ Some st → sum_of (λ body. elements (declaration body)) (numbered (take i (map Some program))) ≤ limit →
    sum_of (λ body. elements (declaration body)) (numbered (take i (map Some program))) + elements (declaration st.body) ≤ limit) →
    sum_by size (program_names program).variables ≤ limit
sum_of_variables elements limit size within program each =
    let total = sum_kept (λ body. elements (declaration body)) limit program 1 0 (omega arith) (λ i st at le.
    let kept = each i st at (omega (arith, le)) in omega (arith, kept)) in
    let all = sum_declared (λ body. elements (declaration body)) variable_of size (λ now n st e is. entry now n (declaration st.body) e is) program None 1 in
    omega (arith, total, all, sum_firsts key_eq size (declared variable_of (numbered (map Some program))))
  where
    entry : (now : Option (List ℕ)) (n : ℕ) (o : Option Declaration) (e : Key × Variable) → variable_in now n o ≡ Some e → size e ≤ elements o
    entry None n o e is = absurd (none-some e is)
    entry (Some block) n None e is = absurd (none-some e is)
    entry (Some block) n (Some d) e is = subst (λ e. size e ≤ elements (Some d)) (same_Some (variable_entry block n d) e is) (within block n d)

-- ---- all declarations of a program

module _ (program : List StmtTree) (sound : IsSound program) where
  -- how many elements are declared before a place
  abbrev totals_before : ℕ → Totals
  totals_before i = totals_of (numbered (take i (map Some program)))

  limits_at : (i : ℕ) (st : StmtTree) → slice_get program i ≡ Some st →
      (option_map_or (is_too_large (totals_before i)) (declaration st.body) false ≡ false) × (has_too_many_values st.body ≡ false)
  limits_at i st at =
      or_parts (option_map_or (is_too_large (totals_before i)) (declaration st.body) false) (has_too_many_values st.body) (sound.keeps i st reasons.SizeLimit at)

  pub few_values_at : (i : ℕ) (st : StmtTree) → slice_get program i ≡ Some st → has_too_many_values st.body ≡ false
  few_values_at i st at = (limits_at i st at).1

  pub sized : AreSized (program_names program).variables
  sized = record {
    each = all_firsts key_eq IsSized (declared variable_of (numbered (map Some program)))
        (all_declared variable_of IsSized program None 1 (λ i st e at is.
        sized_entry (block_at program i) (1 + i) (declaration st.body) e is (sized_body (totals_before i) st.body (limits_at i st at).0)));
    integers = sum_of_variables (λ o. option_map_or (λ d. if is_boolean d.kind then 0 else nat_abs d.size) o 0) integers_limit integers_of (λ block n d. omega arith) program
        (λ i st at le. integers_kept (totals_before i) (declaration st.body) (limits_at i st at).0 le);
    booleans = sum_of_variables (λ o. option_map_or (λ d. if is_boolean d.kind then nat_abs d.size else 0) o 0) booleans_limit booleans_of (λ block n d. omega arith) program
        (λ i st at le. booleans_kept (totals_before i) (declaration st.body) (limits_at i st at).0 le);
  }
