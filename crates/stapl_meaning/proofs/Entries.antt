-- What holds of each entry that statements declare holds of what a look-up finds among the first entries of each key.
use Rattle.std.proofs.Common.{◌≡◌, ℕ, suc, ◌+◌, Bool, true, false, ◌||◌, cond, if◌then◌else◌, List, [], ◌∷◌, ◌++◌, take, map, get_or, slice_get, Option, Some, None, is_some, refl, sym, ap, subst, ◌∙◌, arith, IfSome, All, Contains}
use Rattle.std.specs.List.{cons_option, list_any}
use Rattle.std.specs.Map.{lookup}
use Rattle.std.specs.Str.{bytes_eq}
use Rattle.std.proofs.lemmas.Bool.{and_parts, or_parts, true≢false}
use Rattle.std.proofs.lemmas.List.Elements.{All-nil, All-cons, All-head, All-tail, All-push, All-contains, All-get_or}
use Rattle.std.proofs.lemmas.List.Folds.{list_any-append}
use Rattle.std.proofs.lemmas.Map.Views.{IfSome-lookup}
use Rattle.std.proofs.lemmas.Option.{get_or_from_slice_get, slice_get-get_or, slice_get_within}
use Rattle.std.proofs.lemmas.Slice.Eq.{bytes_eq-Decides}
use Rattle.stapl_syntax.specs.declared.names.Key.{Key}
use Rattle.stapl_syntax.specs.Trees.{StmtTree}
use Rattle.stapl_syntax.specs.Names.{numbered_from, inside_next, inside_from, declared_from, put_first, firsts_after, firsts, key_eq}

pub name_same : (a b : List ℕ) → bytes_eq a b ≡ true → a ≡ b
name_same a b e = (bytes_eq-Decides a b).0 e

pub key_same : (a b : Key) → key_eq a b ≡ true → a ≡ b
key_same a b e =
    let both = and_parts (bytes_eq a.block b.block) (bytes_eq a.name b.name) e in
    λ j. record { block = name_same a.block b.block both.0 j; name = name_same a.name b.name both.1 j }

-- What holds of each item holds of the one at a place, and the other way round.
module _ {A : Type 0} (P : A → Type 0) where
  pub all_at : (xs : List A) (i : ℕ) (x : A) → All P xs → slice_get xs i ≡ Some x → P x
  all_at xs i x all at = subst P (get_or_from_slice_get xs i x x at) (All-get_or P xs i x (slice_get_within xs i x at) all)

  pub all_from_each : (xs : List A) → ((i : ℕ) (x : A) → slice_get xs i ≡ Some x → P x) → All P xs
  all_from_each xs each = λ i d lt. each i (get_or xs i d) (slice_get-get_or xs i d lt)

module _ {K V : Type 0} (declares : Option (List ℕ) → ℕ → StmtTree → Option (K × V)) (P : K × V → Type 0) where
  -- What holds of the entry of each statement, by the place of the statement, holds of all of them.
  pub all_declared : (rest : List StmtTree) (now : Option (List ℕ)) (n : ℕ) →
      ((i : ℕ) (st : StmtTree) (e : K × V) → slice_get rest i ≡ Some st → declares (inside_from now (numbered_from n (take i (map Some rest)))) (n + i) st ≡ Some e → P e) →
      All P (declared_from declares now (numbered_from n (map Some rest)))
  all_declared [] now n each = All-nil P
  all_declared (st ∷ rest) now n each =
      by (declares now n st) refl (all_declared rest (inside_next now st.body) (n + 1) (λ i s e at is.
      let next : n + suc i ≡ n + 1 + i = omega arith in
      each (suc i) s e at (ap (λ m. declares (inside_from (inside_next now st.body) (numbered_from (n + 1) (take i (map Some rest)))) m s) next ∙ is)))
    where
      by : (o : Option (K × V)) → declares now n st ≡ o →
          All P (declared_from declares (inside_next now st.body) (numbered_from (n + 1) (map Some rest))) →
          All P (cons_option o (declared_from declares (inside_next now st.body) (numbered_from (n + 1) (map Some rest))))
      by None e more = more
      by (Some x) e more =
          let first : n + 0 ≡ n = omega arith in
          All-cons P x (declared_from declares (inside_next now st.body) (numbered_from (n + 1) (map Some rest)))
          (each 0 st x refl (ap (λ m. declares now m st) first ∙ e)) more

module _ {K V : Type 0} (eq : K → K → Bool) where
  all_put : (P : K × V → Type 0) (es : List (K × V)) (x : K × V) → All P es → P x → All P (put_first eq es x)
  all_put P es x all one = by (is_some (lookup (eq x.0) es))
    where
      by : (b : Bool) → All P (if b then es else es ++ (x ∷ []))
      by true = all
      by false = All-push P es x all one

  all_after : (P : K × V → Type 0) (xs es : List (K × V)) → All P es → All P xs → All P (firsts_after eq es xs)
  all_after P [] es front all = front
  all_after P (x ∷ xs) es front all = all_after P xs (put_first eq es x) (all_put P es x front (All-head P x xs all)) (All-tail P x xs all)

  pub all_firsts : (P : K × V → Type 0) (xs : List (K × V)) → All P xs → All P (firsts eq xs)
  all_firsts P xs all = all_after P xs [] (All-nil P) all

  module _ (same : (x y : K) → eq x y ≡ true → x ≡ y) where
    pub found_holds : (P : K × V → Type 0) (es : List (K × V)) (k : K) (v : V) → All P es → lookup (eq k) es ≡ Some v → P (k, v)
    found_holds P es k v all e = All-contains P es (k, v) all (subst (λ o. IfSome o (λ v. Contains es (k, v))) e (IfSome-lookup same k es))

    found_any : (k : K) (es : List (K × V)) → is_some (lookup (eq k) es) ≡ list_any (λ e. eq k e.0) es
    found_any k [] = refl
    found_any k (e ∷ es) = by (eq k e.0) (found_any k es)
      where
        by : (b : Bool) → is_some (lookup (eq k) es) ≡ list_any (λ e. eq k e.0) es → is_some (cond b (Some e.1) (lookup (eq k) es)) ≡ (b || list_any (λ e. eq k e.0) es)
        by true more = refl
        by false more = more

    -- a key that no entry has after one more was put had none before, and is not that of the one
    none_put : (k : K) (es : List (K × V)) (x : K × V) → list_any (λ e. eq k e.0) (put_first eq es x) ≡ false → (list_any (λ e. eq k e.0) es ≡ false) × (eq k x.0 ≡ false)
    none_put k es x none = by (is_some (lookup (eq x.0) es)) refl none
      where
        differs : list_any (λ e. eq k e.0) es ≡ false → is_some (lookup (eq x.0) es) ≡ true → (b : Bool) → eq k x.0 ≡ b → eq k x.0 ≡ false
        differs front there false is = is
        differs front there true is =
            absurd (true≢false (sym there ∙ ap (λ z. is_some (lookup (eq z) es)) (sym (same k x.0 is)) ∙ found_any k es ∙ front))

        by : (b : Bool) → is_some (lookup (eq x.0) es) ≡ b → list_any (λ e. eq k e.0) (if b then es else es ++ (x ∷ [])) ≡ false →
            (list_any (λ e. eq k e.0) es ≡ false) × (eq k x.0 ≡ false)
        by true there front = (front, differs front there (eq k x.0) refl)
        by false there all =
            let both = or_parts (list_any (λ e. eq k e.0) es) (eq k x.0 || false) (sym (list_any-append (λ e. eq k e.0) es (x ∷ [])) ∙ all) in
            (both.0, (or_parts (eq k x.0) false both.1).0)

    none_after : (k : K) (xs es : List (K × V)) → list_any (λ e. eq k e.0) (firsts_after eq es xs) ≡ false →
        (list_any (λ e. eq k e.0) es ≡ false) × (list_any (λ e. eq k e.0) xs ≡ false)
    none_after k [] es none = (none, refl)
    none_after k (x ∷ xs) es none =
        let more = none_after k xs (put_first eq es x) none in
        let put = none_put k es x more.0 in
        (put.0, ap (λ b. b || list_any (λ e. eq k e.0) xs) put.1 ∙ more.1)

    -- a key that the first entries have not is that of no entry
    pub none_has_key : (k : K) (xs : List (K × V)) → is_some (lookup (eq k) (firsts eq xs)) ≡ false → list_any (λ e. eq k e.0) xs ≡ false
    none_has_key k xs none = (none_after k xs [] (sym (found_any k (firsts eq xs)) ∙ none)).1
