-- The numbers of the variables of a name, after one variable more.
use Rattle.std.proofs.Common.{◌≡◌, ℕ, zero, suc, ◌+◌, ◌<◌, Bool, true, false, ◌||◌, not, nat_eq, List, [], ◌∷◌, ◌++◌, length, slice_get, All, Some, is_some, unwrap_or, true≢false, refl, sym, ap, ◌∙◌, subst, arith, if◌then◌else◌}
use Rattle.std.specs.List.{list_any}
use Rattle.std.specs.Str.{bytes_eq}
use Rattle.std.proofs.lemmas.Bool.{eqb-true}
use Rattle.std.proofs.lemmas.List.Elements.{All-head, All-tail, All-cons, All-nil}
use Rattle.stapl_syntax.specs.declared.names.Key.{Key}
use Rattle.stapl_syntax.specs.declared.names.Variable.{Variable}
use Rattle.stapl_names.specs.declared.variables.Variables.{Variables}
use Rattle.stapl_names.specs.Tables.{numbers_from, spelled_as, AreSpelled}

some_more : (n : ℕ) → false ≡ nat_eq (suc n) 0
some_more n = by (nat_eq (suc n) 0) refl
  where
    by : (b : Bool) → nat_eq (suc n) 0 ≡ b → false ≡ nat_eq (suc n) 0
    by false e = sym e
    by true e = let same : suc n ≡ 0 = eqb-true (suc n) 0 e in absurd (omega (arith, same))

module _ (name : List ℕ) where
  numbers_more : (es : List (Key × Variable)) (n : ℕ) (e : Key × Variable)
      → numbers_from name n (es ++ (e ∷ [])) ≡ numbers_from name n es ++ (if bytes_eq name e.0.name then (n + length es) ∷ [] else [])
  numbers_more [] n e = by (bytes_eq name e.0.name)
    where
      by : (b : Bool) → (if b then n ∷ [] else []) ≡ (if b then (n + 0) ∷ [] else [])
      by true = let same : n ≡ n + 0 = omega arith in ap (λ k. k ∷ []) same
      by false = refl
  numbers_more (x ∷ es) n e = by (numbers_more es (n + 1) e) (bytes_eq name x.0.name)
    where
      last : ℕ → List ℕ
      last k = if bytes_eq name e.0.name then k ∷ [] else []

      by : numbers_from name (n + 1) (es ++ (e ∷ [])) ≡ numbers_from name (n + 1) es ++ (if bytes_eq name e.0.name then (n + 1 + length es) ∷ [] else [])
          → (b : Bool) → (if b then n ∷ numbers_from name (n + 1) (es ++ (e ∷ [])) else numbers_from name (n + 1) (es ++ (e ∷ [])))
          ≡ (if b then n ∷ numbers_from name (n + 1) es else numbers_from name (n + 1) es) ++ (if bytes_eq name e.0.name then (n + length (x ∷ es)) ∷ [] else [])
      by given true =
          let same : n + 1 + length es ≡ n + length (x ∷ es) = omega arith in
          ap (λ l. n ∷ l) (given ∙ ap (λ k. numbers_from name (n + 1) es ++ (if bytes_eq name e.0.name then k ∷ [] else [])) same)
      by given false =
          let same : n + 1 + length es ≡ n + length (x ∷ es) = omega arith in
          given ∙ ap (λ k. numbers_from name (n + 1) es ++ (if bytes_eq name e.0.name then k ∷ [] else [])) same

  -- some block declares a variable of the name exactly if it has numbers
  pub numbers_any : (es : List (Key × Variable)) (n : ℕ) → list_any (λ e. bytes_eq name e.0.name) es ≡ not (nat_eq (length (numbers_from name n es)) 0)
  numbers_any [] n = refl
  numbers_any (e ∷ es) n = by (numbers_any es (n + 1)) (bytes_eq name e.0.name)
    where
      by : list_any (λ x. bytes_eq name x.0.name) es ≡ not (nat_eq (length (numbers_from name (n + 1) es)) 0)
          → (b : Bool) → (b || list_any (λ x. bytes_eq name x.0.name) es) ≡ not (nat_eq (length (if b then n ∷ numbers_from name (n + 1) es else numbers_from name (n + 1) es)) 0)
      by given true = ap not (some_more (length (numbers_from name (n + 1) es)))
      by given false = given

  -- the numbers are those of variables
  pub numbers_within : (es : List (Key × Variable)) (n : ℕ) → All (λ k. k < n + length es) (numbers_from name n es)
  numbers_within [] n = All-nil (λ k. k < n + 0)
  numbers_within (e ∷ es) n =
      let same : n + 1 + length es ≡ n + length (e ∷ es) = omega arith in
      by (subst (λ m. All (λ k. k < m) (numbers_from name (n + 1) es)) same (numbers_within es (n + 1))) (bytes_eq name e.0.name)
    where
      by : All (λ k. k < n + length (e ∷ es)) (numbers_from name (n + 1) es)
          → (b : Bool) → All (λ k. k < n + length (e ∷ es)) (if b then n ∷ numbers_from name (n + 1) es else numbers_from name (n + 1) es)
      by given true = All-cons (λ k. k < n + length (e ∷ es)) n (numbers_from name (n + 1) es) (omega arith) given
      by given false = given

  -- what holds of each number holds of that of each variable of the name
  pub numbers_all : (P : ℕ → Type 0) (es : List (Key × Variable)) (n i : ℕ) (e : Key × Variable) → All P (numbers_from name n es)
      → slice_get es i ≡ Some e → bytes_eq name e.0.name ≡ true → P (n + i)
  numbers_all P [] n i e all at is = absurd (true≢false (sym (ap is_some at)))
  numbers_all P (x ∷ es) n zero e all at is =
      let here : bytes_eq name x.0.name ≡ true = ap (λ o. bytes_eq name (unwrap_or o x).0.name) at ∙ is in
      let found = subst (λ b. All P (if b then n ∷ numbers_from name (n + 1) es else numbers_from name (n + 1) es)) here all in
      let same : n ≡ n + 0 = omega arith in
      subst P same (All-head P n (numbers_from name (n + 1) es) found)
  numbers_all P (x ∷ es) n (suc i) e all at is =
      let same : n + 1 + i ≡ n + suc i = omega arith in
      subst P same (numbers_all P es (n + 1) i e (by (bytes_eq name x.0.name) all) at is)
    where
      by : (b : Bool) → All P (if b then n ∷ numbers_from name (n + 1) es else numbers_from name (n + 1) es) → All P (numbers_from name (n + 1) es)
      by true h = All-tail P n (numbers_from name (n + 1) es) h
      by false h = h

-- a variable more, and its number
pub spelled_more : (old new : Variables) (v : Variable) (n : ℕ) → AreSpelled old → n ≡ length old.table.entries
    → ((name : List ℕ) → spelled_as new.spelled name ≡ spelled_as old.spelled name ++ (if bytes_eq name v.key.name then n ∷ [] else []))
    → new.table.entries ≡ old.table.entries ++ ((v.key, v) ∷ [])
    → AreSpelled new
spelled_more old new v n given is spelled table = λ name.
    spelled name
    ∙ (λ j. given name j ++ (if bytes_eq name v.key.name then (is ∙ next old) j ∷ [] else []))
    ∙ sym (numbers_more name old.table.entries 0 (v.key, v))
    ∙ ap (numbers_from name 0) (sym table)
  where
    next : (vs : Variables) → length vs.table.entries ≡ 0 + length vs.table.entries
    next vs = omega arith
