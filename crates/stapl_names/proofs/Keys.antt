-- Names and keys that are equal, and look-ups in tables with one entry more.
use Rattle.std.proofs.Common.{◌≡◌, ℕ, Bool, true, false, cond, List, [], ◌∷◌, ◌++◌, Option, Some, None, is_some, refl, sym, ap, ◌∙◌, true≢false, if◌then◌else◌}
use Rattle.std.specs.Map.{lookup}
use Rattle.std.specs.Option.{option_or}
use Rattle.std.specs.Str.{bytes_eq}
use Rattle.std.proofs.lemmas.Bool.{and_parts}
use Rattle.std.proofs.lemmas.Slice.Eq.{bytes_eq-Decides}
use Rattle.stapl_syntax.specs.declared.names.Key.{Key}
use Rattle.stapl_syntax.specs.Names.{key_eq, put_first, firsts_after}

pub name_same : (a b : List ℕ) → bytes_eq a b ≡ true → a ≡ b
name_same a b e = (bytes_eq-Decides a b).0 e

pub name_itself : (a : List ℕ) → bytes_eq a a ≡ true
name_itself a = (bytes_eq-Decides a a).1 refl

pub key_same : (a b : Key) → key_eq a b ≡ true → a ≡ b
key_same a b e =
    let both = and_parts (bytes_eq a.block b.block) (bytes_eq a.name b.name) e in
    λ j. record { block = name_same a.block b.block both.0 j; name = name_same a.name b.name both.1 j }

pub none_from : {A : Type 0} (o : Option A) → is_some o ≡ false → o ≡ None
none_from None h = refl
none_from (Some x) h = absurd (true≢false h)

module _ {V : Type 0} where
  pub or_none : (o : Option V) → o ≡ option_or o None
  or_none None = refl
  or_none (Some v) = refl

  or_or : (a b c : Option V) → option_or (option_or a b) c ≡ option_or a (option_or b c)
  or_or None b c = refl
  or_or (Some v) b c = refl

module _ {K V : Type 0} where
  -- a look-up in entries after others
  pub lookup_append : (test : K → Bool) (es ys : List (K × V)) → lookup test (es ++ ys) ≡ option_or (lookup test es) (lookup test ys)
  lookup_append test [] ys = refl
  lookup_append test (e ∷ es) ys = by (lookup_append test es ys) (test e.0)
    where
      by : lookup test (es ++ ys) ≡ option_or (lookup test es) (lookup test ys)
          → (b : Bool) → cond b (Some e.1) (lookup test (es ++ ys)) ≡ option_or (cond b (Some e.1) (lookup test es)) (lookup test ys)
      by given true = refl
      by given false = given

  module _ (eq : K → K → Bool) (same : (x y : K) → eq x y ≡ true → x ≡ y) where
    -- an entry that was put is found unless its key was there
    put_found : (k : K) (es : List (K × V)) (x : K × V) → lookup (eq k) (put_first eq es x) ≡ option_or (lookup (eq k) es) (lookup (eq k) (x ∷ []))
    put_found k es x = by (is_some (lookup (eq x.0) es)) refl
      where
        there : (o : Option V) → lookup (eq k) es ≡ o → (b : Bool) → eq k x.0 ≡ b → is_some (lookup (eq x.0) es) ≡ true
            → lookup (eq k) es ≡ option_or (lookup (eq k) es) (cond (eq k x.0) (Some x.1) None)
        there (Some v) found b is h = found ∙ sym (ap (λ o. option_or o (cond (eq k x.0) (Some x.1) None)) found)
        there None found false is h = or_none (lookup (eq k) es) ∙ ap (λ c. option_or (lookup (eq k) es) (cond c (Some x.1) None)) (sym is)
        there None found true is h =
            absurd (true≢false (sym h ∙ ap (λ z. is_some (lookup (eq z) es)) (sym (same k x.0 is)) ∙ ap is_some found))

        by : (b : Bool) → is_some (lookup (eq x.0) es) ≡ b → lookup (eq k) (put_first eq es x) ≡ option_or (lookup (eq k) es) (lookup (eq k) (x ∷ []))
        by true h = ap (λ b. lookup (eq k) (if b then es else es ++ (x ∷ []))) h ∙ there (lookup (eq k) es) refl (eq k x.0) refl h
        by false h = ap (λ b. lookup (eq k) (if b then es else es ++ (x ∷ []))) h ∙ lookup_append (eq k) es (x ∷ [])

    -- what is put after entries is found by its first entry, unless its key was there
    pub found_after : (k : K) (xs es : List (K × V)) → lookup (eq k) (firsts_after eq es xs) ≡ option_or (lookup (eq k) es) (lookup (eq k) xs)
    found_after k [] es = or_none (lookup (eq k) es)
    found_after k (x ∷ xs) es =
        found_after k xs (put_first eq es x)
        ∙ ap (λ o. option_or o (lookup (eq k) xs)) (put_found k es x)
        ∙ or_or (lookup (eq k) es) (lookup (eq k) (x ∷ [])) (lookup (eq k) xs)
        ∙ ap (option_or (lookup (eq k) es)) (sym (lookup_append (eq k) (x ∷ []) xs))
