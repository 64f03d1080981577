-- On the words of the program.
use Rattle.std.proofs.Common.{◌≡◌, ◌≢◌, ◌≤◌, ◌-◌, ◌==◌, ℕ, Bool, false, List, [], ◌∷◌, length, map, take, drop, get_or, refl, sym, ◌∙◌, arith, codes, ◌⊎◌, inl, inr}
use Rattle.std.proofs.lemmas.Bool.{false≢true}
use Rattle.std.proofs.lemmas.List.{take_all}
use Rattle.command_words.proofs.ValueLemmas.{one_path}
use Rattle.command_words.proofs.FoundOrNot.{path_or_not}
use Rattle.print_tool.specs.Words.{IsProgramWord, NamesProgram, IsWordUsage, no_program, too_many, HasUsage}

module _ {A : Type 0} (f : A → List ℕ) where
  -- the first one, and the others
  pub after_first : (xs : List A) (x : A) → 1 ≤ length xs → x ≡ get_or xs 0 x → map f xs ≡ f x ∷ map f (take (length xs - 1) (drop 1 xs))
  after_first [] x some e = absurd (omega (arith, some))
  after_first (y ∷ ys) x some e =
      let all : take (length (y ∷ ys) - 1) ys ≡ ys = take_all (length (y ∷ ys) - 1) ys (omega arith) in
      rw (all, e) refl

  -- there are some after the first
  pub some_more : (xs : List A) (b : Bool) → b ≡ (length xs == 0) → b ≡ false → map f xs ≢ []
  some_more [] b e none = absurd (false≢true (sym none ∙ e))
  some_more (x ∷ xs) b e none = λ same. cc

-- the words name one file
pub one_named : (words : List (List ℕ)) (a b : List ℕ) → NamesProgram words a → NamesProgram words b → a ≡ b
one_named [] a b x y = absurd x
one_named (word ∷ []) a b x y = one_path (codes "program=") word a b x y
one_named (word ∷ other ∷ rest) a b x y = absurd x

not_both : (word : List ℕ) (n : ℕ) (path : List ℕ) → IsWordUsage word [] n → IsProgramWord word path → ⊥
not_both word n path (no_program none e) named = none path named
not_both word n path (too_many other is some e) named = some refl

-- words that are refused name none
pub refused_names_none : (words : List (List ℕ)) (n : ℕ) (path : List ℕ) → HasUsage words n → NamesProgram words path → ⊥
refused_names_none [] n path usage named = named
refused_names_none (word ∷ []) n path usage named = not_both word n path usage named
refused_names_none (word ∷ other ∷ rest) n path usage named = named

one_word_usage : (word : List ℕ) (rest : List (List ℕ)) (n m : ℕ) → IsWordUsage word rest n → IsWordUsage word rest m → n ≡ m
one_word_usage word rest n m (no_program none e) (no_program other f) = e ∙ sym f
one_word_usage word rest n m (no_program none e) (too_many path named some f) = absurd (none path named)
one_word_usage word rest n m (too_many path named some f) (no_program none e) = absurd (none path named)
one_word_usage word rest n m (too_many path named some e) (too_many other is more f) = e ∙ sym f

-- and they are refused at one word
pub one_usage : (words : List (List ℕ)) (n m : ℕ) → HasUsage words n → HasUsage words m → n ≡ m
one_usage [] n m e f = e ∙ sym f
one_usage (word ∷ rest) n m x y = one_word_usage word rest n m x y

-- all words name a file or are refused
pub named_or_refused : (words : List (List ℕ)) → ((path : List ℕ) × NamesProgram words path) ⊎ ((n : ℕ) × HasUsage words n)
named_or_refused [] = inr (1, refl)
named_or_refused (word ∷ []) = by (path_or_not (codes "program=") word)
  where
    by : ((path : List ℕ) × IsProgramWord word path) ⊎ ((path : List ℕ) → IsProgramWord word path → ⊥) →
        ((path : List ℕ) × NamesProgram (word ∷ []) path) ⊎ ((n : ℕ) × HasUsage (word ∷ []) n)
    by (inl named) = inl named
    by (inr none) = inr (1, no_program none refl)
named_or_refused (word ∷ other ∷ rest) = by (path_or_not (codes "program=") word)
  where
    by : ((path : List ℕ) × IsProgramWord word path) ⊎ ((path : List ℕ) → IsProgramWord word path → ⊥) →
        ((path : List ℕ) × NamesProgram (word ∷ other ∷ rest) path) ⊎ ((n : ℕ) × HasUsage (word ∷ other ∷ rest) n)
    by (inl named) = inr (2, too_many named.0 named.1 (λ e. cc) refl)
    by (inr none) = inr (1, no_program none refl)
