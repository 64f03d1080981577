-- The words are one request, or have one first word that is not as stated.
use Rattle.std.proofs.Common.{◌≡◌, ◌<◌, ◌≤◌, ◌⊎◌, inl, inr, ℕ, List, [], ◌∷◌, length, map, codes, slice_get, Option, None, Some, IsSomeAnd, refl, arith}
use Rattle.std.proofs.lemmas.Bool.{cases_lt}
use Rattle.std.proofs.lemmas.List.{length-map}
use Rattle.command_words.specs.KeyedWords.{NamesPath}
use Rattle.command_words.proofs.ValueLemmas.{one_path}
use Rattle.command_words.proofs.FoundOrNot.{IsFoundOrNot, path_or_not}
use Rattle.wave_tool.specs.Words.{NamesTrace, IsRequest, IsUsage, no_trace, too_many}

one_at : (word : Option (List ℕ)) (a b : List ℕ) → IsSomeAnd word (λ w. NamesPath (codes "trace=") w a) → IsSomeAnd word (λ w. NamesPath (codes "trace=") w b) → a ≡ b
one_at None a b x y = absurd x
one_at (Some word) a b x y = one_path (codes "trace=") word a b x y

found_at : (word : Option (List ℕ)) → IsFoundOrNot (λ path. IsSomeAnd word (λ w. NamesPath (codes "trace=") w path))
found_at None = inr (λ path h. h)
found_at (Some word) = path_or_not (codes "trace=") word

-- a first word is there
some_first : (words : List (List ℕ)) (path : List ℕ) → NamesTrace words path → 1 ≤ length words
some_first [] path h = absurd h
some_first (word ∷ words) path h = omega arith

-- and no second one
pub one_word : {A : Type 0} (f : A → List ℕ) (words : List A) (path : List ℕ) → NamesTrace (map f words) path → length words ≤ 1 → length (map f words) ≡ 1
one_word f words path h few = let some = some_first (map f words) path h in omega (arith, some, few, length-map {B = List ℕ} words)

pub two_words : {A : Type 0} (f : A → List ℕ) (words : List A) → 1 < length words → 1 < length (map f words)
two_words f words more = omega (arith, more, length-map {B = List ℕ} words)

pub one_request : (words : List (List ℕ)) (a b : List ℕ) → IsRequest words a → IsRequest words b → a ≡ b
one_request words a b x y = one_at (slice_get words 0) a b x.trace y.trace

pub one_usage : (words : List (List ℕ)) (n m : ℕ) → IsUsage words n → IsUsage words m → n ≡ m
one_usage words n m (no_trace none) (no_trace other) = refl
one_usage words n m (no_trace none) (too_many trace is more) = absurd (none trace is)
one_usage words n m (too_many trace is more) (no_trace none) = absurd (none trace is)
one_usage words n m (too_many trace is more) (too_many trace2 is2 more2) = refl

pub no_usage : (words : List (List ℕ)) (path : List ℕ) (n : ℕ) → IsRequest words path → IsUsage words n → ⊥
no_usage words path n asks (no_trace none) = none path asks.trace
no_usage words path n asks (too_many trace is more) = absurd (omega (arith, asks.one, more))

pub request_or_usage : (words : List (List ℕ)) → ((path : List ℕ) × IsRequest words path) ⊎ ((n : ℕ) × IsUsage words n)
request_or_usage words = by_trace (found_at (slice_get words 0))
  where
    by_count : (path : List ℕ) → NamesTrace words path → (1 < length words) ⊎ (length words ≤ 1) → ((path : List ℕ) × IsRequest words path) ⊎ ((n : ℕ) × IsUsage words n)
    by_count path is (inl more) = inr (2, too_many path is more)
    by_count path is (inr few) = let some = some_first words path is in inl (path, record { trace = is; one = omega (arith, some, few) })

    by_trace : IsFoundOrNot (NamesTrace words) → ((path : List ℕ) × IsRequest words path) ⊎ ((n : ℕ) × IsUsage words n)
    by_trace (inr none) = inr (1, no_trace none)
    by_trace (inl found) = by_count found.0 found.1 (cases_lt 1 (length words))
