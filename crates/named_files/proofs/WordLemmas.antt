-- The words are one request, or have one first word that is not as stated.
use Rattle.std.proofs.Common.{◌≡◌, ◌<◌, ◌≤◌, ◌⊎◌, inl, inr, ℕ, List, [], ◌∷◌, length, map, codes, slice_get, Option, None, Some, IsSomeAnd, refl, ap, ◌∙◌, arith}
use Rattle.std.proofs.lemmas.Bool.{cases_lt}
use Rattle.std.proofs.lemmas.List.{length-map}
use Rattle.command_words.specs.KeyedWords.{NamesPath}
use Rattle.command_words.proofs.ValueLemmas.{one_path}
use Rattle.command_words.proofs.FoundOrNot.{IsFoundOrNot, path_or_not}
use Rattle.named_files.specs.Words.{NamesAt, NamesBoard, NamesFile, FileNames, IsRequest, IsUsage, no_board, no_file, too_many}

one_at : (key : List ℕ) (word : Option (List ℕ)) (a b : List ℕ) → IsSomeAnd word (λ w. NamesPath key w a) → IsSomeAnd word (λ w. NamesPath key w b) → a ≡ b
one_at key None a b x y = absurd x
one_at key (Some word) a b x y = one_path key word a b x y

pub one_named : (key : List ℕ) (words : List (List ℕ)) (place : ℕ) (a b : List ℕ) → NamesAt key words place a → NamesAt key words place b → a ≡ b
one_named key words place a b x y = one_at key (slice_get words place) a b x y

pub found_at : (key : List ℕ) (word : Option (List ℕ)) → IsFoundOrNot (λ path. IsSomeAnd word (λ w. NamesPath key w path))
found_at key None = inr (λ path h. h)
found_at key (Some word) = path_or_not key word

-- a second word is there
pub some_second : (key : List ℕ) (words : List (List ℕ)) (path : List ℕ) → NamesFile key words path → 2 ≤ length words
some_second key [] path h = absurd h
some_second key (board ∷ []) path h = absurd h
some_second key (board ∷ file ∷ words) path h = omega arith

-- and no third one
pub both_words : {A : Type 0} (key : List ℕ) (f : A → List ℕ) (words : List A) (path : List ℕ) → NamesFile key (map f words) path → length words ≤ 2 → length (map f words) ≡ 2
both_words key f words path h few = let some = some_second key (map f words) path h in omega (arith, some, few, length-map {B = List ℕ} words)

pub three_words : {A : Type 0} (f : A → List ℕ) (words : List A) → 2 < length words → 2 < length (map f words)
three_words f words more = omega (arith, more, length-map {B = List ℕ} words)

same_files : (a b : FileNames) → a.board ≡ b.board → a.file ≡ b.file → a ≡ b
same_files a b e f = ap (λ (x : List ℕ). record { board = x; file = a.file }) e ∙ ap (λ (x : List ℕ). record { board = b.board; file = x }) f

pub one_request : (key : List ℕ) (words : List (List ℕ)) (a b : FileNames) → IsRequest key words a → IsRequest key words b → a ≡ b
one_request key words a b x y =
    same_files a b (one_named (codes "board=") words 0 a.board b.board x.board y.board) (one_named key words 1 a.file b.file x.file y.file)

pub one_usage : (key : List ℕ) (words : List (List ℕ)) (n m : ℕ) → IsUsage key words n → IsUsage key words m → n ≡ m
one_usage key words n m (no_board none) (no_board other) = refl
one_usage key words n m (no_board none) (no_file board is other) = absurd (none board is)
one_usage key words n m (no_board none) (too_many board file is there more) = absurd (none board is)
one_usage key words n m (no_file board is none) (no_board other) = absurd (other board is)
one_usage key words n m (no_file board is none) (no_file board2 is2 other) = refl
one_usage key words n m (no_file board is none) (too_many board2 file is2 there more) = absurd (none file there)
one_usage key words n m (too_many board file is there more) (no_board other) = absurd (other board is)
one_usage key words n m (too_many board file is there more) (no_file board2 is2 other) = absurd (other file there)
one_usage key words n m (too_many board file is there more) (too_many board2 file2 is2 there2 more2) = refl

pub no_usage : (key : List ℕ) (words : List (List ℕ)) (named : FileNames) (n : ℕ) → IsRequest key words named → IsUsage key words n → ⊥
no_usage key words named n asks (no_board none) = none named.board asks.board
no_usage key words named n asks (no_file board is none) = none named.file asks.file
no_usage key words named n asks (too_many board file is there more) = absurd (omega (arith, asks.two, more))

pub request_or_usage : (key : List ℕ) (words : List (List ℕ)) → ((named : FileNames) × IsRequest key words named) ⊎ ((n : ℕ) × IsUsage key words n)
request_or_usage key words = by_board (found_at (codes "board=") (slice_get words 0))
  where
    by_count : (board file : List ℕ) → NamesBoard words board → NamesFile key words file → (2 < length words) ⊎ (length words ≤ 2) →
        ((named : FileNames) × IsRequest key words named) ⊎ ((n : ℕ) × IsUsage key words n)
    by_count board file is there (inl more) = inr (3, too_many board file is there more)
    by_count board file is there (inr few) =
        let some = some_second key words file there in
        inl (record { board = board; file = file }, record { board = is; file = there; two = omega (arith, some, few) })

    by_file : (board : List ℕ) → NamesBoard words board → IsFoundOrNot (NamesFile key words) →
        ((named : FileNames) × IsRequest key words named) ⊎ ((n : ℕ) × IsUsage key words n)
    by_file board is (inr none) = inr (2, no_file board is none)
    by_file board is (inl found) = by_count board found.0 is found.1 (cases_lt 2 (length words))

    by_board : IsFoundOrNot (NamesBoard words) → ((named : FileNames) × IsRequest key words named) ⊎ ((n : ℕ) × IsUsage key words n)
    by_board (inr none) = inr (1, no_board none)
    by_board (inl found) = by_file found.0 found.1 (found_at key (slice_get words 1))
