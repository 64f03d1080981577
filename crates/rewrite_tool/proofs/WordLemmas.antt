-- The words are one request, or have one first word that is not as stated.
use Rattle.std.proofs.Common.{◌≡◌, ◌<◌, ◌≤◌, ◌⊎◌, inl, inr, ℕ, List, [], ◌∷◌, length, map, codes, slice_get, Option, None, Some, IsSomeAnd, refl, ap, arith}
use Rattle.std.proofs.lemmas.Bool.{cases_lt}
use Rattle.std.proofs.lemmas.List.{length-map}
use Rattle.command_words.specs.declared.place_run.PlaceRun.{PlaceRun}
use Rattle.command_words.specs.KeyedWords.{most_place, SpellsRun, of_one, of_two, NamesRun}
use Rattle.command_words.proofs.RunLemmas.{one_run}
use Rattle.command_words.proofs.FoundOrNot.{IsFoundOrNot, run_or_not}
use Rattle.named_files.specs.Words.{FileNames}
use Rattle.named_files.proofs.WordLemmas.{one_named, found_at}
use Rattle.rewrite_tool.specs.Words.{NamesProgram, NamesBoard, NamesPlace, IsPlaceRun, Request, IsRequest, Asks, IsUsage, no_program, no_board, no_place, too_many}

one_run_at : (word : Option (List ℕ)) (a b : PlaceRun) → IsSomeAnd word (λ w. NamesRun (codes "place=") most_place w a) → IsSomeAnd word (λ w. NamesRun (codes "place=") most_place w b) → a ≡ b
one_run_at None a b x y = absurd x
one_run_at (Some word) a b x y = one_run (codes "place=") most_place word a b x y

run_found : (word : Option (List ℕ)) → IsFoundOrNot (λ run. IsSomeAnd word (λ w. NamesRun (codes "place=") most_place w run))
run_found None = inr (λ run h. h)
run_found (Some word) = run_or_not (codes "place=") most_place word

-- ---- places are counted from 1, and the last is not below the first

spelled_run : (most : ℕ) (spelling : List ℕ) (run : PlaceRun) → SpellsRun most spelling run → IsPlaceRun run
spelled_run most spelling run (of_one first same) = record { counted = first.enough; in_order = omega (arith, same) }
spelled_run most spelling run (of_two front back whole first last) = record { counted = first.enough; in_order = last.enough }

word_run : (word : Option (List ℕ)) (run : PlaceRun) → IsSomeAnd word (λ w. NamesRun (codes "place=") most_place w run) → IsPlaceRun run
word_run None run h = absurd h
word_run (Some word) run h = spelled_run most_place h.spelling run h.spells

pub is_run : (words : List (List ℕ)) (run : PlaceRun) → NamesPlace words run → IsPlaceRun run
is_run words run h = word_run (slice_get words 2) run h

-- ---- how many words there are

-- a third word is there
pub some_third : (words : List (List ℕ)) (run : PlaceRun) → NamesPlace words run → 3 ≤ length words
some_third [] run h = absurd h
some_third (program ∷ []) run h = absurd h
some_third (program ∷ board ∷ []) run h = absurd h
some_third (program ∷ board ∷ place ∷ words) run h = omega arith

-- and no fourth one
pub three_words : {A : Type 0} (f : A → List ℕ) (words : List A) (run : PlaceRun) → NamesPlace (map f words) run → length words ≤ 3 → length (map f words) ≡ 3
three_words f words run h few = let some = some_third (map f words) run h in omega (arith, some, few, length-map {B = List ℕ} words)

pub four_words : {A : Type 0} (f : A → List ℕ) (words : List A) → 3 < length words → 3 < length (map f words)
four_words f words more = omega (arith, more, length-map {B = List ℕ} words)

pub more_than_three : (words : List (List ℕ)) (program board : List ℕ) (run : PlaceRun) → NamesProgram words program → NamesBoard words board → NamesPlace words run →
    3 < length words → IsUsage words 4
more_than_three words program board run is there at more = too_many (record { files = record { board = board; file = program }; run = run }) is there at more

-- ---- one request, or one word

same_requests : (a b : Request) → a.files.file ≡ b.files.file → a.files.board ≡ b.files.board → a.run ≡ b.run → a ≡ b
same_requests a b e f g = λ j. record { files = record { board = f j; file = e j }; run = g j }

pub one_request : (words : List (List ℕ)) (a b : Request) → IsRequest words a → IsRequest words b → a ≡ b
one_request words a b x y =
    same_requests a b (one_named (codes "program=") words 0 a.files.file b.files.file x.program y.program)
    (one_named (codes "board=") words 1 a.files.board b.files.board x.board y.board) (one_run_at (slice_get words 2) a.run b.run x.place y.place)

-- the words ask for the same files, whatever the run is
pub one_asked : (words : List (List ℕ)) (a b : FileNames) → Asks words a → Asks words b → a ≡ b
one_asked words a b x y =
    ap (λ (request : Request). request.files) (one_request words (record { files = a; run = x.0 }) (record { files = b; run = y.0 }) x.1 y.1)

pub one_usage : (words : List (List ℕ)) (n m : ℕ) → IsUsage words n → IsUsage words m → n ≡ m
one_usage words n m (no_program none) (no_program other) = refl
one_usage words n m (no_program none) (no_board program is other) = absurd (none program is)
one_usage words n m (no_program none) (no_place program board is there other) = absurd (none program is)
one_usage words n m (no_program none) (too_many request is there at more) = absurd (none request.files.file is)
one_usage words n m (no_board program is none) (no_program other) = absurd (other program is)
one_usage words n m (no_board program is none) (no_board program2 is2 other) = refl
one_usage words n m (no_board program is none) (no_place program2 board is2 there other) = absurd (none board there)
one_usage words n m (no_board program is none) (too_many request is2 there at more) = absurd (none request.files.board there)
one_usage words n m (no_place program board is there none) (no_program other) = absurd (other program is)
one_usage words n m (no_place program board is there none) (no_board program2 is2 other) = absurd (other board there)
one_usage words n m (no_place program board is there none) (no_place program2 board2 is2 there2 other) = refl
one_usage words n m (no_place program board is there none) (too_many request is2 there2 at more) = absurd (none request.run at)
one_usage words n m (too_many request is there at more) (no_program other) = absurd (other request.files.file is)
one_usage words n m (too_many request is there at more) (no_board program is2 other) = absurd (other request.files.board there)
one_usage words n m (too_many request is there at more) (no_place program board is2 there2 other) = absurd (other request.run at)
one_usage words n m (too_many request is there at more) (too_many request2 is2 there2 at2 more2) = refl

pub no_usage : (words : List (List ℕ)) (request : Request) (n : ℕ) → IsRequest words request → IsUsage words n → ⊥
no_usage words request n asks (no_program none) = none request.files.file asks.program
no_usage words request n asks (no_board program is none) = none request.files.board asks.board
no_usage words request n asks (no_place program board is there none) = none request.run asks.place
no_usage words request n asks (too_many other is there at more) = absurd (omega (arith, asks.three, more))

abbrev RequestOrUsage : List (List ℕ) → Type 0
RequestOrUsage words = ((request : Request) × IsRequest words request) ⊎ ((n : ℕ) × IsUsage words n)

pub request_or_usage : (words : List (List ℕ)) → ((request : Request) × IsRequest words request) ⊎ ((n : ℕ) × IsUsage words n)
request_or_usage words = by_program (found_at (codes "program=") (slice_get words 0))
  where
    by_count : (request : Request) → NamesProgram words request.files.file → NamesBoard words request.files.board → NamesPlace words request.run →
        (3 < length words) ⊎ (length words ≤ 3) → RequestOrUsage words
    by_count request is there at (inl more) = inr (4, too_many request is there at more)
    by_count request is there at (inr few) =
        let some = some_third words request.run at in
        inl (request, record { program = is; board = there; place = at; three = omega (arith, some, few) })

    by_place : (program board : List ℕ) → NamesProgram words program → NamesBoard words board → IsFoundOrNot (NamesPlace words) → RequestOrUsage words
    by_place program board is there (inr none) = inr (3, no_place program board is there none)
    by_place program board is there (inl found) =
        by_count (record { files = record { board = board; file = program }; run = found.0 }) is there found.1 (cases_lt 3 (length words))

    by_board : (program : List ℕ) → NamesProgram words program → IsFoundOrNot (NamesBoard words) → RequestOrUsage words
    by_board program is (inr none) = inr (2, no_board program is none)
    by_board program is (inl found) = by_place program found.0 is found.1 (run_found (slice_get words 2))

    by_program : IsFoundOrNot (NamesProgram words) → RequestOrUsage words
    by_program (inr none) = inr (1, no_program none)
    by_program (inl found) = by_board found.0 found.1 (found_at (codes "board=") (slice_get words 1))
