-- Each list of words is a request or has a usage number: the first word is that of a mode or of none, and each word
-- after it gives a part or gives none, whose key the mode takes or not, and which is given already or not.
use Rattle.std.proofs.Common.{◌≡◌, ◌<◌, ◌+◌, ℕ, zero, suc, List, [], ◌∷◌, length, refl, sym, subst, arith, codes, Option, None, Some, Bool, true, false, ◌⊎◌, inl, inr}
use Rattle.command_words.proofs.FoundOrNot.{IsFoundOrNot, path_or_not, free_name_or_not, list_or_not, number_or_not, run_or_not, answer_or_not, same_or_not}
use Rattle.command_words.specs.KeyedWords.{most_place, NamesPath, NamesFreeName, NamesList, NamesNumber, NamesRun, SaysAnswer, names_or_none}
use Rattle.play_words.specs.declared.mode.Mode.{Mode}
use Rattle.play_words.specs.declared.mode.Mode.TheVariants as modes
use Rattle.play_words.specs.declared.mode.WordKey.TheVariants.{Program}
use Rattle.play_words.specs.declared.requests.PlayRequest.{PlayRequest}
use Rattle.play_words.specs.declared.requests.FilePlay.{FilePlay}
use Rattle.play_words.specs.declared.requests.Request.{Request}
use Rattle.play_words.specs.declared.requests.Request.TheVariants as requests
use Rattle.play_words.specs.Words.{mode_word, takes, needs, Part, BoardIn, ProgramIn, CodeIn, ActionNamed, NamesAsked, NamesSkipped, PlaceAsked, TurnsAtMost, PinsWritten, DevicesReported, SeedGiven, key_of, most_turns, most_seed, GivesPart, word_at, HasMode, IsRequest, IsFirstUnread, IsUsage, is_unread}
use Rattle.play_words.specs.ReadParts.{Values, given_of, with_part, not_taken, given_already, AddsWord, AddsNothing, AreReadUpTo, LacksKey, turns_or_usual, answer_or_no, HasPlayValues, HasFileValues, LacksPlay, no_board, no_source, no_action, HasValues}
use Rattle.play_words.proofs.WordLemmas.{gives_no_part, adds_part, adds_refused, adds_no_part, no_mode_word, nothing_read, one_word_more, adds_nothing, request_read, lacks_to_play, lacks_to_run, lacks_program, lacks_seed, key_lacks, no_mode}

-- A word gives a part or gives none.

part_among : (word : List ℕ) → IsFoundOrNot (NamesPath (codes "board=") word) → IsFoundOrNot (NamesPath (codes "program=") word) →
    IsFoundOrNot (NamesPath (codes "code=") word) → IsFoundOrNot (NamesFreeName (codes "action=") word) →
    IsFoundOrNot (NamesList (codes "do=") word) → IsFoundOrNot (NamesList (codes "skip=") word) →
    IsFoundOrNot (NamesRun (codes "place=") most_place word) → IsFoundOrNot (NamesNumber (codes "turns=") 0 most_turns word) →
    IsFoundOrNot (SaysAnswer (codes "pins=") word) → IsFoundOrNot (SaysAnswer (codes "report=") word) →
    IsFoundOrNot (NamesNumber (codes "seed=") 0 most_seed word) → IsFoundOrNot (GivesPart word)
part_among word (inl x) p k a d s l t w r e = inl (BoardIn x.0, x.1)
part_among word (inr b) (inl x) k a d s l t w r e = inl (ProgramIn x.0, x.1)
part_among word (inr b) (inr p) (inl x) a d s l t w r e = inl (CodeIn x.0, x.1)
part_among word (inr b) (inr p) (inr k) (inl x) d s l t w r e = inl (ActionNamed x.0, x.1)
part_among word (inr b) (inr p) (inr k) (inr a) (inl x) s l t w r e = inl (NamesAsked x.0, x.1)
part_among word (inr b) (inr p) (inr k) (inr a) (inr d) (inl x) l t w r e = inl (NamesSkipped x.0, x.1)
part_among word (inr b) (inr p) (inr k) (inr a) (inr d) (inr s) (inl x) t w r e = inl (PlaceAsked x.0, x.1)
part_among word (inr b) (inr p) (inr k) (inr a) (inr d) (inr s) (inr l) (inl x) w r e = inl (TurnsAtMost x.0, x.1)
part_among word (inr b) (inr p) (inr k) (inr a) (inr d) (inr s) (inr l) (inr t) (inl x) r e = inl (PinsWritten x.0, x.1)
part_among word (inr b) (inr p) (inr k) (inr a) (inr d) (inr s) (inr l) (inr t) (inr w) (inl x) e = inl (DevicesReported x.0, x.1)
part_among word (inr b) (inr p) (inr k) (inr a) (inr d) (inr s) (inr l) (inr t) (inr w) (inr r) (inl x) = inl (SeedGiven x.0, x.1)
part_among word (inr b) (inr p) (inr k) (inr a) (inr d) (inr s) (inr l) (inr t) (inr w) (inr r) (inr e) = inr (gives_no_part b p k a d s l t w r e).none

part_or_not : (word : List ℕ) → IsFoundOrNot (GivesPart word)
part_or_not word =
    part_among word (path_or_not (codes "board=") word) (path_or_not (codes "program=") word) (path_or_not (codes "code=") word)
    (free_name_or_not (codes "action=") word) (list_or_not (codes "do=") word) (list_or_not (codes "skip=") word)
    (run_or_not (codes "place=") most_place word) (number_or_not (codes "turns=") 0 most_turns word)
    (answer_or_not (codes "pins=") word) (answer_or_not (codes "report=") word) (number_or_not (codes "seed=") 0 most_seed word)

-- A word is that of a mode or of none.

mode_among : (word : List ℕ) → (word ≡ codes "play") ⊎ (word ≡ codes "play" → ⊥) → (word ≡ codes "check") ⊎ (word ≡ codes "check" → ⊥) →
    (word ≡ codes "list") ⊎ (word ≡ codes "list" → ⊥) → (word ≡ codes "compile") ⊎ (word ≡ codes "compile" → ⊥) →
    (word ≡ codes "run") ⊎ (word ≡ codes "run" → ⊥) → (word ≡ codes "soak") ⊎ (word ≡ codes "soak" → ⊥) → IsFoundOrNot (λ (mode : Mode). word ≡ mode_word mode)
mode_among word (inl e) k l c r s = inl (modes.Play, e)
mode_among word (inr p) (inl e) l c r s = inl (modes.Check, e)
mode_among word (inr p) (inr k) (inl e) c r s = inl (modes.List, e)
mode_among word (inr p) (inr k) (inr l) (inl e) r s = inl (modes.Compile, e)
mode_among word (inr p) (inr k) (inr l) (inr c) (inl e) s = inl (modes.Run, e)
mode_among word (inr p) (inr k) (inr l) (inr c) (inr r) (inl e) = inl (modes.Soak, e)
mode_among word (inr p) (inr k) (inr l) (inr c) (inr r) (inr s) = inr (no_mode_word p k l c r s)

mode_or_not : (word : List ℕ) → IsFoundOrNot (λ (mode : Mode). word ≡ mode_word mode)
mode_or_not word =
    mode_among word (same_or_not word (codes "play")) (same_or_not word (codes "check")) (same_or_not word (codes "list"))
    (same_or_not word (codes "compile")) (same_or_not word (codes "run")) (same_or_not word (codes "soak"))

-- A word adds a part or adds nothing.

added_or_not : (values : Values) (word : List ℕ) → ((new : Values) × AddsWord values word new) ⊎ AddsNothing values word
added_or_not values word = by_part (part_or_not word)
  where
    by_given : (part : Part) (found : Option Part) → given_of values (key_of part) ≡ found → GivesPart word part →
        takes values.mode (key_of part) ≡ true → ((new : Values) × AddsWord values word new) ⊎ AddsNothing values word
    by_given part None e gives taken =
        inl (with_part values part, adds_part part gives (record { taken = taken; free = e; added = refl }))
    by_given part (Some other) e gives taken = inr (adds_refused part gives (given_already other e))

    by_key : (part : Part) (taken : Bool) → takes values.mode (key_of part) ≡ taken → GivesPart word part →
        ((new : Values) × AddsWord values word new) ⊎ AddsNothing values word
    by_key part true e gives = by_given part (given_of values (key_of part)) refl gives e
    by_key part false e gives = inr (adds_refused part gives (not_taken e))

    by_part : IsFoundOrNot (GivesPart word) → ((new : Values) × AddsWord values word new) ⊎ AddsNothing values word
    by_part (inl found) = by_key found.0 (takes values.mode (key_of found.0)) refl found.1
    by_part (inr none) = inr (adds_no_part values (record { none = none }))

-- The first words are read, or one of them is the first that is not.

abbrev nothing : Mode → Values
nothing mode = record {
  mode = mode;
  board = None;
  program = None;
  code = None;
  action = None;
  todo = None;
  skip = None;
  place = None;
  turns = None;
  pins = None;
  report = None;
  seed = None;
}

abbrev IsReadOrNot : List (List ℕ) → ℕ → Type 0
IsReadOrNot words n = ((values : Values) × AreReadUpTo words n values) ⊎ ((place : ℕ) × IsFirstUnread words place)

one_more : (words : List (List ℕ)) (n : ℕ) (values : Values) → 0 < n → n < length words → AreReadUpTo words n values →
    ((new : Values) × AddsWord values (word_at words n) new) ⊎ AddsNothing values (word_at words n) → IsReadOrNot words (n + 1)
one_more words n values after within r (inl adds) = inl (adds.0, one_word_more words n values adds.0 after r adds.1)
one_more words n values after within r (inr none) = inr (n, adds_nothing words n values after within r none)

read_or_not : (words : List (List ℕ)) (mode : Mode) → HasMode words mode → (n : ℕ) → n < length words → IsReadOrNot words (n + 1)
read_or_not words mode has zero within =
    inl (nothing mode, nothing_read words (nothing mode) has refl refl refl refl refl refl refl refl refl refl refl)
read_or_not words mode has (suc n) within = then_one (read_or_not words mode has n (omega arith))
  where
    then_one : IsReadOrNot words (n + 1) → IsReadOrNot words (suc n + 1)
    then_one (inr unread) = inr unread
    then_one (inl read) =
        let next : suc n ≡ n + 1 = omega arith in
        subst (λ (k : ℕ). IsReadOrNot words (k + 1)) (sym next)
        (one_more words (n + 1) read.0 (omega arith) (omega arith) read.1 (added_or_not read.0 (word_at words (n + 1))))

-- Words that are all read are a request, or a key is missing.

abbrev asked_of : Values → List ℕ → PlayRequest
asked_of values action = record {
  action = action;
  todo = names_or_none values.todo;
  skip = names_or_none values.skip;
  place = values.place;
  turns = turns_or_usual values.turns;
  pins = answer_or_no values.pins;
  report = answer_or_no values.report;
}

has_asked : (values : Values) (action : List ℕ) → values.action ≡ Some action → HasPlayValues values (asked_of values action)
has_asked values action e = record {
  action_named = e;
  todo_are = refl;
  skip_are = refl;
  place_is = refl;
  turns_are = refl;
  pins_are = refl;
  report_is = refl;
}

play_or_lack : (values : Values) (path : Option (List ℕ)) → ((play : FilePlay) × HasFileValues values path play) ⊎ LacksPlay values path
play_or_lack values path = by values.board refl path refl values.action refl
  where
    by : (board : Option (List ℕ)) → values.board ≡ board → (source : Option (List ℕ)) → path ≡ source → (action : Option (List ℕ)) → values.action ≡ action →
        ((play : FilePlay) × HasFileValues values path play) ⊎ LacksPlay values path
    by None b source s action a = inr (no_board b)
    by (Some board) b None s action a = inr (no_source s)
    by (Some board) b (Some source) s None a = inr (no_action a)
    by (Some board) b (Some source) s (Some action) a =
        inl (record { board = board; source = source; request = asked_of values action }, record { board_named = b; source_named = s; asked = has_asked values action a })

abbrev IsMadeOrLacks : Values → Type 0
IsMadeOrLacks values = ((request : Request) × HasValues values request) ⊎ LacksKey values

made_or_lacks : (values : Values) → IsMadeOrLacks values
made_or_lacks values = by_mode values.mode refl
  where
    of_program : (mode : Mode) (request : List ℕ → Request) → needs mode Program ≡ true → values.mode ≡ mode →
        ((path : List ℕ) → values.program ≡ Some path → HasValues values (request path)) → (program : Option (List ℕ)) → values.program ≡ program → IsMadeOrLacks values
    of_program mode request needed e has None n = inr (lacks_program mode e needed n)
    of_program mode request needed e has (Some path) p = inl (request path, has path p)

    of_seed : values.mode ≡ modes.Soak → (seed : Option ℕ) → values.seed ≡ seed → IsMadeOrLacks values
    of_seed e None n = inr (lacks_seed e n)
    of_seed e (Some seed) s = inl (requests.Soak seed, (e, s))

    of_play : values.mode ≡ modes.Play → ((play : FilePlay) × HasFileValues values values.program play) ⊎ LacksPlay values values.program → IsMadeOrLacks values
    of_play e (inl made) = inl (requests.Play made.0, (e, made.1))
    of_play e (inr lacks) = inr (lacks_to_play e lacks)

    of_run : values.mode ≡ modes.Run → ((play : FilePlay) × HasFileValues values values.code play) ⊎ LacksPlay values values.code → IsMadeOrLacks values
    of_run e (inl made) = inl (requests.Run made.0, (e, made.1))
    of_run e (inr lacks) = inr (lacks_to_run e lacks)

    by_mode : (mode : Mode) → values.mode ≡ mode → IsMadeOrLacks values
    by_mode modes.Play e = of_play e (play_or_lack values values.program)
    by_mode modes.Run e = of_run e (play_or_lack values values.code)
    by_mode modes.Check e = of_program modes.Check requests.Check refl e (λ path p. (e, p)) values.program refl
    by_mode modes.List e = of_program modes.List requests.List refl e (λ path p. (e, p)) values.program refl
    by_mode modes.Compile e = of_program modes.Compile requests.Compile refl e (λ path p. (e, p)) values.program refl
    by_mode modes.Soak e = of_seed e values.seed refl

abbrev IsRequestOrUsage : List (List ℕ) → Type 0
IsRequestOrUsage words = ((request : Request) × IsRequest words request) ⊎ ((n : ℕ) × IsUsage words n)

all_read : (words : List (List ℕ)) (values : Values) → AreReadUpTo words (length words) values → IsRequestOrUsage words
all_read words values r = by (made_or_lacks values)
  where
    by : IsMadeOrLacks values → IsRequestOrUsage words
    by (inl made) = inl (made.0, request_read made.0 values r made.1)
    by (inr lacks) = inr (length words + 1, key_lacks values r lacks)

with_mode : (word : List ℕ) (words : List (List ℕ)) → IsFoundOrNot (λ (mode : Mode). word ≡ mode_word mode) → IsRequestOrUsage (word ∷ words)
with_mode word words (inr none) = inr (1, no_mode (word ∷ words) none)
with_mode word words (inl mode) = by_reading (read_or_not (word ∷ words) mode.0 mode.1 (length words) (omega arith))
  where
    by_reading : IsReadOrNot (word ∷ words) (length words + 1) → IsRequestOrUsage (word ∷ words)
    by_reading (inl read) =
        let all : length words + 1 ≡ length (word ∷ words) = omega arith in
        all_read (word ∷ words) read.0 (subst (λ (n : ℕ). AreReadUpTo (word ∷ words) n read.0) all read.1)
    by_reading (inr unread) = inr (unread.0 + 1, is_unread unread.0 unread.1)

pub request_or_usage : (words : List (List ℕ)) → IsRequestOrUsage words
request_or_usage [] = inr (1, no_mode [] no_word)
  where
    no_word : (mode : Mode) → HasMode [] mode → ⊥
    no_word modes.Play e = cc
    no_word modes.Check e = cc
    no_word modes.List e = cc
    no_word modes.Compile e = cc
    no_word modes.Run e = cc
    no_word modes.Soak e = cc
request_or_usage (word ∷ words) = with_mode word words (mode_or_not word)
