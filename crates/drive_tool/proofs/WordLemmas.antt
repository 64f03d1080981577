-- On the words of the program: those that name the wire, and those of a play after them.
use Rattle.std.proofs.Common.{◌≡◌, ◌<◌, ◌≤◌, ◌+◌, ◌-◌, inl, inr, ℕ, Bool, List, length, map, take, drop, codes, slice_get, Option, None, Some, IsSomeAnd, refl, subst, arith}
use Rattle.std.specs.Prelude.{is_some, false, IfNone}
use Rattle.std.proofs.lemmas.Bool.{cases_lt}
use Rattle.std.proofs.lemmas.List.{length-map, length-drop, take_all}
use Rattle.std.proofs.lemmas.Option.{slice_get_within}
use Rattle.command_words.specs.KeyedWords.{NamesPath, SaysAnswer}
use Rattle.named_files.specs.Words.{NamesAt}
use Rattle.play_words.specs.declared.mode.Mode.TheVariants as modes
use Rattle.play_words.specs.declared.requests.Request.{Request}
use Rattle.play_words.specs.Words.{mode_of, IsRequest, IsUsage, is_unread, is_missing}
use Rattle.play_words.proofs.OneRequest.{one_usage, no_usage}
use Rattle.play_words.proofs.WordLemmas.{one_mode}
use Rattle.drive_tool.specs.Words.{SaysAt, play_words, AsksForReport, HasNoReport, HasPlayUsage, reports, HasUsage}

-- a word that gives an answer is there
says_within : (key : List ℕ) (words : List (List ℕ)) (place : ℕ) (answer : Bool) → SaysAt key words place answer → place < length words
says_within key words place answer says = by (slice_get words place) refl says
  where
    by : (word : Option (List ℕ)) → slice_get words place ≡ word → IsSomeAnd word (λ w. SaysAnswer key w answer) → place < length words
    by None e h = absurd h
    by (Some word) e h = slice_get_within words place word e

-- so many words are there, if one of them names a file or gives an answer
pub third_word : {A : Type 0} (f : A → List ℕ) (words : List A) (answer : Bool) → SaysAt (codes "sleep=") (map f words) 2 answer → 3 ≤ length words
third_word f words answer says =
    let within = says_within (codes "sleep=") (map f words) 2 answer says in omega (arith, within, length-map {B = List ℕ} words)

pub second_word : {A : Type 0} (f : A → List ℕ) (words : List A) (path : List ℕ) → NamesAt (codes "receive=") (map f words) 1 path → 2 ≤ length words
second_word f words path names = by (slice_get (map f words) 1) refl names
  where
    by : (word : Option (List ℕ)) → slice_get (map f words) 1 ≡ word → IsSomeAnd word (λ w. NamesPath (codes "receive=") w path) → 2 ≤ length words
    by None e h = absurd h
    by (Some word) e h = let within = slice_get_within (map f words) 1 word e in omega (arith, within, length-map {B = List ℕ} words)

-- the word after words without a report gives none
pub no_report_more : (words : List (List ℕ)) (n m : ℕ) → m ≡ n + 1 → HasNoReport words n → ((answer : Bool) → SaysAt (codes "report=") words n answer → ⊥) → HasNoReport words m
no_report_more words n m e none never = λ place before asks. elim (cases_lt place n) [
  | inl less ↦ none place less asks
  | inr ge ↦ let same : place ≡ n = omega (arith, before, ge, e) in never asks.0 (subst (λ (z : ℕ). SaysAt (codes "report=") words z asks.0) same asks.1)
]

-- an answer that is none
pub none_is : {A : Type 0} (P : Type 0) (o : Option A) → is_some o ≡ false → IfNone o P → P
none_is P None e p = p
none_is P (Some b) e p = absurd cc

-- there is no report among any number of words, if there is none among all
pub no_report_ever : (words : List (List ℕ)) (n : ℕ) → HasNoReport words (length words) → HasNoReport words n
no_report_ever words n none = λ place before asks. none place (says_within (codes "report=") words place asks.0 asks.1) asks

pub no_report_before : (words : List (List ℕ)) (n m : ℕ) → n ≤ m → HasNoReport words m → HasNoReport words n
no_report_before words n m le none place before asks = none place (omega (arith, le, before)) asks

-- a report that comes first
pub report_first : {words : List (List ℕ)} (n place : ℕ) → AsksForReport words place → HasNoReport words place → IsUsage (play_words words) (n + 1) → place < n →
    HasPlayUsage words (place + 1)
report_first {words = words} n place asks none u lt = reports place asks none (λ m v. let same : m + 1 ≡ n + 1 = one_usage v u in omega (arith, same, lt))

-- a report in words that are a play else
pub report_in_play : {words : List (List ℕ)} {request : Request} (place : ℕ) → AsksForReport words place → HasNoReport words place → IsRequest (play_words words) request →
    HasPlayUsage words (place + 1)
report_in_play place asks none request = reports place asks none (λ m v. absurd (no_usage request v))

-- the number of a word of the play is not 0
pub usage_above : {all : List (List ℕ)} {n : ℕ} → IsUsage all n → 1 ≤ n
usage_above (is_unread place first) = omega arith
usage_above (is_missing read lack) = omega arith

pub usage_less : {all : List (List ℕ)} (n : ℕ) → IsUsage all n → IsUsage all (n - 1 + 1)
usage_less {all = all} n u = let least = usage_above u in let same : n ≡ n - 1 + 1 = omega (arith, least) in subst (IsUsage all) same u

-- they ask for a play
pub asks_for_play : {words : List (List ℕ)} {request : Request} → IsRequest (play_words words) request → mode_of request ≡ modes.Play
asks_for_play {words = words} {request = request} asks = one_mode (play_words words) (mode_of request) modes.Play asks.mode refl

-- all words after the first n
pub rest_all : {A : Type 0} (n : ℕ) (words : List A) → take (length words - n) (drop n words) ≡ drop n words
rest_all n words = take_all (length words - n) (drop n words) (omega (arith, length-drop n words))

-- a usage number, by an equal one
pub usage_is : {words : List (List ℕ)} {n m : ℕ} → n ≡ m → HasUsage words n → HasUsage words m
usage_is {words = words} e u = subst (HasUsage words) e u
