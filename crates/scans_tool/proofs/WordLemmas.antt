-- On the words of the program: those of a play without its first, and without two of them.
use Rattle.std.proofs.Common.{◌≡◌, ◌⊎◌, inl, inr, ◌+◌, ◌-◌, ◌≤◌, ◌<◌, ℕ, zero, suc, Bool, true, false, List, [], ◌∷◌, length, map, codes, ◌||◌, if◌then◌else◌, arith, refl, sym, ap₂, subst}
use Rattle.std.specs.Str.{bytes_eq}
use Rattle.std.proofs.lemmas.Slice.Eq.{bytes_eq-Decides}
use Rattle.play_words.specs.declared.mode.Mode.{Mode}
use Rattle.play_words.specs.declared.mode.Mode.TheVariants as modes
use Rattle.play_words.specs.declared.requests.FilePlay.{FilePlay}
use Rattle.play_words.specs.declared.requests.Request.{Request}
use Rattle.play_words.specs.declared.requests.Request.TheVariants as requests
use Rattle.play_words.specs.Words.{Part, BoardIn, ProgramIn, CodeIn, ActionNamed, NamesAsked, NamesSkipped, PlaceAsked, TurnsAtMost, PinsWritten, DevicesReported, SeedGiven, GivesPart, word_at}
use Rattle.play_words.specs.Words.{HasMode, GivesNew, AreAllRead, IsPartGiven, AskAnswer, answer_given, answer_missing, key_of, mode_of, IsRequest, IsUsage, is_unread, is_missing}
use Rattle.play_words.proofs.OneRequest.{one_request, one_usage, no_usage}
use Rattle.play_words.proofs.EveryWords.{request_or_usage}
use Rattle.play_words.proofs.WordLemmas.{one_mode, one_given}
use Rattle.scans_tool.specs.Words.{play_words, asks_more, plain_word, plain_words, AskFor, HasUsage}

-- the number of a word of the play is not 0
usage_above : {all : List (List ℕ)} {n : ℕ} → IsUsage all n → 1 ≤ n
usage_above (is_unread place first) = omega arith
usage_above (is_missing read lack) = omega arith

pub usage_less : {all : List (List ℕ)} (n : ℕ) → IsUsage all n → IsUsage all (n - 1 + 1)
usage_less {all = all} n u = let least = usage_above u in let same : n ≡ n - 1 + 1 = omega (arith, least) in subst (IsUsage all) same u

-- the words are refused at this one, by an equal number
pub usage_is : (words : List (List ℕ)) {n m : ℕ} → n ≡ m → HasUsage words n → HasUsage words m
usage_is words e u = subst (HasUsage words) e u

-- what is read in place of the words asks for a play
asks_for_play : (words : List (List ℕ)) {request : Request} → IsRequest (plain_words words) request → mode_of request ≡ modes.Play
asks_for_play words {request = request} asks = one_mode (plain_words words) (mode_of request) modes.Play asks.mode refl

asked_play : (words : List (List ℕ)) (request : Request) → IsRequest (plain_words words) request → (play : FilePlay) × AskFor words play
asked_play words (requests.Play play) asks = (play, asks)
asked_play words request asks = let e : mode_of request ≡ modes.Play = asks_for_play words asks in absurd cc

pub asked_or_refused : (words : List (List ℕ)) → ((play : FilePlay) × AskFor words play) ⊎ ((n : ℕ) × HasUsage words n)
asked_or_refused words = by (request_or_usage (plain_words words))
  where
    by : ((request : Request) × IsRequest (plain_words words) request) ⊎ ((n : ℕ) × IsUsage (plain_words words) n) →
        ((play : FilePlay) × AskFor words play) ⊎ ((n : ℕ) × HasUsage words n)
    by (inl asks) = inl (asked_play words asks.0 asks.1)
    by (inr unread) = inr (unread.0 - 1, usage_less unread.0 unread.1)

same_play : (a b : FilePlay) → requests.Play a ≡ requests.Play b → a ≡ b
same_play a b e = cc

pub one_asked : (words : List (List ℕ)) (a b : FilePlay) → AskFor words a → AskFor words b → a ≡ b
one_asked words a b x y = same_play a b (one_request x y)

pub one_refused : (words : List (List ℕ)) (n m : ℕ) → HasUsage words n → HasUsage words m → n ≡ m
one_refused words n m x y = let same : n + 1 ≡ m + 1 = one_usage x y in omega (arith, same)

pub not_both : (words : List (List ℕ)) (n : ℕ) (play : FilePlay) → HasUsage words n → AskFor words play → ⊥
not_both words n play u asks = no_usage asks u

-- Words that ask for a play ask the tool that plays for it, without the clocks and without the report.

-- an empty word gives nothing of a play
gives_nothing : (part : Part) → GivesPart [] part → ⊥
gives_nothing (BoardIn path) x = let e = x.0 in absurd cc
gives_nothing (ProgramIn path) x = let e = x.0 in absurd cc
gives_nothing (CodeIn path) x = let e = x.0 in absurd cc
gives_nothing (ActionNamed name) x = let e = x.keyed in absurd cc
gives_nothing (NamesAsked names) x = let e = x.keyed in absurd cc
gives_nothing (NamesSkipped names) x = let e = x.keyed in absurd cc
gives_nothing (PlaceAsked run) x = let e = x.keyed in absurd cc
gives_nothing (TurnsAtMost n) x = let e = x.keyed in absurd cc
gives_nothing (PinsWritten written) x = absurd cc
gives_nothing (DevicesReported reported) x = absurd cc
gives_nothing (SeedGiven n) x = let e = x.keyed in absurd cc

-- a word that is read stands for itself
stands : (word : List ℕ) → (plain_word word ≡ [] → ⊥) → plain_word word ≡ word
stands word = by (asks_more word)
  where
    by : (more : Bool) → ((if more then [] else word) ≡ [] → ⊥) → (if more then [] else word) ≡ word
    by true read = absurd (read refl)
    by false read = refl

all_stand : (words : List (List ℕ)) → ((i : ℕ) → i < length (map plain_word words) → word_at (map plain_word words) i ≡ [] → ⊥) → map plain_word words ≡ words
all_stand [] read = refl
all_stand (word ∷ words) read =
    let none : 0 < length (map plain_word (word ∷ words)) = omega arith in
    ap₂ (λ (w : List ℕ) (ws : List (List ℕ)). w ∷ ws) (stands word (read 0 none))
    (all_stand words (λ i less. let within : suc i < length (map plain_word (word ∷ words)) = omega (arith, less) in read (suc i) within))

-- a word that is read is not empty
read_word : (words : List (List ℕ)) → AreAllRead (play_words words) → (i : ℕ) → i < length words → word_at words i ≡ [] → ⊥
read_word words read i less e =
    let within : suc i < length (play_words words) = omega (arith, less) in
    let given : (mode : Mode) × HasMode (play_words words) mode × GivesNew mode (play_words words) (suc i) = read (suc i) within in
    gives_nothing (given.2).part (subst (λ (w : List ℕ). GivesPart w (given.2).part) e (given.2).gives)

pub asked_of_tool : (words : List (List ℕ)) (play : FilePlay) → AskFor words play → IsRequest (play_words words) (requests.Play play)
asked_of_tool words play asks =
    subst (λ (ws : List (List ℕ)). IsRequest (play_words ws) (requests.Play play)) (all_stand words (read_word (map plain_word words) asks.read)) asks

-- no word that is read asks for more
plain_asks_nothing : (word : List ℕ) → asks_more (plain_word word) ≡ false
plain_asks_nothing word = by (asks_more word) refl
  where
    by : (more : Bool) → asks_more word ≡ more → asks_more (if more then [] else word) ≡ false
    by true e = refl
    by false e = e

none_asks : (words : List (List ℕ)) (i : ℕ) → asks_more (word_at (map plain_word words) i) ≡ false
none_asks [] i = refl
none_asks (word ∷ words) zero = plain_asks_nothing word
none_asks (word ∷ words) (suc i) = none_asks words i

not_given : (words : List (List ℕ)) (part : Part) → ((word : List ℕ) → GivesPart word part → asks_more word ≡ true) → IsPartGiven (plain_words words) part → ⊥
not_given words part asks x = by x.place x.after x.gives
  where
    by : (place : ℕ) → 0 < place → GivesPart (word_at (plain_words words) place) part → ⊥
    by zero after gives = absurd (omega (arith, after))
    by (suc i) after gives = let e = none_asks words i in let f = asks (word_at (map plain_word words) i) gives in absurd cc

answers_no : (words : List (List ℕ)) (part : Bool → Part) (answer : Bool) → ((word : List ℕ) → GivesPart word (part true) → asks_more word ≡ true) →
    AskAnswer (plain_words words) part answer → answer ≡ false
answers_no words part true asks (answer_given true x) = absurd (not_given words (part true) asks x)
answers_no words part false asks x = refl

pins_ask : (word : List ℕ) → GivesPart word (PinsWritten true) → asks_more word ≡ true
pins_ask word e = rw e refl

report_asks : (word : List ℕ) → GivesPart word (DevicesReported true) → asks_more word ≡ true
report_asks word e = rw e refl

pub no_pins : (words : List (List ℕ)) (play : FilePlay) → AskFor words play → play.request.pins ≡ false
no_pins words play asks = answers_no words PinsWritten play.request.pins pins_ask asks.gives.asked.pins_asked

pub no_report : (words : List (List ℕ)) (play : FilePlay) → AskFor words play → play.request.report ≡ false
no_report words play asks = answers_no words DevicesReported play.request.report report_asks asks.gives.asked.report_asked

-- And each play of that tool without the clocks and without the report is asked for by such words.

-- words that ask for nothing more stand for themselves
plain_stand : (words : List (List ℕ)) → ((i : ℕ) → i < length words → asks_more (word_at words i) ≡ true → ⊥) → map plain_word words ≡ words
plain_stand [] none = refl
plain_stand (word ∷ words) none =
    ap₂ (λ (w : List ℕ) (ws : List (List ℕ)). w ∷ ws) (by (asks_more word) refl)
    (plain_stand words (λ i less. let within : suc i < length (word ∷ words) = omega (arith, less) in none (suc i) within))
  where
    by : (more : Bool) → asks_more word ≡ more → (if more then [] else word) ≡ word
    by true e = let first : 0 < length (word ∷ words) = omega arith in absurd (none 0 first e)
    by false e = refl

-- a word that asks for more is one of two
which_more : (word : List ℕ) → asks_more word ≡ true → (word ≡ codes "pins=yes") ⊎ (word ≡ codes "report=yes")
which_more word e = by (bytes_eq word (codes "pins=yes")) refl e
  where
    by : (first : Bool) → bytes_eq word (codes "pins=yes") ≡ first → first || bytes_eq word (codes "report=yes") ≡ true →
        (word ≡ codes "pins=yes") ⊎ (word ≡ codes "report=yes")
    by true f e = inl ((bytes_eq-Decides word (codes "pins=yes")).0 f)
    by false f e = inr ((bytes_eq-Decides word (codes "report=yes")).0 e)

-- words that answer no do not answer yes, too
not_yes : (words : List (List ℕ)) (part : Bool → Part) (answer : Bool) → key_of (part true) ≡ key_of (part false) → (part true ≡ part false → ⊥) →
    AreAllRead words → AskAnswer words part answer → answer ≡ false → IsPartGiven words (part true) → ⊥
not_yes words part true key other read (answer_given true x) e given = absurd cc
not_yes words part false key other read (answer_given false x) e given = other (one_given words (length words) (part true) (part false) read key given x)
not_yes words part false key other read (answer_missing none) e given = none true given

part_at : (words : List (List ℕ)) (i : ℕ) (part : Part) → i < length words → GivesPart (word_at words i) part → IsPartGiven (play_words words) part
part_at words i part less gives = record { place = suc i; after = omega arith; before = omega (arith, less); gives = gives }

pub asked_for : (words : List (List ℕ)) (play : FilePlay) → IsRequest (play_words words) (requests.Play play) → play.request.pins ≡ false → play.request.report ≡ false →
    AskFor words play
asked_for words play asks pins report = subst (λ (ws : List (List ℕ)). IsRequest (play_words ws) (requests.Play play)) (sym (plain_stand words none)) asks
  where
    by : (i : ℕ) → i < length words → (word_at words i ≡ codes "pins=yes") ⊎ (word_at words i ≡ codes "report=yes") → ⊥
    by i less (inl e) =
        not_yes (play_words words) PinsWritten play.request.pins refl (λ f. cc) asks.read asks.gives.asked.pins_asked pins (part_at words i (PinsWritten true) less e)
    by i less (inr e) =
        not_yes (play_words words) DevicesReported play.request.report refl (λ f. cc) asks.read asks.gives.asked.report_asked report (part_at words i (DevicesReported true) less e)

    none : (i : ℕ) → i < length words → asks_more (word_at words i) ≡ true → ⊥
    none i less e = by i less (which_more (word_at words i) e)
