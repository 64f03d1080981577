-- On words that are read from the first one on.
use Rattle.std.proofs.Common.{◌≡◌, ◌≢◌, ◌<◌, ◌≤◌, ◌+◌, ◌*◌, ℕ, List, [], ◌∷◌, length, sym, refl, ap, ◌∙◌, arith, subst, suc, zero, get_or, map, codes, Option, None, Some, inl, inr, Bool, true, false}
use Rattle.std.proofs.lemmas.Option.{same_Some}
use Rattle.std.proofs.lemmas.List.{get_or-map}
use Rattle.std.proofs.lemmas.Bool.{cases_lt}
use Rattle.std.specs.Option.{option_map}
use Rattle.std.specs.Prelude.{is_some}
use Rattle.command_words.specs.declared.place_run.PlaceRun.{PlaceRun}
use Rattle.command_words.specs.KeyedWords.{most_place, NamesPath, NamesFreeName, NamesList, NamesNumber, NamesRun, SaysAnswer, names_or_none}
use Rattle.command_words.proofs.ValueLemmas.{one_path, one_free_name, one_number, one_list, one_answer}
use Rattle.command_words.proofs.RunLemmas.{one_run}
use Rattle.play_words.specs.declared.mode.Mode.{Mode}
use Rattle.play_words.specs.declared.mode.Mode.TheVariants as modes
use Rattle.play_words.specs.declared.mode.WordKey.{WordKey}
use Rattle.play_words.specs.declared.mode.WordKey.TheVariants.{Board, Program, Code, Action, Do, Skip, Place, Turns, Pins, Report, Seed}
use Rattle.play_words.specs.declared.requests.PlayRequest.{PlayRequest}
use Rattle.play_words.specs.declared.requests.FilePlay.{FilePlay}
use Rattle.play_words.specs.declared.requests.Request.{Request}
use Rattle.play_words.specs.declared.requests.Request.TheVariants as requests
use Rattle.play_words.specs.Words.{mode_word, takes, needs, Part, BoardIn, ProgramIn, CodeIn, ActionNamed, NamesAsked, NamesSkipped, PlaceAsked, TurnsAtMost, PinsWritten, DevicesReported, SeedGiven, key_of, most_turns, most_seed, GivesPart, word_at, HasMode, IsGivenBefore, GivesNew, IsWordRead, AreReadBefore, IsPartGiven, IsKeyGiven, GiveOf, AskNames, names_given, names_missing, AskTurns, turns_given, turns_usual, AskAnswer, answer_given, answer_missing, AskPlayRequest, GivePlay, mode_of, Give, IsRequest, lack_mode, lack_key, IsFirstUnread, IsUsage, is_unread, is_missing}
use Rattle.play_words.specs.ReadParts.{Values, given_of, with_part, AddsPart, Refuses, not_taken, given_already, GivesNoPart, AddsWord, AddsNothing, one_if_some, count_of, AreReadUpTo, LacksKey, turns_or_usual, answer_or_no, HasPlayValues, HasFileValues, LacksPlay, no_board, no_source, no_action, HasValues}

-- A word gives at most one part.

-- the first two bytes as one number
first_two : List ℕ → ℕ
first_two [] = 0
first_two (a ∷ []) = 0
first_two (a ∷ b ∷ bytes) = 256 * a + b

-- the first two letters of a key tell it apart
abbrev letters : WordKey → ℕ
letters Board = 25199
letters Program = 28786
letters Action = 24931
letters Do = 25711
letters Skip = 29547
letters Place = 28780
letters Turns = 29813
letters Pins = 28777
letters Report = 29285
letters Code = 25455
letters Seed = 29541

has_letters : (word : List ℕ) (part : Part) → GivesPart word part → first_two word ≡ letters (key_of part)
unfolding first_two
has_letters word (BoardIn path) x = ap first_two x.0
has_letters word (ProgramIn path) x = ap first_two x.0
has_letters word (ActionNamed name) x = ap first_two x.keyed
has_letters word (NamesAsked names) x = ap first_two x.keyed
has_letters word (NamesSkipped names) x = ap first_two x.keyed
has_letters word (PlaceAsked n) x = ap first_two x.keyed
has_letters word (TurnsAtMost n) x = ap first_two x.keyed
has_letters word (CodeIn path) x = ap first_two x.0
has_letters word (SeedGiven n) x = ap first_two x.keyed
has_letters word (PinsWritten written) x = ap first_two x
has_letters word (DevicesReported reported) x = ap first_two x

one_part : (word : List ℕ) (a b : Part) → GivesPart word a → GivesPart word b → a ≡ b
one_part word (BoardIn p) (BoardIn q) x y = ap BoardIn (one_path (codes "board=") word p q x y)
one_part word (ProgramIn p) (ProgramIn q) x y = ap ProgramIn (one_path (codes "program=") word p q x y)
one_part word (ActionNamed p) (ActionNamed q) x y = ap ActionNamed (one_free_name (codes "action=") word p q x y)
one_part word (NamesAsked p) (NamesAsked q) x y = ap NamesAsked (one_list (codes "do=") word p q x y)
one_part word (NamesSkipped p) (NamesSkipped q) x y = ap NamesSkipped (one_list (codes "skip=") word p q x y)
one_part word (PlaceAsked p) (PlaceAsked q) x y = ap PlaceAsked (one_run (codes "place=") most_place word p q x y)
one_part word (TurnsAtMost p) (TurnsAtMost q) x y = ap TurnsAtMost (one_number (codes "turns=") 0 most_turns word p q x y)
one_part word (PinsWritten p) (PinsWritten q) x y = ap PinsWritten (one_answer (codes "pins=") word p q x y)
one_part word (DevicesReported p) (DevicesReported q) x y = ap DevicesReported (one_answer (codes "report=") word p q x y)
one_part word (CodeIn p) (CodeIn q) x y = ap CodeIn (one_path (codes "code=") word p q x y)
one_part word (SeedGiven p) (SeedGiven q) x y = ap SeedGiven (one_number (codes "seed=") 0 most_seed word p q x y)
one_part word a b x y = let e = has_letters word a x in let f = has_letters word b y in absurd (omega arith)

-- What a word adds.

pub adds_part : {word : List ℕ} {old new : Values} (part : Part) → GivesPart word part → AddsPart old part new → AddsWord old word new
adds_part part gives adds = record { part = part; gives = gives; adds = adds }

pub adds_refused : {word : List ℕ} {values : Values} (part : Part) → GivesPart word part → Refuses values part → AddsNothing values word
adds_refused {word = word} {values = values} part gives r =
    record { refused = λ other given. subst (Refuses values) (one_part word part other gives given) r }

-- the word gives no value of this sort
abbrev pub GivesNone : {A : Type 0} → (A → Type 0) → Type 0
GivesNone {A = A} P = (x : A) → P x → ⊥

pub gives_no_part : {word : List ℕ} → GivesNone (NamesPath (codes "board=") word) → GivesNone (NamesPath (codes "program=") word) →
    GivesNone (NamesPath (codes "code=") word) → GivesNone (NamesFreeName (codes "action=") word) →
    GivesNone (NamesList (codes "do=") word) → GivesNone (NamesList (codes "skip=") word) →
    GivesNone (NamesRun (codes "place=") most_place word) → GivesNone (NamesNumber (codes "turns=") 0 most_turns word) →
    GivesNone (SaysAnswer (codes "pins=") word) → GivesNone (SaysAnswer (codes "report=") word) →
    GivesNone (NamesNumber (codes "seed=") 0 most_seed word) → GivesNoPart word
gives_no_part {word = word} b p k a d s l t w r e = record { none = none_of }
  where
    none_of : (part : Part) → GivesPart word part → ⊥
    none_of (BoardIn path) g = b path g
    none_of (ProgramIn path) g = p path g
    none_of (CodeIn path) g = k path g
    none_of (ActionNamed name) g = a name g
    none_of (NamesAsked names) g = d names g
    none_of (NamesSkipped names) g = s names g
    none_of (PlaceAsked n) g = l n g
    none_of (TurnsAtMost n) g = t n g
    none_of (PinsWritten written) g = w written g
    none_of (DevicesReported reported) g = r reported g
    none_of (SeedGiven n) g = e n g

pub adds_no_part : {word : List ℕ} (values : Values) → GivesNoPart word → AddsNothing values word
adds_no_part values n = record { refused = λ part gives. absurd (n.none part gives) }

-- A part is added, or not.

none_given : {A : Type 0} (found : Option A) → is_some found ≡ false → found ≡ None
none_given None e = refl
none_given (Some x) e = absurd cc

pub adds_where_free : {values new : Values} (part : Part) (key : WordKey) → key ≡ key_of part → takes values.mode key ≡ true →
    is_some (given_of values key) ≡ false →
    new ≡ with_part values part → AddsPart values part new
adds_where_free {values = values} part key e taken free added = record {
  taken = ap (takes values.mode) (sym e) ∙ taken;
  free = none_given _ (ap (λ (k : WordKey). is_some (given_of values k)) (sym e) ∙ free);
  added = added;
}

pub refuses_key : {values : Values} (part : Part) (key : WordKey) → key ≡ key_of part → takes values.mode key ≡ false → Refuses values part
refuses_key {values = values} part key e taken = not_taken (ap (takes values.mode) (sym e) ∙ taken)

given_there : (values : Values) (part : Part) (found : Option Part) → given_of values (key_of part) ≡ found → is_some found ≡ true → Refuses values part
given_there values part None e there = absurd cc
given_there values part (Some other) e there = given_already other e

pub refuses_given : {values : Values} (part : Part) (key : WordKey) → key ≡ key_of part → is_some (given_of values key) ≡ true → Refuses values part
refuses_given {values = values} part key e there =
    given_there values part (given_of values (key_of part)) refl (ap (λ (k : WordKey). is_some (given_of values k)) (sym e) ∙ there)

-- The first word is that of at most one mode.

same_word : (a b : Mode) → mode_word a ≡ mode_word b → a ≡ b
unfolding first_two
same_word modes.Play modes.Play e = refl
same_word modes.Check modes.Check e = refl
same_word modes.List modes.List e = refl
same_word modes.Compile modes.Compile e = refl
same_word modes.Run modes.Run e = refl
same_word modes.Soak modes.Soak e = refl
same_word a b e = let f : ◌≡◌ {A = ℕ} (first_two (mode_word a)) (first_two (mode_word b)) = ap first_two e in absurd (omega arith)

-- a word is that of no mode
pub no_mode_word : {word : List ℕ} → word ≢ codes "play" → word ≢ codes "check" → word ≢ codes "list" → word ≢ codes "compile" → word ≢ codes "run" →
    word ≢ codes "soak" →
    (mode : Mode) → word ≡ mode_word mode → ⊥
no_mode_word p k l c r s modes.Play e = p e
no_mode_word p k l c r s modes.Check e = k e
no_mode_word p k l c r s modes.List e = l e
no_mode_word p k l c r s modes.Compile e = c e
no_mode_word p k l c r s modes.Run e = r e
no_mode_word p k l c r s modes.Soak e = s e

pub one_mode : (words : List (List ℕ)) (a b : Mode) → HasMode words a → HasMode words b → a ≡ b
one_mode words a b x y = same_word a b (sym x ∙ y)

-- Read words give at most one part of each key.

new_after : (words : List (List ℕ)) (place : ℕ) → 0 < place → IsWordRead words place → (mode : Mode) × HasMode words mode × GivesNew mode words place
new_after words zero after read = absurd (omega arith)
new_after words (suc place) after read = read

-- not where one of them stands before the other
not_before : (words : List (List ℕ)) (p q : Part) (n : ℕ) (place : ℕ) → key_of p ≡ key_of q → IsGivenBefore words place p → 0 < place → IsWordRead words place →
    GivesPart (word_at words place) q → ⊥
not_before words p q n place same earlier after read gives =
    let r = (new_after words place after read).2 in
    r.new p earlier (same ∙ ap key_of (one_part (word_at words place) q r.part gives r.gives))

given_at : (words : List (List ℕ)) (p : Part) (place n : ℕ) → 0 < place → place < n → GivesPart (word_at words place) p → IsGivenBefore words n p
given_at words p place n after before gives = record { place = place; after = after; before = before; gives = gives }

pub one_given : (words : List (List ℕ)) (n : ℕ) (p q : Part) → AreReadBefore words n → key_of p ≡ key_of q → IsGivenBefore words n p →
    IsGivenBefore words n q → p ≡ q
one_given words n p q read same x y =
    elim (cases_lt x.place y.place) [
      | inl lt ↦ absurd (not_before words p q n y.place same (given_at words p x.place y.place x.after lt x.gives) y.after (read y.place y.before) y.gives)
      | inr le ↦ elim (cases_lt y.place x.place) [
        | inl lt ↦ absurd (not_before words q p n x.place (sym same) (given_at words q y.place x.place y.after lt y.gives)
            x.after (read x.place x.before) x.gives)
        | inr ge ↦
            let at : y.place ≡ x.place = omega arith in
            one_part (word_at words x.place) p q x.gives (subst (λ (k : ℕ). GivesPart (word_at words k) q) at y.gives)
      ]
    ]

-- One word more is read.

pub nothing_read : (words : List (List ℕ)) (values : Values) → HasMode words values.mode → values.board ≡ None → values.program ≡ None →
    values.code ≡ None → values.action ≡ None →
    values.todo ≡ None → values.skip ≡ None → values.place ≡ None → values.turns ≡ None → values.pins ≡ None → values.report ≡ None →
    values.seed ≡ None → AreReadUpTo words 1 values
nothing_read words values mode b p k a d s l t w r e = record {
  mode = mode;
  read = first_is;
  give = none_given;
  few = omega arith;
}
  where
    first_is : AreReadBefore words 1
    first_is zero lt = (values.mode, mode)
    first_is (suc place) lt = absurd (omega arith)

    not_given : (part : Part) → IsGivenBefore words 1 part → ⊥
    not_given part g = let after = g.after in let before = g.before in omega arith

    none_given : (key : WordKey) → GiveOf words 1 key (given_of values key)
    none_given Board = rw b (λ part e g. not_given part g)
    none_given Program = rw p (λ part e g. not_given part g)
    none_given Action = rw a (λ part e g. not_given part g)
    none_given Do = rw d (λ part e g. not_given part g)
    none_given Skip = rw s (λ part e g. not_given part g)
    none_given Place = rw l (λ part e g. not_given part g)
    none_given Turns = rw t (λ part e g. not_given part g)
    none_given Pins = rw w (λ part e g. not_given part g)
    none_given Report = rw r (λ part e g. not_given part g)
    none_given Code = rw k (λ part e g. not_given part g)
    none_given Seed = rw e (λ part e g. not_given part g)

-- what is known of a key where another part is read
keeps : (words : List (List ℕ)) (n : ℕ) (key : WordKey) (part : Part) (found : Option Part) → GivesPart (word_at words n) part → key_of part ≢ key →
    GiveOf words n key found → GiveOf words (n + 1) key found
keeps words n key part None gives other none = λ p e g.
    elim (cases_lt g.place n) [
      | inl lt ↦ none p e (given_at words p g.place n g.after lt g.gives)
      | inr ge ↦
          let w = g.before in
          let at : g.place ≡ n = omega arith in
          other (ap key_of (one_part (word_at words n) part p gives (subst (λ (k : ℕ). GivesPart (word_at words k) p) at g.gives)) ∙ e)
    ]
keeps words n key part (Some p) gives other found =
    let g = found.1 in let w = g.before in (found.0, given_at words p g.place (n + 1) g.after (omega arith) g.gives)

-- what is known of each key where a part is read whose key is free
gives_key : (words : List (List ℕ)) (n : ℕ) (values : Values) (part : Part) → IsGivenBefore words (n + 1) part →
    ((key : WordKey) → key_of part ≢ key → GiveOf words (n + 1) key (given_of values key)) →
    (key : WordKey) → GiveOf words (n + 1) key (given_of (with_part values part) key)
gives_key words n values (BoardIn path) here keep Board = (refl, here)
gives_key words n values (ProgramIn path) here keep Program = (refl, here)
gives_key words n values (ActionNamed name) here keep Action = (refl, here)
gives_key words n values (NamesAsked names) here keep Do = (refl, here)
gives_key words n values (NamesSkipped names) here keep Skip = (refl, here)
gives_key words n values (PlaceAsked k) here keep Place = (refl, here)
gives_key words n values (TurnsAtMost k) here keep Turns = (refl, here)
gives_key words n values (PinsWritten written) here keep Pins = (refl, here)
gives_key words n values (DevicesReported reported) here keep Report = (refl, here)
gives_key words n values (CodeIn path) here keep Code = (refl, here)
gives_key words n values (SeedGiven k) here keep Seed = (refl, here)
gives_key words n values part here keep key = keep key (λ e. cc)

none_back : {A B : Type 0} (f : A → B) (found : Option A) → option_map f found ≡ None → one_if_some found ≡ 0
none_back f None e = refl
none_back f (Some x) e = absurd cc

counted : (values : Values) (part : Part) → given_of values (key_of part) ≡ None → count_of (with_part values part) ≡ count_of values + 1
counted values (BoardIn path) e = let none = none_back BoardIn values.board e in omega arith
counted values (ProgramIn path) e = let none = none_back ProgramIn values.program e in omega arith
counted values (CodeIn path) e = let none = none_back CodeIn values.code e in omega arith
counted values (SeedGiven n) e = let none = none_back SeedGiven values.seed e in omega arith
counted values (ActionNamed name) e = let none = none_back ActionNamed values.action e in omega arith
counted values (NamesAsked names) e = let none = none_back NamesAsked values.todo e in omega arith
counted values (NamesSkipped names) e = let none = none_back NamesSkipped values.skip e in omega arith
counted values (PlaceAsked n) e = let none = none_back PlaceAsked values.place e in omega arith
counted values (TurnsAtMost n) e = let none = none_back TurnsAtMost values.turns e in omega arith
counted values (PinsWritten written) e = let none = none_back PinsWritten values.pins e in omega arith
counted values (DevicesReported reported) e = let none = none_back DevicesReported values.report e in omega arith

read_new : (words : List (List ℕ)) (mode : Mode) (place : ℕ) → 0 < place → HasMode words mode → GivesNew mode words place → IsWordRead words place
read_new words mode zero after has new = absurd (omega arith)
read_new words mode (suc place) after has new = (mode, has, new)

read_more : (words : List (List ℕ)) (n : ℕ) → AreReadBefore words n → IsWordRead words n → AreReadBefore words (n + 1)
read_more words n before here place lt =
    elim (cases_lt place n) [
      | inl below ↦ before place below
      | inr ge ↦ let at : n ≡ place = omega arith in subst (IsWordRead words) at here
    ]

new_part : (words : List (List ℕ)) (n : ℕ) (part : Part) (values : Values) → GiveOf words n (key_of part) (given_of values (key_of part)) →
    given_of values (key_of part) ≡ None → takes values.mode (key_of part) ≡ true → GivesPart (word_at words n) part → GivesNew values.mode words n
new_part words n part values give free taken gives =
    let none : (p : Part) → key_of p ≡ key_of part → IsGivenBefore words n p → ⊥ = subst (GiveOf words n (key_of part)) free give in
    record { part = part; gives = gives; taken = taken; new = λ other g e. none other e g }

same_mode : (values : Values) (part : Part) → (with_part values part).mode ≡ values.mode
same_mode values (BoardIn path) = refl
same_mode values (ProgramIn path) = refl
same_mode values (ActionNamed name) = refl
same_mode values (CodeIn path) = refl
same_mode values (SeedGiven n) = refl
same_mode values (NamesAsked names) = refl
same_mode values (NamesSkipped names) = refl
same_mode values (PlaceAsked n) = refl
same_mode values (TurnsAtMost n) = refl
same_mode values (PinsWritten written) = refl
same_mode values (DevicesReported reported) = refl

one_part_more : (words : List (List ℕ)) (n : ℕ) (part : Part) (old new : Values) → 0 < n → AreReadUpTo words n old →
    GivesPart (word_at words n) part → AddsPart old part new →
    AreReadUpTo words (n + 1) new
one_part_more words n part old new after r gives adds = record {
  mode = subst (HasMode words) (sym (ap (λ (v : Values). v.mode) adds.added ∙ same_mode old part)) r.mode;
  read = read_more words n r.read (read_new words old.mode n after r.mode (new_part words n part old (r.give (key_of part)) adds.free adds.taken gives));
  give = λ key.
      subst (λ (z : Values). GiveOf words (n + 1) key (given_of z key)) (sym adds.added)
      (gives_key words n old part (given_at words part n (n + 1) after (omega arith) gives)
      (λ k other. keeps words n k part (given_of old k) gives other (r.give k)) key);
  few =
      let f = r.few in
      let c = counted old part adds.free in
      let same : count_of new ≡ count_of (with_part old part) = ap count_of adds.added in
      omega arith;
}

pub one_word_more : (words : List (List ℕ)) (n : ℕ) (old new : Values) → 0 < n → AreReadUpTo words n old → AddsWord old (word_at words n) new →
    AreReadUpTo words (n + 1) new
one_word_more words n old new after r adds = one_part_more words n adds.part old new after r adds.gives adds.adds

-- the same count in another form
pub read_so_far : {words : List (List ℕ)} {n m : ℕ} {values : Values} → n ≡ m → AreReadUpTo words n values → AreReadUpTo words m values
read_so_far {words = words} {values = values} e r = subst (λ (k : ℕ). AreReadUpTo words k values) e r

-- at most eleven values are given
pub few_read : {words : List (List ℕ)} {n : ℕ} {values : Values} → AreReadUpTo words n values → n ≤ 12
few_read {values = values} r =
    let f = r.few in
    let b = at_most_one values.board in
    let p = at_most_one values.program in
    let a = at_most_one values.action in
    let d = at_most_one values.todo in
    let s = at_most_one values.skip in
    let l = at_most_one values.place in
    let t = at_most_one values.turns in
    let w = at_most_one values.pins in
    let o = at_most_one values.report in
    let k = at_most_one values.code in
    let e = at_most_one values.seed in
    omega arith
  where
    at_most_one : {A : Type 0} (found : Option A) → one_if_some found ≤ 1
    at_most_one None = omega arith
    at_most_one (Some x) = omega arith

-- The first word that is not read.

unread_after : (words : List (List ℕ)) (mode : Mode) (place : ℕ) → 0 < place → HasMode words mode → (GivesNew mode words place → ⊥) → IsWordRead words place → ⊥
unread_after words mode place after has none read =
    let r = new_after words place after read in
    none (subst (λ (m : Mode). GivesNew m words place) (one_mode words r.0 mode r.1 has) r.2)

not_true : (b : Bool) → b ≡ false → b ≡ true → ⊥
not_true b e f = cc

pub adds_nothing : (words : List (List ℕ)) (place : ℕ) (values : Values) → 0 < place → place < length words → AreReadUpTo words place values →
    AddsNothing values (word_at words place) → IsFirstUnread words place
adds_nothing words place values after within r none = record {
  within = within;
  before = r.read;
  unread = unread_after words values.mode place after r.mode (λ new. not_new new (none.refused new.part new.gives));
}
  where
    not_new : (new : GivesNew values.mode words place) → Refuses values new.part → ⊥
    not_new new (not_taken e) = not_true (takes values.mode (key_of new.part)) e new.taken
    not_new new (given_already other e) =
        let earlier : GiveOf words place (key_of new.part) (Some other) = subst (GiveOf words place (key_of new.part)) e (r.give (key_of new.part)) in
        new.new other earlier.1 earlier.0

-- All words are read.

turns_read : (words : List (List ℕ)) (turns : Option ℕ) → GiveOf words (length words) Turns (option_map TurnsAtMost turns) →
    AskTurns words (turns_or_usual turns)
turns_read words None none = turns_usual (λ n g. none (TurnsAtMost n) refl g)
turns_read words (Some n) give = turns_given n give.1

answer_read : (words : List (List ℕ)) (part : Bool → Part) (key : WordKey) (answer : Option Bool) → ((written : Bool) → key_of (part written) ≡ key) →
    GiveOf words (length words) key (option_map part answer) → AskAnswer words part (answer_or_no answer)
answer_read words part key None of_key none = answer_missing (λ written g. none (part written) (of_key written) g)
answer_read words part key (Some written) of_key give = answer_given written give.1

names_read : (words : List (List ℕ)) (part : List (List ℕ) → Part) (key : WordKey) (names : Option (List (List ℕ))) →
    ((list : List (List ℕ)) → key_of (part list) ≡ key) →
    GiveOf words (length words) key (option_map part names) → AskNames words part (names_or_none names)
names_read words part key None of_key none = names_missing (λ list g. none (part list) (of_key list) g)
names_read words part key (Some list) of_key give = names_given list give.1

key_missing : (words : List (List ℕ)) (key : WordKey) (found : Option Part) → GiveOf words (length words) key found → found ≡ None → IsKeyGiven words key → ⊥
key_missing words key None give e g = give g.part g.of_key g.given
key_missing words key (Some part) give e g = cc

-- a value that is given, by the part that it makes
given_value : {A : Type 0} {words : List (List ℕ)} (key : WordKey) (part : A → Part) (found : Option A) (x : A) → GiveOf words (length words) key (option_map part found) →
    found ≡ Some x → IsPartGiven words (part x)
given_value key part None x give e = absurd cc
given_value {words = words} key part (Some y) x give e = subst (λ (z : _). IsPartGiven words (part z)) (same_Some y x e) give.1

ask_read : {words : List (List ℕ)} {request : PlayRequest} (values : Values) → AreReadUpTo words (length words) values → HasPlayValues values request → AskPlayRequest words request
ask_read {words = words} {request = request} values r h = record {
  action_named = given_value Action ActionNamed values.action request.action (r.give Action) h.action_named;
  todo_asked = subst (AskNames words NamesAsked) (sym h.todo_are) (names_read words NamesAsked Do values.todo (λ list. refl) (r.give Do));
  skip_asked = subst (AskNames words NamesSkipped) (sym h.skip_are) (names_read words NamesSkipped Skip values.skip (λ list. refl) (r.give Skip));
  place_asked = subst (λ (p : Option PlaceRun). GiveOf words (length words) Place (option_map PlaceAsked p)) (sym h.place_is) (r.give Place);
  turns_asked = subst (AskTurns words) (sym h.turns_are) (turns_read words values.turns (r.give Turns));
  pins_asked = subst (AskAnswer words PinsWritten) (sym h.pins_are) (answer_read words PinsWritten Pins values.pins (λ written. refl) (r.give Pins));
  report_asked = subst (AskAnswer words DevicesReported) (sym h.report_is)
      (answer_read words DevicesReported Report values.report (λ written. refl) (r.give Report));
}

play_read : {words : List (List ℕ)} (key : WordKey) (part : List ℕ → Part) (path : Option (List ℕ)) {play : FilePlay} (values : Values) → AreReadUpTo words (length words) values →
    GiveOf words (length words) key (option_map part path) → HasFileValues values path play → GivePlay words part play
play_read key part path {play = play} values r give h = record {
  board_given = given_value Board BoardIn values.board play.board (r.give Board) h.board_named;
  source_given = given_value key part path play.source give h.source_named;
  asked = ask_read values r h.asked;
}

program_read : {words : List (List ℕ)} {path : List ℕ} (values : Values) → AreReadUpTo words (length words) values → values.program ≡ Some path → IsPartGiven words (ProgramIn path)
program_read {path = path} values r e = given_value Program ProgramIn values.program path (r.give Program) e

gives_read : {words : List (List ℕ)} (request : Request) (values : Values) → AreReadUpTo words (length words) values → HasValues values request →
    (values.mode ≡ mode_of request) × Give words request
gives_read (requests.Play play) values r h = (h.0, play_read Program ProgramIn values.program values r (r.give Program) h.1)
gives_read (requests.Run play) values r h = (h.0, play_read Code CodeIn values.code values r (r.give Code) h.1)
gives_read (requests.Check path) values r h = (h.0, program_read values r h.1)
gives_read (requests.List path) values r h = (h.0, program_read values r h.1)
gives_read (requests.Compile path) values r h = (h.0, program_read values r h.1)
gives_read (requests.Soak seed) values r h = (h.0, given_value Seed SeedGiven values.seed seed (r.give Seed) h.1)

pub request_read : {words : List (List ℕ)} (request : Request) (values : Values) → AreReadUpTo words (length words) values → HasValues values request → IsRequest words request
request_read {words = words} request values r h =
    let g = gives_read request values r h in
    record { read = r.read; mode = subst (HasMode words) g.0 r.mode; gives = g.1 }

-- What is missing.

lacks_key : {values : Values} (mode : Mode) (key : WordKey) → values.mode ≡ mode → needs mode key ≡ true → given_of values key ≡ None → LacksKey values
lacks_key mode key e needed missing = record { key = key; needed = ap (λ (m : Mode). needs m key) e ∙ needed; missing = missing }

pub lacks_to_play : {values : Values} → values.mode ≡ modes.Play → LacksPlay values values.program → LacksKey values
lacks_to_play e (no_board n) = lacks_key modes.Play Board e refl (ap (option_map BoardIn) n)
lacks_to_play e (no_source n) = lacks_key modes.Play Program e refl (ap (option_map ProgramIn) n)
lacks_to_play e (no_action n) = lacks_key modes.Play Action e refl (ap (option_map ActionNamed) n)

pub lacks_to_run : {values : Values} → values.mode ≡ modes.Run → LacksPlay values values.code → LacksKey values
lacks_to_run e (no_board n) = lacks_key modes.Run Board e refl (ap (option_map BoardIn) n)
lacks_to_run e (no_source n) = lacks_key modes.Run Code e refl (ap (option_map CodeIn) n)
lacks_to_run e (no_action n) = lacks_key modes.Run Action e refl (ap (option_map ActionNamed) n)

pub lacks_program : {values : Values} (mode : Mode) → values.mode ≡ mode → needs mode Program ≡ true → values.program ≡ None → LacksKey values
lacks_program mode e needed n = lacks_key mode Program e needed (ap (option_map ProgramIn) n)

pub lacks_seed : {values : Values} → values.mode ≡ modes.Soak → values.seed ≡ None → LacksKey values
lacks_seed e n = lacks_key modes.Soak Seed e refl (ap (option_map SeedGiven) n)

pub key_lacks : {words : List (List ℕ)} (values : Values) → AreReadUpTo words (length words) values → LacksKey values → IsUsage words (length words + 1)
key_lacks {words = words} values r l =
    is_missing r.read (lack_key values.mode l.key r.mode l.needed (key_missing words l.key (given_of values l.key) (r.give l.key) l.missing))

-- Words that do not begin with a mode.

no_mode_read : (words : List (List ℕ)) → ((mode : Mode) → HasMode words mode → ⊥) → IsWordRead words 0 → ⊥
no_mode_read words none read = none read.0 read.1

pub no_mode : (words : List (List ℕ)) → ((mode : Mode) → HasMode words mode → ⊥) → IsUsage words 1
no_mode [] none = is_missing (λ place lt. absurd (omega arith)) (lack_mode refl)
no_mode (word ∷ words) none =
    is_unread 0 (record { within = omega arith; before = λ place lt. absurd (omega arith); unread = no_mode_read (word ∷ words) none })

-- a word of a list of texts
pub word_is : {T : Type 0} (bytes : T → List ℕ) (words : List T) (place : ℕ) (word : T) → place < length words → word ≡ get_or words place word →
    bytes word ≡ get_or (map bytes words) place []
word_is bytes words place word lt is = ap bytes is ∙ sym (get_or-map bytes words place word [] lt)
