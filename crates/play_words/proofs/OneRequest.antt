-- Words make at most one request, or have one first fault, and not both; and the run that a request names is in order.
use Rattle.std.proofs.Common.{◌≡◌, ◌≤◌, ℕ, Bool, List, [], length, refl, ap, ◌∙◌, arith, sym, subst, true, Option, None, Some, inl, inr}
use Rattle.std.proofs.lemmas.Bool.{cases_lt}
use Rattle.std.proofs.lemmas.Option.{same_Some}
use Rattle.std.specs.Option.{option_map}
use Rattle.command_words.specs.declared.place_run.PlaceRun.{PlaceRun}
use Rattle.command_words.specs.KeyedWords.{most_place, SpellsRun, of_one, of_two}
use Rattle.play_words.specs.declared.mode.Mode.{Mode}
use Rattle.play_words.specs.declared.mode.Mode.TheVariants as modes
use Rattle.play_words.specs.declared.mode.WordKey.{WordKey}
use Rattle.play_words.specs.declared.mode.WordKey.TheVariants.{Board, Program, Code, Action, Place, Seed}
use Rattle.play_words.specs.declared.requests.PlayRequest.{PlayRequest}
use Rattle.play_words.specs.declared.requests.FilePlay.{FilePlay}
use Rattle.play_words.specs.declared.requests.Request.{Request}
use Rattle.play_words.specs.declared.requests.Request.TheVariants as requests
use Rattle.play_words.specs.Words.{HasMode, needs, Part, BoardIn, ProgramIn, CodeIn, ActionNamed, NamesAsked, NamesSkipped, PlaceAsked, TurnsAtMost, PinsWritten, DevicesReported, SeedGiven, key_of, IsPartGiven, GiveOf, IsKeyGiven, AskNames, names_given, names_missing, AskTurns, turns_given, turns_usual, AskAnswer, answer_given, answer_missing, AreAllRead, AskPlayRequest, GivePlay, mode_of, Give, IsRequest, file_play_of, Lack, lack_mode, lack_key, IsUsage, is_unread, is_missing}
use Rattle.play_words.proofs.WordLemmas.{one_mode, one_given}

-- the value of a part that is given, where a value is known by its part
one_value : {A : Type 0} {words : List (List ℕ)} (part : A → Part) → ((x y : A) → part x ≡ part y → x ≡ y) → ((x y : A) → key_of (part x) ≡ key_of (part y)) → AreAllRead words →
    (a b : A) → IsPartGiven words (part a) → IsPartGiven words (part b) → a ≡ b
one_value {words = words} part known key read a b x y = known a b (one_given words (length words) (part a) (part b) read (key a b) x y)

-- the same of a part that may be missing
one_of : (words : List (List ℕ)) (key : WordKey) (a b : Option Part) → AreAllRead words → GiveOf words (length words) key a →
    GiveOf words (length words) key b → a ≡ b
one_of words key None None read x y = refl
one_of words key None (Some q) read x y = absurd (x q y.0 y.1)
one_of words key (Some p) None read x y = absurd (y p x.0 x.1)
one_of words key (Some p) (Some q) read x y =
    let same : key_of p ≡ key_of q = let e = x.0 in let f = y.0 in cc in ap Some (one_given words (length words) p q read same x.1 y.1)

same_given : {A : Type 0} {part : A → Part} → ((x y : A) → part x ≡ part y → x ≡ y) → (a b : Option A) → option_map part a ≡ option_map part b → a ≡ b
same_given known None None e = refl
same_given known None (Some q) e = absurd cc
same_given known (Some p) None e = absurd cc
same_given known (Some p) (Some q) e = ap Some (known p q cc)

same_board : (x y : List ℕ) → BoardIn x ≡ BoardIn y → x ≡ y
same_board x y e = cc

same_program : (x y : List ℕ) → ProgramIn x ≡ ProgramIn y → x ≡ y
same_program x y e = cc

same_code : (x y : List ℕ) → CodeIn x ≡ CodeIn y → x ≡ y
same_code x y e = cc

same_action : (x y : List ℕ) → ActionNamed x ≡ ActionNamed y → x ≡ y
same_action x y e = cc

same_place : (x y : PlaceRun) → PlaceAsked x ≡ PlaceAsked y → x ≡ y
same_place x y e = cc

same_seed : (x y : ℕ) → SeedGiven x ≡ SeedGiven y → x ≡ y
same_seed x y e = cc

one_count : (words : List (List ℕ)) (a b : ℕ) → AreAllRead words → IsPartGiven words (TurnsAtMost a) → IsPartGiven words (TurnsAtMost b) → a ≡ b
one_count words a b read x y = let e = one_given words (length words) (TurnsAtMost a) (TurnsAtMost b) read refl x y in cc

one_number : {words : List (List ℕ)} {a b : ℕ} → AreAllRead words → AskTurns words a → AskTurns words b → a ≡ b
one_number {words = words} read (turns_given a x) (turns_given b y) = one_count words a b read x y
one_number read (turns_given a x) (turns_usual none) = absurd (none a x)
one_number read (turns_usual none) (turns_given b y) = absurd (none b y)
one_number read (turns_usual none) (turns_usual other) = refl

-- a part with an answer, in which an answer is known by its part
one_answer : {words : List (List ℕ)} {part : Bool → Part} {a b : Bool} → ((x y : Bool) → part x ≡ part y → x ≡ y) →
    ((x y : Bool) → key_of (part x) ≡ key_of (part y)) → AreAllRead words → AskAnswer words part a → AskAnswer words part b → a ≡ b
one_answer {words = words} {part = part} same key read (answer_given a x) (answer_given b y) =
    same a b (one_given words (length words) (part a) (part b) read (key a b) x y)
one_answer same key read (answer_given a x) (answer_missing none) = absurd (none a x)
one_answer same key read (answer_missing none) (answer_given b y) = absurd (none b y)
one_answer same key read (answer_missing none) (answer_missing other) = refl

same_pins : (x y : Bool) → PinsWritten x ≡ PinsWritten y → x ≡ y
same_pins x y e = cc

same_report : (x y : Bool) → DevicesReported x ≡ DevicesReported y → x ≡ y
same_report x y e = cc

-- a part with a list of names, in which a list is known by its part
one_list : {words : List (List ℕ)} {part : List (List ℕ) → Part} {a b : List (List ℕ)} → ((x y : List (List ℕ)) → part x ≡ part y → x ≡ y) →
    ((x y : List (List ℕ)) → key_of (part x) ≡ key_of (part y)) → AreAllRead words → AskNames words part a → AskNames words part b → a ≡ b
one_list {words = words} {part = part} same key read (names_given a x) (names_given b y) =
    same a b (one_given words (length words) (part a) (part b) read (key a b) x y)
one_list same key read (names_given a x) (names_missing none) = absurd (none a x)
one_list same key read (names_missing none) (names_given b y) = absurd (none b y)
one_list same key read (names_missing none) (names_missing other) = refl

same_asked : (x y : List (List ℕ)) → NamesAsked x ≡ NamesAsked y → x ≡ y
same_asked x y e = cc

same_skipped : (x y : List (List ℕ)) → NamesSkipped x ≡ NamesSkipped y → x ≡ y
same_skipped x y e = cc

same_asked_parts : {n o : List ℕ} {d e s r : List (List ℕ)} {l h : Option PlaceRun} {t u : ℕ} {v w f g : Bool} →
    n ≡ o → d ≡ e → s ≡ r → l ≡ h → t ≡ u → v ≡ w → f ≡ g →
    ◌≡◌ {A = PlayRequest}
    (record { action = n; todo = d; skip = s; place = l; turns = t; pins = v; report = f })
    (record { action = o; todo = e; skip = r; place = h; turns = u; pins = w; report = g })
same_asked_parts i j k l m n o = cc

same_play_parts : {b c s r : List ℕ} {p q : PlayRequest} → b ≡ c → s ≡ r → p ≡ q →
    ◌≡◌ {A = FilePlay} (record { board = b; source = s; request = p }) (record { board = c; source = r; request = q })
same_play_parts i j k = cc

one_play_request : {words : List (List ℕ)} (a b : PlayRequest) → AreAllRead words → AskPlayRequest words a → AskPlayRequest words b → a ≡ b
one_play_request {words = words} a b read x y =
    same_asked_parts (one_value ActionNamed same_action (λ p q. refl) read a.action b.action x.action_named y.action_named)
    (one_list same_asked (λ p q. refl) read x.todo_asked y.todo_asked)
    (one_list same_skipped (λ p q. refl) read x.skip_asked y.skip_asked)
    (same_given same_place a.place b.place (one_of words Place _ _ read x.place_asked y.place_asked))
    (one_number read x.turns_asked y.turns_asked)
    (one_answer same_pins (λ p q. refl) read x.pins_asked y.pins_asked)
    (one_answer same_report (λ p q. refl) read x.report_asked y.report_asked)

one_play : {words : List (List ℕ)} (part : List ℕ → Part) → ((x y : List ℕ) → part x ≡ part y → x ≡ y) → ((x y : List ℕ) → key_of (part x) ≡ key_of (part y)) → (a b : FilePlay) →
    AreAllRead words → GivePlay words part a → GivePlay words part b → a ≡ b
one_play part known key a b read x y =
    same_play_parts (one_value BoardIn same_board (λ p q. refl) read a.board b.board x.board_given y.board_given)
    (one_value part known key read a.source b.source x.source_given y.source_given)
    (one_play_request a.request b.request read x.asked y.asked)

one_program : {words : List (List ℕ)} (a b : List ℕ) → AreAllRead words → IsPartGiven words (ProgramIn a) → IsPartGiven words (ProgramIn b) → a ≡ b
one_program a b read x y = one_value ProgramIn same_program (λ p q. refl) read a b x y

same_request : {words : List (List ℕ)} (a b : Request) → AreAllRead words → mode_of a ≡ mode_of b → Give words a → Give words b → a ≡ b
same_request (requests.Play p) (requests.Play q) read e x y = ap requests.Play (one_play ProgramIn same_program (λ p q. refl) p q read x y)
same_request (requests.Run p) (requests.Run q) read e x y = ap requests.Run (one_play CodeIn same_code (λ p q. refl) p q read x y)
same_request (requests.Check p) (requests.Check q) read e x y = ap requests.Check (one_program p q read x y)
same_request (requests.List p) (requests.List q) read e x y = ap requests.List (one_program p q read x y)
same_request (requests.Compile p) (requests.Compile q) read e x y = ap requests.Compile (one_program p q read x y)
same_request (requests.Soak p) (requests.Soak q) read e x y = ap requests.Soak (one_value SeedGiven same_seed (λ p q. refl) read p q x y)
same_request a b read e x y = absurd cc

pub one_request : {words : List (List ℕ)} {a b : Request} → IsRequest words a → IsRequest words b → a ≡ b
one_request {words = words} {a = a} {b = b} x y = same_request a b x.read (one_mode words (mode_of a) (mode_of b) x.mode y.mode) x.gives y.gives

pub one_usage : {words : List (List ℕ)} {n m : ℕ} → IsUsage words n → IsUsage words m → n ≡ m
one_usage (is_unread i f) (is_unread j g) =
    elim (cases_lt i j) [
      | inl lt ↦ absurd (f.unread (g.before i lt))
      | inr le ↦ elim (cases_lt j i) [ inl lt ↦ absurd (g.unread (f.before j lt)) | inr ge ↦ omega arith ]
    ]
one_usage (is_unread i f) (is_missing read lack) = absurd (f.unread (read i f.within))
one_usage (is_missing read lack) (is_unread i f) = absurd (f.unread (read i f.within))
one_usage (is_missing read lack) (is_missing read2 lack2) = refl

no_word : (mode : Mode) → HasMode [] mode → ⊥
no_word modes.Play e = cc
no_word modes.Check e = cc
no_word modes.List e = cc
no_word modes.Compile e = cc
no_word modes.Run e = cc
no_word modes.Soak e = cc

-- a request gives each key that its mode needs
is_key : {words : List (List ℕ)} (part : Part) → IsPartGiven words part → IsKeyGiven words (key_of part)
is_key part given = record { part = part; of_key = refl; given = given }

needed_given : {words : List (List ℕ)} (request : Request) (key : WordKey) → Give words request → needs (mode_of request) key ≡ true → IsKeyGiven words key
needed_given (requests.Play play) Board g e = is_key (BoardIn play.board) g.board_given
needed_given (requests.Play play) Program g e = is_key (ProgramIn play.source) g.source_given
needed_given (requests.Play play) Action g e = is_key (ActionNamed play.request.action) g.asked.action_named
needed_given (requests.Run play) Board g e = is_key (BoardIn play.board) g.board_given
needed_given (requests.Run play) Code g e = is_key (CodeIn play.source) g.source_given
needed_given (requests.Run play) Action g e = is_key (ActionNamed play.request.action) g.asked.action_named
needed_given (requests.Check path) Program g e = is_key (ProgramIn path) g
needed_given (requests.List path) Program g e = is_key (ProgramIn path) g
needed_given (requests.Compile path) Program g e = is_key (ProgramIn path) g
needed_given (requests.Soak seed) Seed g e = is_key (SeedGiven seed) g
needed_given request key g e = absurd cc

no_lack : {words : List (List ℕ)} {request : Request} → IsRequest words request → Lack words → ⊥
no_lack {request = request} r (lack_mode e) = no_word (mode_of request) (subst (λ (ws : List (List ℕ)). HasMode ws (mode_of request)) e r.mode)
no_lack {words = words} {request = request} r (lack_key mode key has needed missing) =
    missing (needed_given request key r.gives (ap (λ (m : Mode). needs m key) (one_mode words (mode_of request) mode r.mode has) ∙ needed))

pub no_usage : {words : List (List ℕ)} {request : Request} {n : ℕ} → IsRequest words request → IsUsage words n → ⊥
no_usage r (is_unread i f) = f.unread (r.read i f.within)
no_usage r (is_missing read lack) = no_lack r lack

-- The run of places that a request names is in order.

in_order : {spelling : List ℕ} {run : PlaceRun} → SpellsRun most_place spelling run → (1 ≤ run.first) × (run.first ≤ run.last) × (run.last ≤ most_place)
in_order {run = run} (of_one x e) = (x.enough, omega (arith, e), subst (λ (n : ℕ). n ≤ most_place) (sym e) x.few)
in_order (of_two front back e x y) = (x.enough, y.enough, y.few)

placed_in_order : {words : List (List ℕ)} (asked : PlayRequest) (run : PlaceRun) → AskPlayRequest words asked → asked.place ≡ Some run →
    (1 ≤ run.first) × (run.first ≤ run.last) × (run.last ≤ most_place)
placed_in_order {words = words} asked run a e =
    let given : GiveOf words (length words) Place (Some (PlaceAsked run)) =
    subst (λ (p : Option PlaceRun). GiveOf words (length words) Place (option_map PlaceAsked p)) e a.place_asked in
    in_order given.1.gives.spells

same_place_asked : {p q : FilePlay} {run : PlaceRun} → Some p ≡ Some q → q.request.place ≡ Some run → p.request.place ≡ Some run
same_place_asked {p = p} {q = q} {run = run} e f = subst (λ (z : FilePlay). z.request.place ≡ Some run) (sym (same_Some p q e)) f

pub named_run : (words : List (List ℕ)) (request : Request) (play : FilePlay) (run : PlaceRun) → IsRequest words request → file_play_of request ≡ Some play →
    play.request.place ≡ Some run → (1 ≤ run.first) × (run.first ≤ run.last) × (run.last ≤ most_place)
named_run words (requests.Play p) play run is e f = placed_in_order p.request run is.gives.asked (same_place_asked e f)
named_run words (requests.Run p) play run is e f = placed_in_order p.request run is.gives.asked (same_place_asked e f)
named_run words request play run is e f = absurd cc
