-- The words of a command: the mode, and after it keys with their values, in any order. The rules are this tool's own.
use Rattle.std.specs.Prelude.{◌≡◌, ◌≢◌, ℕ, ◌+◌, ◌<◌, ◌≤◌, List, [], ◌∷◌, Bool, true, false, length, codes, suc, zero, slice_index_or, Option, None, Some}
use Rattle.std.specs.List.{list_any}
use Rattle.std.specs.Option.{option_map}
use Rattle.command_words.specs.declared.place_run.PlaceRun.{PlaceRun}
use Rattle.command_words.specs.KeyedWords.{most_place, NamesPath, NamesFreeName, NamesList, NamesNumber, NamesRun, SaysAnswer}
use Rattle.play_words.specs.declared.mode.Mode.{Mode}
use Rattle.play_words.specs.declared.mode.Mode.TheVariants as modes
use Rattle.play_words.specs.declared.mode.WordKey.{WordKey}
use Rattle.play_words.specs.declared.mode.WordKey.TheVariants.{Board, Program, Code, Action, Do, Skip, Place, Turns, Pins, Report, Seed}
use Rattle.play_words.specs.declared.requests.PlayRequest.{PlayRequest}
use Rattle.play_words.specs.declared.requests.FilePlay.{FilePlay}
use Rattle.play_words.specs.declared.requests.Request.{Request}
use Rattle.play_words.specs.declared.requests.Request.TheVariants as requests
use Rattle.play_words.specs.declared.words.WordsRefused.{WordsRefused}
use Rattle.play_words.specs.declared.words.WordsRefused.TheVariants as refusals

-- the word of a mode
abbrev pub mode_word : Mode → List ℕ
mode_word modes.Play = codes "play"
mode_word modes.Check = codes "check"
mode_word modes.List = codes "list"
mode_word modes.Compile = codes "compile"
mode_word modes.Run = codes "run"
mode_word modes.Soak = codes "soak"

-- the keys that a mode takes
abbrev pub keys_taken : Mode → List WordKey
keys_taken modes.Play = Board ∷ Program ∷ Action ∷ Do ∷ Skip ∷ Place ∷ Turns ∷ Pins ∷ Report ∷ []
keys_taken modes.Check = Program ∷ []
keys_taken modes.List = Program ∷ []
keys_taken modes.Compile = Program ∷ []
keys_taken modes.Run = Board ∷ Code ∷ Action ∷ Do ∷ Skip ∷ Place ∷ Turns ∷ Pins ∷ Report ∷ []
keys_taken modes.Soak = Seed ∷ []

-- the keys that a mode cannot do without
abbrev pub keys_needed : Mode → List WordKey
keys_needed modes.Play = Board ∷ Program ∷ Action ∷ []
keys_needed modes.Check = Program ∷ []
keys_needed modes.List = Program ∷ []
keys_needed modes.Compile = Program ∷ []
keys_needed modes.Run = Board ∷ Code ∷ Action ∷ []
keys_needed modes.Soak = Seed ∷ []

abbrev pub is_same_key : WordKey → WordKey → Bool
is_same_key Board Board = true
is_same_key Program Program = true
is_same_key Code Code = true
is_same_key Action Action = true
is_same_key Do Do = true
is_same_key Skip Skip = true
is_same_key Place Place = true
is_same_key Turns Turns = true
is_same_key Pins Pins = true
is_same_key Report Report = true
is_same_key Seed Seed = true
is_same_key _ _ = false

-- the mode takes this key
abbrev pub takes : Mode → WordKey → Bool
takes mode key = list_any (is_same_key key) (keys_taken mode)

-- the mode cannot do without it
abbrev pub needs : Mode → WordKey → Bool
needs mode key = list_any (is_same_key key) (keys_needed mode)

-- What a word after the mode gives: a part of the request.
pub data Part : Type 0 where
  BoardIn : (path : List ℕ) → Part
  ProgramIn : (path : List ℕ) → Part
  CodeIn : (path : List ℕ) → Part
  ActionNamed : (name : List ℕ) → Part
  NamesAsked : (names : List (List ℕ)) → Part
  NamesSkipped : (names : List (List ℕ)) → Part
  PlaceAsked : (run : PlaceRun) → Part
  TurnsAtMost : (n : ℕ) → Part
  PinsWritten : (written : Bool) → Part
  DevicesReported : (reported : Bool) → Part
  SeedGiven : (n : ℕ) → Part

abbrev pub key_of : Part → WordKey
key_of (BoardIn path) = Board
key_of (ProgramIn path) = Program
key_of (CodeIn path) = Code
key_of (ActionNamed name) = Action
key_of (NamesAsked names) = Do
key_of (NamesSkipped names) = Skip
key_of (PlaceAsked run) = Place
key_of (TurnsAtMost n) = Turns
key_of (PinsWritten written) = Pins
key_of (DevicesReported reported) = Report
key_of (SeedGiven n) = Seed

-- the most turns that words may ask for, and how many there are where they ask for none
abbrev pub most_turns : ℕ
most_turns = 1000000000

abbrev pub usual_turns : ℕ
usual_turns = 100000000

-- the greatest number that a soak is made from
abbrev pub most_seed : ℕ
most_seed = 4294967295

-- the word gives this part
abbrev pub GivesPart : List ℕ → Part → Type 0
GivesPart word (BoardIn path) = NamesPath (codes "board=") word path
GivesPart word (ProgramIn path) = NamesPath (codes "program=") word path
GivesPart word (CodeIn path) = NamesPath (codes "code=") word path
GivesPart word (ActionNamed name) = NamesFreeName (codes "action=") word name
GivesPart word (NamesAsked names) = NamesList (codes "do=") word names
GivesPart word (NamesSkipped names) = NamesList (codes "skip=") word names
GivesPart word (PlaceAsked run) = NamesRun (codes "place=") most_place word run
GivesPart word (TurnsAtMost n) = NamesNumber (codes "turns=") 0 most_turns word n
GivesPart word (PinsWritten written) = SaysAnswer (codes "pins=") word written
GivesPart word (DevicesReported reported) = SaysAnswer (codes "report=") word reported
GivesPart word (SeedGiven n) = NamesNumber (codes "seed=") 0 most_seed word n

-- the word at a place, counted from 0
abbrev pub word_at : List (List ℕ) → ℕ → List ℕ
word_at words place = slice_index_or words place []

-- the first word is that of this mode
abbrev pub HasMode : List (List ℕ) → Mode → Type 0
HasMode words mode = word_at words 0 ≡ mode_word mode

-- One of the first n words, after the mode, gives this part.
pub record IsGivenBefore (words : List (List ℕ)) (n : ℕ) (part : Part) : Type 0 where
  pub place : ℕ
  pub after : 0 < place
  pub before : place < n
  pub gives : GivesPart (word_at words place) part

-- The word at this place gives a part whose key the mode takes, and no word before it gives one of the same key.
pub record GivesNew (mode : Mode) (words : List (List ℕ)) (place : ℕ) : Type 0 where
  pub part : Part
  pub gives : GivesPart (word_at words place) part
  pub taken : takes mode (key_of part) ≡ true
  pub new : (other : Part) → IsGivenBefore words place other → key_of other ≢ key_of part

-- The word at a place is read: the first one is that of a mode, and each other one gives a new part of a request of
-- that mode.
abbrev pub IsWordRead : List (List ℕ) → ℕ → Type 0
IsWordRead words zero = (mode : Mode) × HasMode words mode
IsWordRead words (suc place) = (mode : Mode) × HasMode words mode × GivesNew mode words (suc place)

-- each of the first n words is read
abbrev pub AreReadBefore : List (List ℕ) → ℕ → Type 0
AreReadBefore words n = (place : ℕ) → place < n → IsWordRead words place

abbrev pub AreAllRead : List (List ℕ) → Type 0
AreAllRead words = AreReadBefore words (length words)

-- one of the words gives this part
abbrev pub IsPartGiven : List (List ℕ) → Part → Type 0
IsPartGiven words part = IsGivenBefore words (length words) part

-- one of the words gives a part of this key
pub record IsKeyGiven (words : List (List ℕ)) (key : WordKey) : Type 0 where
  pub part : Part
  pub of_key : key_of part ≡ key
  pub given : IsPartGiven words part

-- one of the first n words gives this part of a key, or none of them gives one
abbrev pub GiveOf : List (List ℕ) → ℕ → WordKey → Option Part → Type 0
GiveOf words n key None = (part : Part) → key_of part ≡ key → IsGivenBefore words n part → ⊥
GiveOf words n key (Some part) = (key_of part ≡ key) × IsGivenBefore words n part

-- The words ask for so many turns, or they ask for none, and it is the usual number.
pub data AskTurns (words : List (List ℕ)) : ℕ → Type 0 where
  turns_given : (n : ℕ) → IsPartGiven words (TurnsAtMost n) → AskTurns words n
  turns_usual : ((n : ℕ) → IsPartGiven words (TurnsAtMost n) → ⊥) → AskTurns words usual_turns

-- The words give a yes or a no, as a part of this form, or they give none, and it is a no.
pub data AskAnswer (words : List (List ℕ)) (part : Bool → Part) : Bool → Type 0 where
  answer_given : (answer : Bool) → IsPartGiven words (part answer) → AskAnswer words part answer
  answer_missing : ((answer : Bool) → IsPartGiven words (part answer) → ⊥) → AskAnswer words part false

-- The words give these names, as a part of this form, or they give none.
pub data AskNames (words : List (List ℕ)) (part : List (List ℕ) → Part) : List (List ℕ) → Type 0 where
  names_given : (names : List (List ℕ)) → IsPartGiven words (part names) → AskNames words part names
  names_missing : ((names : List (List ℕ)) → IsPartGiven words (part names) → ⊥) → AskNames words part []

-- The words ask for this of a play.
pub record AskPlayRequest (words : List (List ℕ)) (request : PlayRequest) : Type 0 where
  pub action_named : IsPartGiven words (ActionNamed request.action)
  pub todo_asked : AskNames words NamesAsked request.todo
  pub skip_asked : AskNames words NamesSkipped request.skip
  pub place_asked : GiveOf words (length words) Place (option_map PlaceAsked request.place)
  pub turns_asked : AskTurns words request.turns
  pub pins_asked : AskAnswer words PinsWritten request.pins
  pub report_asked : AskAnswer words DevicesReported request.report

-- The words name the board of a play, and by this part the file of what is played, and ask for this of it.
pub record GivePlay (words : List (List ℕ)) (part : List ℕ → Part) (play : FilePlay) : Type 0 where
  pub board_given : IsPartGiven words (BoardIn play.board)
  pub source_given : IsPartGiven words (part play.source)
  pub asked : AskPlayRequest words play.request

-- the mode of a request
abbrev pub mode_of : Request → Mode
mode_of (requests.Play play) = modes.Play
mode_of (requests.Run play) = modes.Run
mode_of (requests.Check path) = modes.Check
mode_of (requests.List path) = modes.List
mode_of (requests.Compile path) = modes.Compile
mode_of (requests.Soak seed) = modes.Soak

-- The words give what a request has.
abbrev pub Give : List (List ℕ) → Request → Type 0
Give words (requests.Play play) = GivePlay words ProgramIn play
Give words (requests.Run play) = GivePlay words CodeIn play
Give words (requests.Check path) = IsPartGiven words (ProgramIn path)
Give words (requests.List path) = IsPartGiven words (ProgramIn path)
Give words (requests.Compile path) = IsPartGiven words (ProgramIn path)
Give words (requests.Soak seed) = IsPartGiven words (SeedGiven seed)

-- The words ask for this: the first of them is its mode, each is read, and they give what it has.
pub record IsRequest (words : List (List ℕ)) (request : Request) : Type 0 where
  pub read : AreAllRead words
  pub mode : HasMode words (mode_of request)
  pub gives : Give words request

-- the files of a play: its board at the first place, and at the second what is played
abbrev pub play_files : FilePlay → List (Option (List ℕ))
play_files play = Some play.board ∷ Some play.source ∷ []

-- the files that a request names, each at its place
abbrev pub files_of : Request → List (Option (List ℕ))
files_of (requests.Play play) = play_files play
files_of (requests.Run play) = play_files play
files_of (requests.Check path) = Some path ∷ []
files_of (requests.List path) = Some path ∷ []
files_of (requests.Compile path) = Some path ∷ []
files_of (requests.Soak seed) = []

-- the request asks for a play
abbrev pub plays : Request → Bool
plays (requests.Play play) = true
plays (requests.Run play) = true
plays (requests.Check path) = false
plays (requests.List path) = false
plays (requests.Compile path) = false
plays (requests.Soak seed) = true

-- the play of a file that a request asks for, if it asks for one
abbrev pub file_play_of : Request → Option FilePlay
file_play_of (requests.Play play) = Some play
file_play_of (requests.Run play) = Some play
file_play_of _ = None

-- The words lack the mode, or a key that it needs.
pub data Lack (words : List (List ℕ)) : Type 0 where
  lack_mode : words ≡ [] → Lack words
  lack_key : (mode : Mode) (key : WordKey) → HasMode words mode → needs mode key ≡ true → (IsKeyGiven words key → ⊥) → Lack words

-- The word at this place is the first that is not read.
pub record IsFirstUnread (words : List (List ℕ)) (place : ℕ) : Type 0 where
  pub within : place < length words
  pub before : AreReadBefore words place
  pub unread : IsWordRead words place → ⊥

-- The first word, counted from 1, that is not read; or, where all words are read and the mode or a needed key is
-- missing, the number of words plus 1.
pub data IsUsage (words : List (List ℕ)) : ℕ → Type 0 where
  is_unread : (place : ℕ) → IsFirstUnread words place → IsUsage words (place + 1)
  is_missing : AreAllRead words → Lack words → IsUsage words (length words + 1)

-- why words are refused; want of memory needs no cause
abbrev pub IsWordsRefused : List (List ℕ) → WordsRefused → Type 0
IsWordsRefused words (refusals.Usage n) = IsUsage words n
IsWordsRefused words refusals.Memory = Unit {0}

-- the word that is refused is among the first thirteen, if one is
abbrev pub IsAmongFirst : WordsRefused → Type 0
IsAmongFirst (refusals.Usage n) = n ≤ 13
IsAmongFirst refusals.Memory = Unit {0}
