-- What the reader of words keeps of the words that it has read.
use Rattle.std.specs.Prelude.{◌≡◌, ℕ, ◌+◌, ◌≤◌, Bool, true, false, ◌&&◌, not, List, Option, None, Some, is_some}
use Rattle.std.specs.Option.{option_map}
use Rattle.command_words.specs.declared.place_run.PlaceRun.{PlaceRun}
use Rattle.command_words.specs.KeyedWords.{names_in, names_or_none}
use Rattle.play_words.specs.declared.mode.Mode.{Mode}
use Rattle.play_words.specs.declared.mode.WordKey.{WordKey}
use Rattle.play_words.specs.declared.mode.WordKey.TheVariants.{Board, Program, Code, Action, Do, Skip, Place, Turns, Pins, Report, Seed}
use Rattle.play_words.specs.declared.words.Given.{Given}
use Rattle.play_words.specs.declared.words.GivenPart.{GivenPart}
use Rattle.play_words.specs.declared.words.GivenPart.TheVariants as given
use Rattle.play_words.specs.declared.mode.Mode.TheVariants as modes
use Rattle.play_words.specs.declared.requests.PlayRequest.{PlayRequest}
use Rattle.play_words.specs.declared.requests.FilePlay.{FilePlay}
use Rattle.play_words.specs.declared.requests.Request.{Request}
use Rattle.play_words.specs.declared.requests.Request.TheVariants as requests
use Rattle.play_words.specs.Words.{Part, BoardIn, ProgramIn, CodeIn, ActionNamed, NamesAsked, NamesSkipped, PlaceAsked, TurnsAtMost, PinsWritten, DevicesReported, SeedGiven, key_of, usual_turns, takes, needs, GivesPart, HasMode, GiveOf, AreReadBefore}

-- the mode, and the values that are given, by key
pub record Values : Type 0 where
  pub mode : Mode
  pub board : Option (List ℕ)
  pub program : Option (List ℕ)
  pub code : Option (List ℕ)
  pub action : Option (List ℕ)
  pub todo : Option (List (List ℕ))
  pub skip : Option (List (List ℕ))
  pub place : Option PlaceRun
  pub turns : Option ℕ
  pub pins : Option Bool
  pub report : Option Bool
  pub seed : Option ℕ

abbrev pub values_of : Given → Values
values_of given = record {
  mode = given.mode;
  board = option_map (λ path. path.now) given.board;
  program = option_map (λ path. path.now) given.program;
  code = option_map (λ path. path.now) given.code;
  action = given.action;
  todo = option_map (λ spelling. names_in spelling.now) given.todo;
  skip = option_map (λ spelling. names_in spelling.now) given.skip;
  place = given.place;
  turns = given.turns;
  pins = given.pins;
  report = given.report;
  seed = given.seed;
}

-- the part of the request that a word gives
abbrev pub part_of : GivenPart → Part
part_of (given.Board path) = BoardIn path.now
part_of (given.Program path) = ProgramIn path.now
part_of (given.Code path) = CodeIn path.now
part_of (given.Action name) = ActionNamed name
part_of (given.Do spelling) = NamesAsked (names_in spelling.now)
part_of (given.Skip spelling) = NamesSkipped (names_in spelling.now)
part_of (given.Place run) = PlaceAsked run
part_of (given.Turns n) = TurnsAtMost n
part_of (given.Pins written) = PinsWritten written
part_of (given.Report reported) = DevicesReported reported
part_of (given.Seed n) = SeedGiven n

-- the part that is given of a key
abbrev pub given_of : Values → WordKey → Option Part
given_of values Board = option_map BoardIn values.board
given_of values Program = option_map ProgramIn values.program
given_of values Code = option_map CodeIn values.code
given_of values Action = option_map ActionNamed values.action
given_of values Do = option_map NamesAsked values.todo
given_of values Skip = option_map NamesSkipped values.skip
given_of values Place = option_map PlaceAsked values.place
given_of values Turns = option_map TurnsAtMost values.turns
given_of values Pins = option_map PinsWritten values.pins
given_of values Report = option_map DevicesReported values.report
given_of values Seed = option_map SeedGiven values.seed

-- the values with those of one part more
abbrev pub with_part : Values → Part → Values
with_part values (BoardIn path) = record values { board = Some path }
with_part values (ProgramIn path) = record values { program = Some path }
with_part values (CodeIn path) = record values { code = Some path }
with_part values (ActionNamed name) = record values { action = Some name }
with_part values (NamesAsked names) = record values { todo = Some names }
with_part values (NamesSkipped names) = record values { skip = Some names }
with_part values (PlaceAsked run) = record values { place = Some run }
with_part values (TurnsAtMost n) = record values { turns = Some n }
with_part values (PinsWritten written) = record values { pins = Some written }
with_part values (DevicesReported reported) = record values { report = Some reported }
with_part values (SeedGiven n) = record values { seed = Some n }

-- the mode takes the key of a part, and it is not given
abbrev pub is_open : Values → Part → Bool
is_open values part = takes values.mode (key_of part) && not (is_some (given_of values (key_of part)))

-- a part more, whose key the mode takes and which was free
pub record AddsPart (old : Values) (part : Part) (new : Values) : Type 0 where
  pub taken : takes old.mode (key_of part) ≡ true
  pub free : given_of old (key_of part) ≡ None
  pub added : new ≡ with_part old part

-- Why a part is not added: the mode does not take its key, or that is given already.
pub data Refuses (values : Values) (part : Part) : Type 0 where
  not_taken : takes values.mode (key_of part) ≡ false → Refuses values part
  given_already : (other : Part) → given_of values (key_of part) ≡ Some other → Refuses values part

-- The word gives no part.
pub record GivesNoPart (word : List ℕ) : Type 0 where
  pub none : (part : Part) → GivesPart word part → ⊥

-- The word gives a part more.
pub record AddsWord (old : Values) (word : List ℕ) (new : Values) : Type 0 where
  pub part : Part
  pub gives : GivesPart word part
  pub adds : AddsPart old part new

-- The word gives no part that is added.
pub record AddsNothing (values : Values) (word : List ℕ) : Type 0 where
  pub refused : (part : Part) → GivesPart word part → Refuses values part

-- how many values are given
abbrev pub one_if_some : {A : Type 0} → Option A → ℕ
one_if_some None = 0
one_if_some (Some x) = 1

abbrev pub count_of : Values → ℕ
count_of values =
    one_if_some values.board + one_if_some values.program + one_if_some values.code + one_if_some values.action + one_if_some values.todo
    + one_if_some values.skip + one_if_some values.place + one_if_some values.turns + one_if_some values.pins + one_if_some values.report
    + one_if_some values.seed

-- The first n words are read, and they give these values.
pub record AreReadUpTo (words : List (List ℕ)) (n : ℕ) (values : Values) : Type 0 where
  pub mode : HasMode words values.mode
  pub read : AreReadBefore words n
  pub give : (key : WordKey) → GiveOf words n key (given_of values key)
  pub few : n ≤ 1 + count_of values

-- A key that the mode needs is not given.
pub record LacksKey (values : Values) : Type 0 where
  pub key : WordKey
  pub needed : needs values.mode key ≡ true
  pub missing : given_of values key ≡ None

-- the number of turns that is given, or the usual one
abbrev pub turns_or_usual : Option ℕ → ℕ
turns_or_usual None = usual_turns
turns_or_usual (Some n) = n

-- the answer that is given, and a no if none is
abbrev pub answer_or_no : Option Bool → Bool
answer_or_no None = false
answer_or_no (Some answer) = answer

-- what is asked of a play, with these values
pub record HasPlayValues (values : Values) (request : PlayRequest) : Type 0 where
  pub action_named : values.action ≡ Some request.action
  pub todo_are : request.todo ≡ names_or_none values.todo
  pub skip_are : request.skip ≡ names_or_none values.skip
  pub place_is : request.place ≡ values.place
  pub turns_are : request.turns ≡ turns_or_usual values.turns
  pub pins_are : request.pins ≡ answer_or_no values.pins
  pub report_is : request.report ≡ answer_or_no values.report

-- the play of the file at this path, with these values
pub record HasFileValues (values : Values) (path : Option (List ℕ)) (play : FilePlay) : Type 0 where
  pub board_named : values.board ≡ Some play.board
  pub source_named : path ≡ Some play.source
  pub asked : HasPlayValues values play.request

-- What a play of the file at this path lacks of these values: the board, the file, or the action.
pub data LacksPlay (values : Values) (path : Option (List ℕ)) : Type 0 where
  no_board : values.board ≡ None → LacksPlay values path
  no_source : path ≡ None → LacksPlay values path
  no_action : values.action ≡ None → LacksPlay values path

-- the request with these values
abbrev pub HasValues : Values → Request → Type 0
HasValues values (requests.Play play) = (values.mode ≡ modes.Play) × HasFileValues values values.program play
HasValues values (requests.Run play) = (values.mode ≡ modes.Run) × HasFileValues values values.code play
HasValues values (requests.Check path) = (values.mode ≡ modes.Check) × (values.program ≡ Some path)
HasValues values (requests.List path) = (values.mode ≡ modes.List) × (values.program ≡ Some path)
HasValues values (requests.Compile path) = (values.mode ≡ modes.Compile) × (values.program ≡ Some path)
HasValues values (requests.Soak seed) = (values.mode ≡ modes.Soak) × (values.seed ≡ Some seed)
