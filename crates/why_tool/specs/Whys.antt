-- The answer to `--why` and the words of a command. The rules are this tool's own.
use Rattle.std.specs.Prelude.{◌≡◌, ℕ, pos, Bool, true, false, ◌||◌, List, [], ◌∷◌, codes, map, Option, None, Some, is_some, Result, IfOk}
use Rattle.std.specs.Str.{bytes_eq}
use Rattle.soak_texts.specs.Boards.{soak_board}
use Rattle.soak_texts.specs.Soak.{soak_program}
use Rattle.tool_io.specs.Causes.{HasRisenAt, NoneFalls}
use Rattle.tool_io.specs.declared.outside.Shelf.{Ghosts as ShelfOf}
use Rattle.tool_frame.specs.Files.{first_of, second_of, PicksNamed}
use Rattle.tool_frame.specs.declared.no_answer.NoAnswer.{NoAnswer}
use Rattle.play_words.specs.declared.requests.Request.{Request}
use Rattle.play_words.specs.declared.requests.Request.TheVariants as requests
use Rattle.dev_card.specs.declared.desc.Desc.{Desc}
use Rattle.board_text.specs.Boards.{IsBoard}
use Rattle.play_words.specs.Words.{IsRequest, IsUsage}
use Rattle.play_words.specs.Statuses.{ComesBeforeFitting}
use Rattle.play_words.specs.declared.help.TheConstants.{HELP, VERSION}
use Rattle.play_words.specs.declared.status.Status.{Status}
use Rattle.play_words.specs.declared.status.Status.TheVariants.{Done}
use Rattle.play_tool.specs.declared.sources.Source.{Source}
use Rattle.play_tool.specs.declared.sources.Source.TheVariants.{Program, Code}
use Rattle.play_tool.specs.Answers.{RequestAnswer}
use Rattle.tool_frame.specs.Commands.{text_asked}
use Rattle.tool_questions.specs.Questions as questions
use Rattle.tool_questions.specs.Questions.{ask_question}
use Rattle.why_tool.specs.Texts.{unread_text, IsUsageTold}
use Rattle.why_tool.specs.Told.{Known, known_with, known_alone, Tells}

-- An answer of these has this status.
pub record HasAnswer (answers : List ℕ → Status → Type 0) (status : Status) : Type 0 where
  pub text : List ℕ
  pub answer : answers text status

-- Words are refused at this one, and that is said.
pub record IsWordTold (n : ℕ) (words : List (List ℕ)) (said : List ℕ) (ending : Status) : Type 0 where
  pub told : IsUsageTold n words said
  pub done : ending ≡ Done (pos 0)

-- The answer to a command is explained: it has an answer of these, and this is said of its status, by what is known.
pub record Explains (answers : List ℕ → Status → Type 0) (known : Known) (said : List ℕ) (ending : Status) : Type 0 where
  pub status : Status
  pub has : HasAnswer answers status
  pub tells : Tells known status said ending

-- A file is reached, and cannot be read: the count of its name rose, or stands at its last value.
pub record IsUnread {S : Type 0} (shelf : ShelfOf S) (reached : List ℕ → Type 0) (before after : S) (path : List ℕ) : Type 0 where
  pub is_reached : reached path
  pub rose : HasRisenAt shelf.faults shelf.is_last path before after

-- What is played on these bytes is reached, as they are a board.
pub record IsPlayed (board source path : List ℕ) : Type 0 where
  pub path_is : path ≡ source
  pub devices : List Desc
  pub is_board : IsBoard board devices

-- That the file of this path cannot be read is said.
pub record IsUnreadTold (path said : List ℕ) (ending : Status) : Type 0 where
  pub said_is : said ≡ unread_text path
  pub done : ending ≡ Done (pos 0)

-- The same, or one of the files that are reached and cannot be read is named.
pub data Reads (unread : List ℕ → Type 0) (explains : List ℕ → Status → Type 0) (said : List ℕ) (ending : Status) : Type 0 where
  cannot : (path : List ℕ) → unread path → IsUnreadTold path said ending → Reads unread explains said ending
  did : explains said ending → Reads unread explains said ending

-- The store tells the same files, no count fell, and of the files that are named some in front were picked, each once and
-- in order, and no other file was.
pub record KeepsFiles {S : Type 0} (shelf : ShelfOf S) (names : List (Option (List ℕ)) → Type 0) (before after : S) : Type 0 where
  pub keeps : shelf.told after ≡ shelf.told before
  pub later : NoneFalls shelf.faults shelf.is_last before after
  pub once : PicksNamed names (shelf.picks before) (shelf.picks after)

-- Each device keeps its kind, and all stay as they were after a status whose cause comes before a board is fitted.
pub record KeepsKinds {D Kind : Type 0} (kind_of : D → Kind) (before after : List D) (result : Result Status NoAnswer) : Type 0 where
  pub kinds : map kind_of after ≡ map kind_of before
  pub early : IfOk result (λ status. ComesBeforeFitting status → after ≡ before)

-- the program of a play, if what is played is one
abbrev pub program_at : Source → Option (List ℕ) → Option (List ℕ)
program_at Program held = held
program_at Code held = None

-- what is known of a play, by the contents of its files
abbrev pub known_at : Source → Option (List ℕ) → Option (List ℕ) → Known
known_at source board held = record { board = board; program = program_at source held }

-- and of a request
abbrev pub known_of : Request → List (Option (List ℕ)) → Known
known_of (requests.Play play) contents = known_at Program (first_of contents) (second_of contents)
known_of (requests.Run play) contents = known_at Code (first_of contents) (second_of contents)
known_of (requests.Check path) contents = known_alone (first_of contents)
known_of (requests.List path) contents = known_alone (first_of contents)
known_of (requests.Compile path) contents = known_alone (first_of contents)
known_of (requests.Soak seed) contents = known_with (soak_board seed) (Some (soak_program seed))

-- the first word is `--why`
abbrev pub ask_why : List (List ℕ) → Bool
ask_why [] = false
ask_why (word ∷ rest) = bytes_eq word (codes "--why")

-- the words are a question, or ask for a text, so they are no command that could fail to do what is asked
abbrev pub asks_otherwise : List (List ℕ) → Bool
asks_otherwise words = ask_question words || (ask_why words || is_some (text_asked HELP.now VERSION.now words))

-- What is said of the command that these words are, with these contents of their files. It is refused at one of its
-- words; or a file cannot be read; or it has an answer.
pub data CommandTold (unread : List ℕ → Type 0) (words : List (List ℕ)) (contents : List (Option (List ℕ))) (said : List ℕ) (ending : Status)
    : Type 0 where
  word_refused : (n : ℕ) → IsUsage words n → IsWordTold n words said ending → CommandTold unread words contents said ending
  asked : (request : Request) → IsRequest words request →
      Reads unread (Explains (RequestAnswer request contents) (known_of request contents)) said ending →
      CommandTold unread words contents said ending

-- The answer to `--why` and these words, with these contents of their files. Words that are no command of a play or of
-- other work are refused, as the second word.
pub data WhyAnswer (unread : List ℕ → Type 0) (words : List (List ℕ)) (contents : List (Option (List ℕ))) (said : List ℕ) (ending : Status)
    : Type 0 where
  no_command : asks_otherwise words ≡ true → questions.IsUsage 2 said ending → WhyAnswer unread words contents said ending
  of_command : asks_otherwise words ≡ false → CommandTold unread words contents said ending → WhyAnswer unread words contents said ending
