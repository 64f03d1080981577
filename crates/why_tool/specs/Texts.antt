-- The lines that `--why` writes. The rules are this tool's own.
use Rattle.std.specs.Ordering.{int_eq}
use Rattle.std.specs.Prelude.{◌≡◌, ℕ, ℤ, pos, List, [], ◌++◌, ◌-◌, Option, None, Some, codes, if◌then◌else◌, slice_get}
use Rattle.std.specs.List.{flat_map}
use Rattle.tool_io.specs.Texts.{labelled, labelled_text, number_line, word_line}
use Rattle.stapl_code.specs.declared.reason.CodeReason.{CodeReason}
use Rattle.stapl_code.specs.Reasons.{reason_name}
use Rattle.stapl_meaning.specs.declared.events.RunFault.{RunFault}
use Rattle.stapl_meaning.specs.declared.events.Ending.TheVariants as endings
use Rattle.stapl_meaning.specs.Texts.{fault_name, ending_line}
use Rattle.named_files.specs.Texts.{usage_line}
use Rattle.play_words.specs.declared.mode.Mode.{Mode}
use Rattle.play_words.specs.declared.mode.WordKey.{WordKey}
use Rattle.play_words.specs.declared.mode.WordKey.TheVariants.{Board, Program, Code, Action, Do, Skip, Place, Turns, Pins, Report, Seed}
use Rattle.play_words.specs.Words.{mode_word, HasMode, keys_taken, needs}
use Rattle.play_tool.specs.Texts.{code_refusal_line}
use Rattle.tool_questions.specs.Explanations.{paragraphs}
use Rattle.why_tool.specs.declared.told.Front.{Front}
use Rattle.why_tool.specs.declared.told.Front.TheVariants.{Unread, CodeAt, Misfit, Ended, Nothing}

-- what the table of explanations says under this head
abbrev pub said_of : List ℕ → List ℕ
said_of head = flat_map word_line (paragraphs head)

-- A file cannot be read.
abbrev pub unread_line : List ℕ → List ℕ
unread_line path = labelled_text (codes "cannot read ") path ++ codes "\n"

abbrev pub unread_text : List ℕ → List ℕ
unread_text path = unread_line path ++ said_of (codes "9, an exit code:")

-- A code is refused.
abbrev pub code_text : ℕ → CodeReason → List ℕ
code_text offset reason = code_refusal_line offset reason ++ said_of (reason_name reason ++ codes ", of a code:")

-- What this name stands for does not fit the program or the board.
abbrev pub misfit_line : List ℕ → List ℕ
misfit_line name = codes "R " ++ name ++ codes "\n"

abbrev pub misfit_text : List ℕ → List ℕ
misfit_text name = misfit_line name ++ said_of (name ++ codes ", of the words:")

-- A fault ended the play.
abbrev pub fault_told : RunFault → ℕ → List ℕ
fault_told fault piece = ending_line (endings.Fault fault piece) ++ said_of (fault_name fault ++ codes ", in a play:")

-- The turns of the play were used up.
abbrev pub spent_text : List ℕ
spent_text = ending_line endings.Spent ++ said_of (codes "spent, in a play:")

-- A play, or other work, is done. After work there is no line of an ending, and its code is 0.
abbrev pub done_text : ℤ → List ℕ
done_text code = if int_eq code (pos 0) then said_of (codes "0, an exit code:") else ending_line (endings.Exit code) ++ said_of (codes "1, an exit code:")

-- what comes before what is said
abbrev pub front_text : Front → List ℕ
front_text (Unread path) = unread_line path.now
front_text (CodeAt offset reason) = code_refusal_line offset reason
front_text (Misfit name) = misfit_line name.now
front_text (Ended ending) = ending_line ending
front_text Nothing = []

-- the word of a command with this number, counted from 1
abbrev pub numbered_word : ℕ → List (List ℕ) → Option (List ℕ)
numbered_word n words = slice_get words (n - 1)

-- a word is shown, or said to be missing
abbrev pub shown_or_missing : Option (List ℕ) → List ℕ
shown_or_missing None = codes " is missing\n"
shown_or_missing (Some word) = labelled_text (codes " is ") word ++ codes "\n"

abbrev pub word_shown : ℕ → Option (List ℕ) → List ℕ
word_shown n word = labelled (codes "word ") (pos n) ++ shown_or_missing word

-- a key with its value, as one writes them
abbrev pub key_form : WordKey → List ℕ
key_form Board = codes "board=PATH"
key_form Program = codes "program=PATH"
key_form Code = codes "code=PATH"
key_form Action = codes "action=NAME"
key_form Do = codes "do=NAME,.."
key_form Skip = codes "skip=NAME,.."
key_form Place = codes "place=N..N"
key_form Turns = codes "turns=N"
key_form Pins = codes "pins=yes|no"
key_form Report = codes "report=yes|no"
key_form Seed = codes "seed=N"

-- in brackets, if a mode can do without it
abbrev pub form_in : Mode → WordKey → List ℕ
form_in mode key = if needs mode key then key_form key else codes "[" ++ key_form key ++ codes "]"

-- what may stand after a mode
abbrev pub takes_text : Mode → List ℕ
takes_text mode = mode_word mode ++ codes " takes" ++ flat_map (λ key. codes " " ++ form_in mode key) (keys_taken mode) ++ codes ", each once\n"

-- What may stand after the first word; or in its place, if it names no mode.
pub data IsRestTold (words : List (List ℕ)) : List ℕ → Type 0 where
  after_mode : (mode : Mode) → HasMode words mode → IsRestTold words (takes_text mode)
  no_mode : ((mode : Mode) → HasMode words mode → ⊥) → IsRestTold words (codes "word 1 has to be play, check, list, compile, run or soak; see --help\n")

-- Words are refused at the one with this number.
pub record IsUsageTold (n : ℕ) (words : List (List ℕ)) (said : List ℕ) : Type 0 where
  pub rest : List ℕ
  pub told : IsRestTold words rest
  pub said_is : said ≡ usage_line n ++ word_shown n (numbered_word n words) ++ rest
