-- What is said of a command, by the status of its answer. What other questions say is said in their words. The rules
-- are this tool's own.
use Rattle.std.specs.Prelude.{◌≡◌, ℕ, pos, List, [], ◌++◌, codes, Option, None, Some, IsSomeAnd, IfSome}
use Rattle.std.specs.Option.{option_map}
use Rattle.stapl_syntax.specs.Trees.{StmtTree}
use Rattle.stapl_syntax.specs.Programs.{IsProgram}
use Rattle.stapl_syntax.specs.ProgramValues.{ProgramValue, trees_of}
use Rattle.dev_card.specs.declared.desc.Desc.{Desc}
use Rattle.board_text.specs.Boards.{IsBoard, CanBeFitted}
use Rattle.program_reports.specs.Listings.{list_text}
use Rattle.play_words.specs.declared.status.Status.{Status}
use Rattle.play_words.specs.declared.status.Status.TheVariants.{Done, Fault, Spent, Refused, BoardRefused, CodeRefused, NoAction, BadChoice, BadPlace, Usage, ReadFault, WriteFault, Memory}
use Rattle.tool_questions.specs.BoardLines.{LineAnswer, devices_line}
use Rattle.tool_questions.specs.Pieces.{PieceAnswer}
use Rattle.why_tool.specs.Texts.{said_of, code_text, misfit_text, fault_told, spent_text, done_text}

-- What is known of a command: the bytes of its board, and of its program.
pub record Known : Type 0 where
  pub board : Option (List ℕ)
  pub program : Option (List ℕ)

-- the bytes of the board, and perhaps those of the program
abbrev pub known_with : List ℕ → Option (List ℕ) → Known
known_with board program = record { board = Some board; program = program }

-- no board
abbrev pub known_alone : Option (List ℕ) → Known
known_alone program = record { board = None; program = program }

-- What an answer says, whatever its status.
pub record Shows (answers : List ℕ → Status → Type 0) (said : List ℕ) : Type 0 where
  pub status : Status
  pub answer : answers said status

-- A part that is found somewhere, in a whole.
pub record WithPart (IsPart : List ℕ → Type 0) (whole : List ℕ → List ℕ) (said : List ℕ) : Type 0 where
  pub part : List ℕ
  pub is : IsPart part
  pub said_is : said ≡ whole part

-- the list of a program with this text
pub record IsListOf (text said : List ℕ) : Type 0 where
  pub program : List StmtTree
  pub is : IsProgram text program
  pub said_is : said ≡ list_text program

-- the number of the devices of a board with this text
pub record IsCountOf (text said : List ℕ) : Type 0 where
  pub devices : List Desc
  pub is : IsBoard text devices
  pub said_is : said ≡ devices_line devices

-- a part of the program, if its text is known, and else nothing
abbrev pub IsPartOf : (List ℕ → List ℕ → Type 0) → Option (List ℕ) → List ℕ → Type 0
IsPartOf IsPart None said = said ≡ []
IsPartOf IsPart (Some text) said = IsPart text said

-- a part that is put by itself
abbrev pub IsPartPut : (List ℕ → Type 0) → List ℕ → Unit {0} → Type 0
IsPartPut IsPart said done = IsPart said

-- the list of a program, if there is one
abbrev pub list_or_none : Option (List StmtTree) → List ℕ
list_or_none None = []
list_or_none (Some program) = list_text program

-- What is said, by the status of the answer to the command.
abbrev pub Told : Known → Status → List ℕ → Type 0
Told known (Done code) said = said ≡ done_text code
Told known (Fault fault piece) said =
    WithPart (IsPartOf (λ text. Shows (PieceAnswer text piece)) known.program) (λ shown. shown ++ fault_told fault piece) said
Told known Spent said = said ≡ spent_text
Told known (Refused piece reason) said = IsSomeAnd known.program (λ text. Shows (PieceAnswer text piece) said)
Told known (BoardRefused line reason) said = IsSomeAnd known.board (λ text. Shows (LineAnswer text line) said)
Told known (CodeRefused offset reason) said = said ≡ code_text offset reason
Told known NoAction said = WithPart (IsPartOf IsListOf known.program) (λ list. misfit_text (codes "action") ++ list) said
Told known BadChoice said = WithPart (IsPartOf IsListOf known.program) (λ list. misfit_text (codes "choice") ++ list) said
Told known BadPlace said = IsSomeAnd known.board (λ text. WithPart (IsCountOf text) (λ count. misfit_text (codes "place") ++ count) said)
Told known (Usage n) said = ⊥
Told known ReadFault said = ⊥
Told known WriteFault said = ⊥
Told known Memory said = ⊥

-- This is said: what the table says under a head, with what comes before and after it.
pub record IsToldUnder (front head rest said : List ℕ) (ending : Status) : Type 0 where
  pub said_is : said ≡ front ++ said_of head ++ rest
  pub done : ending ≡ Done (pos 0)

-- This is said of an answer with this status.
pub record Tells (known : Known) (status : Status) (said : List ℕ) (ending : Status) : Type 0 where
  pub told : Told known status said
  pub done : ending ≡ Done (pos 0)

-- the status of a play, or of other work that is done
abbrev pub IsOutcome : Status → Type 0
IsOutcome (Done code) = Unit {0}
IsOutcome (Fault fault piece) = Unit {0}
IsOutcome Spent = Unit {0}
IsOutcome NoAction = Unit {0}
IsOutcome BadChoice = Unit {0}
IsOutcome BadPlace = Unit {0}
IsOutcome (Refused piece reason) = ⊥
IsOutcome (BoardRefused line reason) = ⊥
IsOutcome (CodeRefused offset reason) = ⊥
IsOutcome (Usage n) = ⊥
IsOutcome ReadFault = ⊥
IsOutcome WriteFault = ⊥
IsOutcome Memory = ⊥

-- What is known of a play on these devices, of this program if it is one.
pub record IsKnown (known : Known) (devices : List Desc) (program : Option ProgramValue) : Type 0 where
  pub board : IsSomeAnd known.board (λ text. IsBoard text devices)
  pub fits : CanBeFitted devices
  pub text : known.program ≡ option_map (λ p. p.text) program
  pub is : IfSome program (λ p. IsProgram p.text (trees_of p))
