-- What the tool answers: a text and a status, by the words and the contents of the files that they name. It is defined
-- where the files are held that are read before the answer is found: the board first, and the program after a board
-- that is right.
use Rattle.std.specs.Prelude.{◌≡◌, ◌==◌, ℕ, pos, false, true, List, [], ◌++◌, map, count_by, codes, Option, Some, IsSomeAnd}
use Rattle.stapl_lexer.specs.declared.reason.Reason.{Reason}
use Rattle.stapl_syntax.specs.Trees.{StmtTree}
use Rattle.stapl_syntax.specs.Programs.{IsProgram, FirstFault}
use Rattle.stapl_meaning.specs.Choices.{choice_of}
use Rattle.stapl_meaning.specs.Scopes.{Played, as_played}
use Rattle.stapl_meaning.specs.Plays.{Run, play}
use Rattle.stapl_code.specs.declared.raw.CodeLists.{CodeLists}
use Rattle.stapl_code.specs.declared.reason.CodeReason.{CodeReason}
use Rattle.code_files.specs.CodeFaults.{IsFileOf, IsCodeFault}
use Rattle.stapl_codegen.specs.Generated.{IsCodeOf}
use Rattle.soak_texts.specs.Boards.{soak_devices, soak_board, soak_place}
use Rattle.soak_texts.specs.Soak.{soak_program}
use Rattle.dev_card.specs.declared.desc.Desc.{Desc}
use Rattle.dev_card.specs.Card.{fresh}
use Rattle.dev_card.specs.FarEnds.{Told}
use Rattle.board_text.specs.declared.reason.BoardReason.{BoardReason}
use Rattle.program_reports.specs.Checks.{IsCheckText}
use Rattle.program_reports.specs.Listings.{list_text}
use Rattle.tool_frame.specs.Files.{file_named, first_of, second_of}
use Rattle.named_files.specs.Boards.{HasBoard, HasBoardFault}
use Rattle.named_files.specs.Texts.{refusal_line, board_refusal_line, usage_line}
use Rattle.play_words.specs.declared.requests.PlayRequest.{PlayRequest}
use Rattle.play_words.specs.declared.requests.Request.{Request}
use Rattle.play_words.specs.declared.requests.Request.TheVariants as requests
use Rattle.play_words.specs.Words.{usual_turns, files_of, IsRequest, IsUsage}
use Rattle.play_words.specs.declared.status.Status.{Status}
use Rattle.play_words.specs.declared.status.Status.TheVariants.{Done, Refused, BoardRefused, CodeRefused, Usage}
use Rattle.code_plays.specs.Plays.{has_place, base_at, Plays, PlaysCode}
use Rattle.play_tool.specs.declared.sources.Source.{Source}
use Rattle.play_tool.specs.declared.sources.Source.TheVariants.{Program, Code}
use Rattle.play_tool.specs.declared.programs.Work.{Work}
use Rattle.play_tool.specs.declared.programs.Work.TheVariants.{Check, List as Lists, Compile}
use Rattle.play_tool.specs.Texts.{code_refusal_line, soak_line}

-- The play of chosen procedures that a request asks for, on a board of these devices after power-up: for at most its
-- turns, and with base padding around its run of devices, if it names one.
abbrev pub play_on : Played → PlayRequest → List Desc → List ℕ → Run
play_on program request devices chosen = play program chosen request.turns (base_at devices request.place) (Told (map fresh devices))

-- the play of a program that a request asks for, on a board of these devices
abbrev pub PlaysAction : PlayRequest → List Desc → List StmtTree → (List ℕ → Status → Type 0)
PlaysAction request devices program =
    Plays (choice_of (as_played program) request.action request.todo request.skip) (has_place request.place devices) (play_on (as_played program) request devices)
    request

-- The file of the code of a program is written.
pub record Compiles (program : List StmtTree) (text : List ℕ) (status : Status) : Type 0 where
  pub code : CodeLists
  pub of_program : IsCodeOf (as_played program) code
  pub file : IsFileOf text code
  pub done : status ≡ Done (pos 0)

-- The work is done with such a text.
pub record IsDoneWith (says : List ℕ → Type 0) (text : List ℕ) (status : Status) : Type 0 where
  pub said : says text
  pub done : status ≡ Done (pos 0)

-- what is done with the text of a program that is not played
abbrev pub Works : Work → List ℕ → List StmtTree → (List ℕ → Status → Type 0)
Works Check bytes program = IsDoneWith (IsCheckText bytes program)
Works Lists bytes program = IsDoneWith (λ text. text ≡ list_text program)
Works Compile bytes program = Compiles program

-- The answer for a text, by what is answered for a program: it is refused at its first fault, or it is a program.
pub data TextAnswer (answers : List StmtTree → List ℕ → Status → Type 0) (bytes : List ℕ) : List ℕ → Status → Type 0 where
  refused : (piece line : ℕ) (reason : Reason) → FirstFault bytes piece line reason →
      TextAnswer answers bytes (refusal_line piece line reason) (Refused piece reason)
  accepted : (program : List StmtTree) (text : List ℕ) (status : Status) → IsProgram bytes program → answers program text status →
      TextAnswer answers bytes text status

-- The answer for the bytes of a code: they are refused at their first fault, or they are the file of a code, which is
-- played.
pub data CodeAnswer (request : PlayRequest) (devices : List Desc) (bytes : List ℕ) : List ℕ → Status → Type 0 where
  code_refused : (offset : ℕ) (reason : CodeReason) → IsCodeFault bytes offset reason →
      CodeAnswer request devices bytes (code_refusal_line offset reason) (CodeRefused offset reason)
  code_accepted : (code : CodeLists) (text : List ℕ) (status : Status) → IsFileOf bytes code →
      PlaysCode code request devices text status → CodeAnswer request devices bytes text status

-- the answer for what is read after the board
abbrev pub SourceAnswer : Source → PlayRequest → List Desc → List ℕ → (List ℕ → Status → Type 0)
SourceAnswer Program request devices = TextAnswer (PlaysAction request devices)
SourceAnswer Code request devices = CodeAnswer request devices

-- the answer for a file, where it is held
abbrev pub HeldAnswer : (List ℕ → List ℕ → Status → Type 0) → Option (List ℕ) → (List ℕ → Status → Type 0)
HeldAnswer answers held text status = IsSomeAnd held (λ bytes. answers bytes text status)

-- The answer for a board: it is refused at its first fault, or it is of these devices, and the answer is theirs.
pub data BoardAnswer (held : Option (List ℕ)) (answers : List Desc → List ℕ → Status → Type 0) : List ℕ → Status → Type 0 where
  board_refused : (line : ℕ) (reason : BoardReason) → HasBoardFault held line reason →
      BoardAnswer held answers (board_refusal_line line reason) (BoardRefused line reason)
  board_read : (devices : List Desc) (text : List ℕ) (status : Status) → HasBoard held devices → answers devices text status →
      BoardAnswer held answers text status

-- the answer to a play of what a file holds, by the contents of the board's file and of that file
abbrev pub PlayAnswer : Source → PlayRequest → Option (List ℕ) → Option (List ℕ) → (List ℕ → Status → Type 0)
PlayAnswer source request board held = BoardAnswer board (λ devices. HeldAnswer (SourceAnswer source request devices) held)

-- the answer to other work on a program, by the contents of its file
abbrev pub WorkAnswer : Work → Option (List ℕ) → (List ℕ → Status → Type 0)
WorkAnswer work held = HeldAnswer (λ bytes. TextAnswer (Works work bytes) bytes) held

-- The play of action A that a soak asks for: for the device at a place, with a report, and without the clocks.
abbrev pub request_at : ℕ → PlayRequest
request_at place = record {
  action = codes "A";
  todo = [];
  skip = [];
  place = Some (record { first = place; last = place });
  turns = usual_turns;
  pins = false;
  report = true;
}

abbrev pub soak_request : ℕ → PlayRequest
soak_request seed = request_at (soak_place seed)

-- the answer to the play of a soak, on the board that is made from its number
abbrev pub SoakPlayAnswer : ℕ → (List ℕ → Status → Type 0)
SoakPlayAnswer seed = PlayAnswer Program (soak_request seed) (Some (soak_board seed)) (Some (soak_program seed))

-- the first line of a soak; a piece of its program is what a semicolon (59) ends
abbrev pub soak_head : ℕ → List ℕ
soak_head seed = soak_line seed (soak_devices seed) (soak_place seed) (count_by (λ b. b == 59) (soak_program seed))

-- The answer to a soak: its first line, and then what is written of its play; the status is that of the play.
pub record SoakAnswer (seed : ℕ) (text : List ℕ) (status : Status) : Type 0 where
  pub rest : List ℕ
  pub text_is : text ≡ soak_head seed ++ rest
  pub play : SoakPlayAnswer seed rest status

-- The answer to a request, with these contents of its files.
abbrev pub RequestAnswer : Request → List (Option (List ℕ)) → (List ℕ → Status → Type 0)
RequestAnswer (requests.Play play) contents = PlayAnswer Program play.request (first_of contents) (second_of contents)
RequestAnswer (requests.Run play) contents = PlayAnswer Code play.request (first_of contents) (second_of contents)
RequestAnswer (requests.Check path) contents = WorkAnswer Check (first_of contents)
RequestAnswer (requests.List path) contents = WorkAnswer Lists (first_of contents)
RequestAnswer (requests.Compile path) contents = WorkAnswer Compile (first_of contents)
RequestAnswer (requests.Soak seed) contents = SoakAnswer seed

-- The answer to the words, with these contents of the files of each request: they are refused, or what they ask is
-- answered.
pub data WordsAnswer (words : List (List ℕ)) (contents_of : Request → List (Option (List ℕ))) : List ℕ → Status → Type 0 where
  usage : (n : ℕ) → IsUsage words n → WordsAnswer words contents_of (usage_line n) (Usage n)
  asked : (request : Request) (text : List ℕ) (status : Status) → IsRequest words request →
      RequestAnswer request (contents_of request) text status → WordsAnswer words contents_of text status

-- the contents that a store holds of the files of a request
abbrev pub contents_in : List (List ℕ × List ℕ) → Request → List (Option (List ℕ))
contents_in files request = map (file_named files) (files_of request)

-- The answer to the words and the files of a store.
abbrev pub Answer : List (List ℕ) → List (List ℕ × List ℕ) → (List ℕ → Status → Type 0)
Answer words files = WordsAnswer words (contents_in files)
