-- On answers: which relation holds the answers of which.
use Rattle.std.proofs.Common.{◌≡◌, ℕ, List, Option, Some, sym, subst}
use Rattle.stapl_syntax.specs.Trees.{StmtTree}
use Rattle.stapl_syntax.specs.Programs.{IsProgram}
use Rattle.stapl_checker.proofs.UniqueLemmas.{one_program, no_fault}
use Rattle.dev_card.specs.declared.desc.Desc.{Desc}
use Rattle.named_files.specs.Boards.{HasBoard}
use Rattle.named_files.proofs.BoardLemmas.{one_held, board_or_fault}
use Rattle.play_words.specs.declared.requests.Request.{Request}
use Rattle.play_words.specs.Words.{IsRequest}
use Rattle.play_words.proofs.OneRequest.{one_request, no_usage}
use Rattle.play_words.specs.declared.status.Status.{Status}
use Rattle.tool_frame.proofs.AnswerLemmas.{IsWithin}
use Rattle.play_tool.specs.Answers.{TextAnswer, refused, accepted, HeldAnswer, BoardAnswer, board_refused, board_read, RequestAnswer, WordsAnswer, usage, asked}

-- The answer for a text that is a program is the program's.

pub program_in_text : {answers : List StmtTree → List ℕ → Status → Type 0} {bytes : List ℕ} (program : List StmtTree) → IsProgram bytes program →
    IsWithin (answers program) (TextAnswer answers bytes)
program_in_text program is = record { to = λ text status a. accepted program text status is a }

text_answers : {answers : List StmtTree → List ℕ → Status → Type 0} {bytes text : List ℕ} {status : Status} (program : List StmtTree) → IsProgram bytes program →
    TextAnswer answers bytes text status → answers program text status
text_answers program is (refused piece line reason fault) = absurd (no_fault program is fault)
text_answers {answers = answers} {bytes = bytes} program is (accepted other text status other_is a) =
    subst (λ (z : List StmtTree). answers z text status) (one_program bytes other program other_is is) a

pub text_of_program : {answers : List StmtTree → List ℕ → Status → Type 0} {bytes : List ℕ} (program : List StmtTree) → IsProgram bytes program →
    IsWithin (TextAnswer answers bytes) (answers program)
text_of_program program is = record { to = λ text status a. text_answers program is a }

-- The answer for a file that is held is that for its bytes.

pub bytes_of_held : (answers : List ℕ → List ℕ → Status → Type 0) (held : Option (List ℕ)) (bytes : List ℕ) → held ≡ Some bytes → IsWithin (HeldAnswer answers held) (answers bytes)
bytes_of_held answers held bytes e = record { to = λ text status a. subst (λ (h : Option (List ℕ)). HeldAnswer answers h text status) e a }

pub held_of_bytes : (answers : List ℕ → List ℕ → Status → Type 0) (held : Option (List ℕ)) (bytes : List ℕ) → held ≡ Some bytes → IsWithin (answers bytes) (HeldAnswer answers held)
held_of_bytes answers held bytes e = record { to = λ text status a. subst (λ (h : Option (List ℕ)). HeldAnswer answers h text status) (sym e) a }

-- The board is right: the answer is that of its devices.

board_answers : {held : Option (List ℕ)} {answers : List Desc → List ℕ → Status → Type 0} {text : List ℕ} {status : Status} (devices : List Desc) → HasBoard held devices →
    BoardAnswer held answers text status → answers devices text status
board_answers {held = held} devices board (board_refused line reason fault) = absurd (board_or_fault held devices line reason board fault)
board_answers {held = held} {answers = answers} devices board (board_read others text status other a) =
    subst (λ (ds : List Desc). answers ds text status) (one_held held others devices other board) a

pub devices_of_board : {held : Option (List ℕ)} {answers : List Desc → List ℕ → Status → Type 0} (devices : List Desc) → HasBoard held devices →
    IsWithin (BoardAnswer held answers) (answers devices)
devices_of_board devices board = record { to = λ text status a. board_answers devices board a }

pub board_of_devices : {held : Option (List ℕ)} {answers : List Desc → List ℕ → Status → Type 0} (devices : List Desc) → HasBoard held devices →
    IsWithin (answers devices) (BoardAnswer held answers)
board_of_devices devices board = record { to = λ text status a. board_read devices text status board a }

-- The answer to the words is that to the request that they are.

pub request_in_words : {words : List (List ℕ)} {contents_of : Request → List (Option (List ℕ))} {request : Request} → IsRequest words request →
    IsWithin (RequestAnswer request (contents_of request)) (WordsAnswer words contents_of)
request_in_words {request = request} asks = record { to = λ text status a. asked request text status asks a }

words_answer : {words : List (List ℕ)} {contents_of : Request → List (Option (List ℕ))} {request : Request} {text : List ℕ} {status : Status} → IsRequest words request →
    WordsAnswer words contents_of text status → RequestAnswer request (contents_of request) text status
words_answer asks (usage n u) = absurd (no_usage asks u)
words_answer {contents_of = contents_of} asks (asked other text status others a) =
    subst (λ (r : Request). RequestAnswer r (contents_of r) text status) (one_request others asks) a

pub request_of_words : {words : List (List ℕ)} {contents_of : Request → List (Option (List ℕ))} {request : Request} → IsRequest words request →
    IsWithin (WordsAnswer words contents_of) (RequestAnswer request (contents_of request))
request_of_words {contents_of = contents_of} asks = record { to = λ text status a. words_answer {contents_of = contents_of} asks a }
