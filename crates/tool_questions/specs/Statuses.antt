-- No answer to words has the status of a fault, or its exit code. The rules are this tool's own.
use Rattle.std.proofs.Common.{ℕ, List, [], ◌∷◌, Option, Some, None, subst}
use Rattle.tool_frame.specs.Frame.{IsNoFaultCode}
use Rattle.play_words.specs.declared.status.Status.{Status}
use Rattle.play_words.specs.Codes.{exit_code_of}
use Rattle.play_words.specs.Statuses.{IsFault}
use Rattle.play_words.specs.NoFaults.{no_fault_code}
use Rattle.tool_questions.specs.Pieces.{KnownAnswer, shown, ended, lacking, IsLongAnswer, too_long, known, long, HeldPieceAnswer}
use Rattle.tool_questions.specs.BoardLines as boards
use Rattle.tool_questions.specs.Questions.{FileQuestion, of_piece, of_line, of_board, file_key, IsUsage, IsExplained, explained, unknown, WordAnswer, PartQuestionAnswer, asked, refused, WholeQuestionAnswer, asked_whole, refused_whole, FileQuestionAnswer, QuestionAnswer, of_word, of_file, no_question}

usage_status : (m : ℕ) (text : List ℕ) (status : Status) → IsUsage m text status → IsFault status → ⊥
usage_status m text status x fault = subst IsFault x.status_is fault

explained_status : (word text : List ℕ) (status : Status) → IsExplained word text status → IsFault status → ⊥
explained_status word text status (explained some x e) fault = subst IsFault e fault
explained_status word text status (unknown none x) fault = usage_status 2 text status x fault

word_status : (rest : List (List ℕ)) (text : List ℕ) (status : Status) → WordAnswer rest text status → IsFault status → ⊥
word_status [] text status x fault = usage_status 2 text status x fault
word_status (word ∷ []) text status x fault = explained_status word text status x fault
word_status (word ∷ other ∷ rest) text status x fault = usage_status 3 text status x fault

known_status : (bytes : List ℕ) (number : ℕ) (text : List ℕ) (status : Status) → KnownAnswer bytes number text status → IsFault status → ⊥
known_status bytes number text status (shown report piece is at) fault = fault
known_status bytes number text status (ended report refusal is none at) fault = fault
known_status bytes number text status (lacking report is none clean) fault = fault

long_status : (text : List ℕ) (status : Status) → IsLongAnswer text status → IsFault status → ⊥
long_status text status too_long fault = fault

piece_status : (number : ℕ) (held : Option (List ℕ)) (text : List ℕ) (status : Status) → HeldPieceAnswer number held text status → IsFault status → ⊥
piece_status number None text status x fault = x
piece_status number (Some bytes) text status (known short x) fault = known_status bytes number text status x fault
piece_status number (Some bytes) text status (long more x) fault = long_status text status x fault

known_line_status : (bytes : List ℕ) (number : ℕ) (text : List ℕ) (status : Status) → boards.KnownLineAnswer bytes number text status → IsFault status → ⊥
known_line_status bytes number text status (boards.shown line found at is) fault = fault
known_line_status bytes number text status (boards.ended reason none is) fault = fault
known_line_status bytes number text status (boards.lacking none clean) fault = fault

long_board_status : (text : List ℕ) (status : Status) → boards.IsLongBoardAnswer text status → IsFault status → ⊥
long_board_status text status boards.too_long fault = fault

line_status : (bytes : List ℕ) (number : ℕ) (text : List ℕ) (status : Status) → boards.LineAnswer bytes number text status → IsFault status → ⊥
line_status bytes number text status (boards.known short x) fault = known_line_status bytes number text status x fault
line_status bytes number text status (boards.long more x) fault = long_board_status text status x fault

held_line_status : (held : Option (List ℕ)) (number : ℕ) (text : List ℕ) (status : Status) → boards.HeldLineAnswer number held text status → IsFault status → ⊥
held_line_status None number text status x fault = x
held_line_status (Some bytes) number text status x fault = line_status bytes number text status x fault

held_check_status : (held : Option (List ℕ)) (text : List ℕ) (status : Status) → boards.HeldCheckAnswer held text status → IsFault status → ⊥
held_check_status None text status x fault = x
held_check_status (Some bytes) text status (boards.good devices is e x) fault = subst IsFault x fault
held_check_status (Some bytes) text status (boards.faulty line reason is x) fault = line_status bytes line text status x fault

-- what is known of a part of a text has no such status, and neither have the words that ask for it
part_status : (key : List ℕ) (known_as : ℕ → List ℕ → Status → Type 0) → ((n : ℕ) (text : List ℕ) (status : Status) → known_as n text status → IsFault status → ⊥) →
    (rest : List (List ℕ)) (text : List ℕ) (status : Status) → PartQuestionAnswer key known_as rest text status → IsFault status → ⊥
part_status key known_as none rest text status (asked n path named x) fault = none n text status x fault
part_status key known_as none rest text status (refused m is x) fault = usage_status m text status x fault

whole_status : (key : List ℕ) (known_as : List ℕ → Status → Type 0) → ((text : List ℕ) (status : Status) → known_as text status → IsFault status → ⊥) →
    (rest : List (List ℕ)) (text : List ℕ) (status : Status) → WholeQuestionAnswer key known_as rest text status → IsFault status → ⊥
whole_status key known_as none rest text status (asked_whole path named x) fault = none text status x fault
whole_status key known_as none rest text status (refused_whole m is x) fault = usage_status m text status x fault

file_status : (question : FileQuestion) (held : Option (List ℕ)) (rest : List (List ℕ)) (text : List ℕ) (status : Status) →
    FileQuestionAnswer question held rest text status → IsFault status → ⊥
file_status of_piece held rest text status x fault =
    part_status (file_key of_piece) (λ n. HeldPieceAnswer n held) (λ n. piece_status n held) rest text status x fault
file_status of_line held rest text status x fault =
    part_status (file_key of_line) (λ n. boards.HeldLineAnswer n held) (held_line_status held) rest text status x fault
file_status of_board held rest text status x fault =
    whole_status (file_key of_board) (boards.HeldCheckAnswer held) (held_check_status held) rest text status x fault

pub question_status : (held : Option (List ℕ)) (words : List (List ℕ)) (text : List ℕ) (status : Status) → QuestionAnswer held words text status → IsFault status → ⊥
question_status held words text status (of_word rest e x) fault = word_status rest text status x fault
question_status held words text status (of_file question rest e x) fault = file_status question held rest text status x fault
question_status held words text status (no_question none x) fault = usage_status 1 text status x fault

pub answer_code : (held : Option (List ℕ)) (words : List (List ℕ)) (text : List ℕ) (status : Status) → QuestionAnswer held words text status →
    IsNoFaultCode (exit_code_of status)
answer_code held words text status x = no_fault_code status (question_status held words text status x)
