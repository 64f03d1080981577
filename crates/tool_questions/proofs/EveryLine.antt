-- A line of a board, and a board alone, have an answer: each text is a board, or has a first fault.
use Rattle.std.proofs.Common.{◌≡◌, ◌<◌, ◌≤◌, ◌++◌, ℕ, pos, List, length, Option, Some, None, refl, subst, ◌⊎◌, inl, inr}
use Rattle.std.proofs.lemmas.Bool.{cases_lt, cases_eq}
use Rattle.board_text.specs.declared.reason.BoardReason.{BoardReason}
use Rattle.board_text.specs.declared.reason.BoardReason.TheVariants.{TooLong}
use Rattle.board_text.specs.Boards.{most_bytes, IsFirstFault}
use Rattle.board_text.proofs.OneAnswer.{no_board_has_a_fault}
use Rattle.board_text.proofs.EveryText.{HasAnswer, every_text}
use Rattle.named_files.specs.Texts.{usage_line}
use Rattle.play_words.specs.declared.status.Status.TheVariants.{Done, Usage}
use Rattle.tool_questions.specs.BoardLines.{numbered_line, FaultAt, fault_text, line_text, KnownLineAnswer, shown, ended, lacking, too_long, LineAnswer, known, long, devices_line, CheckAnswer, good, faulty}
use Rattle.tool_questions.proofs.Said.{IsAnswered}
use Rattle.tool_questions.proofs.LineLemmas.{fault_elsewhere}

record HasFault (text : List ℕ) (number : ℕ) : Type 0 where
  fault : Option BoardReason
  is : FaultAt text number fault

fault_here : (text : List ℕ) (line number : ℕ) (reason : BoardReason) → IsFirstFault text line reason → (line ≡ number) ⊎ (line ≡ number → ⊥) → HasFault text number
fault_here text line number reason fault (inl e) = record { fault = Some reason; is = subst (λ (n : ℕ). IsFirstFault text n reason) e fault }
fault_here text line number reason fault (inr other) = record { fault = None; is = fault_elsewhere text line number reason other fault }

fault_by : (text : List ℕ) (number : ℕ) → HasAnswer text → HasFault text number
fault_by text number (inl board) = record { fault = None; is = λ reason fault. no_board_has_a_fault text board.0 number reason board.1 fault }
fault_by text number (inr fault) = fault_here text fault.0 number fault.1 fault.2 (cases_eq fault.0 number)

known_by : (text : List ℕ) (number : ℕ) (line : Option (List ℕ)) (fault : Option BoardReason) → numbered_line number text ≡ line →
    FaultAt text number fault → IsAnswered (KnownLineAnswer text number)
known_by text number (Some line) fault at is =
    record { text = line_text number line ++ fault_text number fault; status = Done (pos 0); answer = shown line fault at is }
known_by text number None (Some reason) none is = record { text = fault_text number (Some reason); status = Done (pos 0); answer = ended reason none is }
known_by text number None None none is = record { text = usage_line 2; status = Usage 2; answer = lacking none is }

every_known : (text : List ℕ) (number : ℕ) → IsAnswered (KnownLineAnswer text number)
every_known text number =
    let found = fault_by text number (every_text text) in known_by text number (numbered_line number text) found.fault refl found.is

line_by : (text : List ℕ) (number : ℕ) → (most_bytes < length text) ⊎ (length text ≤ most_bytes) → IsAnswered (LineAnswer text number)
line_by text number (inl more) = record { text = fault_text 0 (Some TooLong); status = Done (pos 0); answer = long more too_long }
line_by text number (inr short) = let a = every_known text number in record { text = a.text; status = a.status; answer = known short a.answer }

pub every_line : (text : List ℕ) (number : ℕ) → IsAnswered (LineAnswer text number)
every_line text number = line_by text number (cases_lt most_bytes (length text))

check_by : (text : List ℕ) → HasAnswer text → IsAnswered (CheckAnswer text)
check_by text (inl board) =
    record { text = devices_line board.0; status = Done (pos 0); answer = good board.0 board.1 refl refl }
check_by text (inr fault) =
    let a = every_line text fault.0 in record { text = a.text; status = a.status; answer = faulty fault.0 fault.1 fault.2 a.answer }

pub every_check : (text : List ℕ) → IsAnswered (CheckAnswer text)
every_check text = check_by text (every_text text)
