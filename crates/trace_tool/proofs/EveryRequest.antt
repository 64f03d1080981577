-- A request whose files are held has an answer, whatever they hold.
use Rattle.std.proofs.Common.{◌≡◌, ◌<◌, ◌≤◌, ◌⊎◌, inl, inr, ℕ, false, List, length, Option, None, Some, refl}
use Rattle.std.specs.Prelude.{IsSome}
use Rattle.std.proofs.lemmas.Bool.{cases_lt, false≢true}
use Rattle.dev_card.specs.declared.desc.Desc.{Desc}
use Rattle.board_text.specs.declared.reason.BoardReason.{BoardReason}
use Rattle.board_text.specs.Boards.{IsBoard, IsFirstFault}
use Rattle.named_files.specs.Texts.{board_refusal_line}
use Rattle.pin_lines.specs.PinLines.{has_bad_line, pins_in}
use Rattle.pin_lines.specs.Traces.{Agrees, board_led_to}
use Rattle.pin_lines.specs.FirstFaults.{IsFirstBadLine, IsFirstDifference}
use Rattle.pin_lines.proofs.FirstFaults.{a_bad_line, a_difference}
use Rattle.named_files.specs.Contents.{Contents}
use Rattle.named_files.proofs.ContentLemmas.{both}
use Rattle.trace_check.specs.Limits.{trace_limit}
use Rattle.trace_tool.specs.declared.status.TraceStatus.{TraceStatus}
use Rattle.trace_tool.specs.declared.status.TraceStatus.TheVariants.{Good, Differs, BadLine, TooLong, BoardRefused}
use Rattle.trace_tool.specs.Texts.{good_text, differs_line, bad_line_text, too_long_line}
use Rattle.trace_tool.specs.Answers.{new_board, TraceAnswer, too_long, bad_line, differs, good, RequestAnswer, board_refused, board_read}

abbrev HasAnswer : (List ℕ → TraceStatus → Type 0) → Type 0
HasAnswer A = (text : List ℕ) × (status : TraceStatus) × A text status

every_trace : (devices : List Desc) (text : List ℕ) → HasAnswer (TraceAnswer devices text)
every_trace devices text = by_length (cases_lt trace_limit (length text))
  where
    by_clocks : length text ≤ trace_limit → has_bad_line text ≡ false → Agrees (new_board devices) (pins_in text) ⊎ ((i : ℕ) × IsFirstDifference (new_board devices) (pins_in text) i) →
        HasAnswer (TraceAnswer devices text)
    by_clocks short none (inl agrees) =
        (good_text (length (pins_in text)) (board_led_to (new_board devices) (pins_in text)), Good (length (pins_in text)), good (length (pins_in text)) short none agrees refl)
    by_clocks short none (inr first) = (differs_line first.0, Differs first.0, differs first.0 short none first.1)

    by_lines : length text ≤ trace_limit → (has_bad_line text ≡ false) ⊎ ((n : ℕ) × IsFirstBadLine text n) → HasAnswer (TraceAnswer devices text)
    by_lines short (inl none) = by_clocks short none (a_difference (new_board devices) (pins_in text))
    by_lines short (inr first) = (bad_line_text first.0, BadLine first.0, bad_line first.0 short first.1)

    by_length : (trace_limit < length text) ⊎ (length text ≤ trace_limit) → HasAnswer (TraceAnswer devices text)
    by_length (inl long) = (too_long_line, TooLong, too_long long)
    by_length (inr short) = by_lines short (a_bad_line text)

-- each text is a board, or has a first fault
abbrev pub AreBoards : Type 0
AreBoards = (text : List ℕ) → ((devices : List Desc) × IsBoard text devices) ⊎ ((line : ℕ) × (reason : BoardReason) × IsFirstFault text line reason)

held_request : (board trace : List ℕ) → ((devices : List Desc) × IsBoard board devices) ⊎ ((line : ℕ) × (reason : BoardReason) × IsFirstFault board line reason) →
    HasAnswer (RequestAnswer (both (Some board) (Some trace)))
held_request board trace (inr fault) = (board_refusal_line fault.0 fault.1, BoardRefused fault.0 fault.1, board_refused fault.0 fault.1 fault.2)
held_request board trace (inl devices) =
    let a = every_trace devices.0 trace in
    (a.0, a.1, board_read devices.0 a.0 a.1 devices.1 (record { bytes = trace; held = refl; answer = a.2 }))

pub every_request : AreBoards → (contents : Contents) → IsSome contents.board → IsSome contents.file → HasAnswer (RequestAnswer contents)
every_request boards contents = by contents.board contents.file
  where
    by : (board trace : Option (List ℕ)) → IsSome board → IsSome trace → HasAnswer (RequestAnswer (both board trace))
    by None trace b t = absurd (false≢true b)
    by (Some board) None b t = absurd (false≢true t)
    by (Some board) (Some trace) b t = held_request board trace (boards board)
