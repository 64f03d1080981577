-- A request whose files are held has an answer, whatever they hold.
use Rattle.std.proofs.Common.{◌<◌, ◌≤◌, ◌⊎◌, inl, inr, ℕ, List, length, Option, None, Some}
use Rattle.std.specs.Prelude.{IsSome}
use Rattle.std.proofs.lemmas.Bool.{cases_lt, false≢true}
use Rattle.stapl_lexer.specs.declared.reason.Reason.{Reason}
use Rattle.stapl_syntax.specs.Trees.{StmtTree}
use Rattle.stapl_syntax.specs.Programs.{IsProgram, FirstFault}
use Rattle.stapl_checker.proofs.Answered.{program_or_fault}
use Rattle.dev_card.specs.declared.desc.Desc.{Desc}
use Rattle.board_text.specs.declared.reason.BoardReason.{BoardReason}
use Rattle.board_text.specs.Boards.{IsBoard, IsFirstFault}
use Rattle.command_words.specs.declared.place_run.PlaceRun.{PlaceRun}
use Rattle.chain_rewrite.proofs.RewrittenLemmas.{Outcome, has_padding, is_large, has_text, an_outcome}
use Rattle.named_files.specs.Texts.{refusal_line, board_refusal_line}
use Rattle.named_files.specs.Contents.{Contents}
use Rattle.named_files.proofs.ContentLemmas.{both}
use Rattle.rewrite_tool.specs.declared.status.RewriteStatus.{RewriteStatus}
use Rattle.rewrite_tool.specs.declared.status.RewriteStatus.TheVariants.{Done, Refused, BoardRefused, BadPlace, OwnPadding, TooLarge}
use Rattle.rewrite_tool.specs.Texts.{place_line, padding_line, too_large_line}
use Rattle.rewrite_tool.specs.Words.{Request}
use Rattle.rewrite_tool.specs.Answers.{run_base, ProgramAnswer, refused, bad_place, own_padding, too_large, rewritten, RequestAnswer, board_refused, board_read}

abbrev HasAnswer : (List ℕ → RewriteStatus → Type 0) → Type 0
HasAnswer A = (text : List ℕ) × (status : RewriteStatus) × A text status

every_program : (devices : List Desc) (run : PlaceRun) (bytes : List ℕ) → HasAnswer (ProgramAnswer devices run bytes)
every_program devices run bytes = by (program_or_fault bytes)
  where
    by_outcome : (program : List StmtTree) → IsProgram bytes program → run.last ≤ length devices → Outcome (run_base devices run) program →
        HasAnswer (ProgramAnswer devices run bytes)
    by_outcome program is has (has_padding n first) = (padding_line n, OwnPadding n, own_padding program n is has first)
    by_outcome program is has (is_large large) = (too_large_line, TooLarge, too_large program is has large)
    by_outcome program is has (has_text text x) = (text, Done, rewritten program text is has x)

    by_place : (program : List StmtTree) → IsProgram bytes program → (length devices < run.last) ⊎ (run.last ≤ length devices) → HasAnswer (ProgramAnswer devices run bytes)
    by_place program is (inl lacks) = (place_line, BadPlace, bad_place program is lacks)
    by_place program is (inr has) = by_outcome program is has (an_outcome (run_base devices run) bytes program is)

    by : ((statements : List StmtTree) × IsProgram bytes statements) ⊎ ((piece : ℕ) × (line : ℕ) × (reason : Reason) × FirstFault bytes piece line reason) →
        HasAnswer (ProgramAnswer devices run bytes)
    by (inl found) = by_place found.0 found.1 (cases_lt (length devices) run.last)
    by (inr fault) = (refusal_line fault.0 fault.1 fault.2, Refused fault.0 fault.2, refused fault.0 fault.1 fault.2 fault.3)

-- each text is a board, or has a first fault
abbrev pub AreBoards : Type 0
AreBoards = (text : List ℕ) → ((devices : List Desc) × IsBoard text devices) ⊎ ((line : ℕ) × (reason : BoardReason) × IsFirstFault text line reason)

held_request : (request : Request) (board program : List ℕ) →
    ((devices : List Desc) × IsBoard board devices) ⊎ ((line : ℕ) × (reason : BoardReason) × IsFirstFault board line reason) →
    HasAnswer (RequestAnswer request (both (Some board) (Some program)))
held_request request board program (inr fault) = (board_refusal_line fault.0 fault.1, BoardRefused fault.0 fault.1, board_refused fault.0 fault.1 fault.2)
held_request request board program (inl devices) =
    let a = every_program devices.0 request.run program in
    (a.0, a.1, board_read devices.0 a.0 a.1 devices.1 a.2)

pub every_request : AreBoards → (request : Request) (contents : Contents) → IsSome contents.board → IsSome contents.file → HasAnswer (RequestAnswer request contents)
every_request boards request contents = by contents.board contents.file
  where
    by : (board program : Option (List ℕ)) → IsSome board → IsSome program → HasAnswer (RequestAnswer request (both board program))
    by None program b p = absurd (false≢true b)
    by (Some board) None b p = absurd (false≢true p)
    by (Some board) (Some program) b p = held_request request board program (boards board)
