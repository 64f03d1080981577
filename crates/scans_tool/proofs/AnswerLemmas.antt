-- On answers: which relation holds the answers of which.
use Rattle.std.proofs.Common.{◌≡◌, ℕ, List, Option, true, refl, Result, Ok, Err}
use Rattle.std.specs.Prelude.{IsErrAnd}
use Rattle.tool_io.specs.declared.lines.Lines.{Lines}
use Rattle.tool_io.specs.declared.outside.Sink.{Ghosts as SinkOf}
use Rattle.tool_frame.specs.declared.no_answer.NoAnswer.{NoAnswer}
use Rattle.tool_frame.specs.declared.no_answer.NoAnswer.TheVariants.{Read, Write, Memory}
use Rattle.tool_frame.specs.Answers.{Said, Says}
use Rattle.tool_frame.specs.Files.{first_of, second_of}
use Rattle.tool_frame.proofs.AnswerLemmas.{IsWithin}
use Rattle.stapl_syntax.specs.Trees.{StmtTree}
use Rattle.stapl_syntax.specs.Programs.{IsProgram}
use Rattle.stapl_meaning.specs.Choices.{chosen, choice_of}
use Rattle.stapl_meaning.specs.declared.events.Ending.{Ending}
use Rattle.stapl_meaning.specs.Scopes.{Played, as_played}
use Rattle.dev_card.specs.declared.desc.Desc.{Desc}
use Rattle.named_files.specs.Boards.{HasBoard}
use Rattle.play_words.specs.declared.requests.FilePlay.{FilePlay}
use Rattle.play_words.specs.declared.requests.PlayRequest.{PlayRequest}
use Rattle.play_words.specs.declared.status.Status.{Status}
use Rattle.code_plays.specs.Plays.{has_place, done_with}
use Rattle.accounted_plays.specs.Accounted.{IsAccounted}
use Rattle.scans_tool.specs.Words.{AskFor}
use Rattle.scans_tool.specs.Answers.{ChosenAnswer, ProgramAnswer, played, TextAnswer, accepted, HeldAnswer, RequestAnswer, board_read, WordsAnswer, asked}

-- Which answer holds which: for procedures that are chosen, for a text that is a program, for a board that is right, and
-- for words that ask for a play.

pub chosen_in_program : (request : PlayRequest) (devices : List Desc) (bytes : List ℕ) (program : List StmtTree) (procedures : List ℕ) →
    choice_of (as_played program) request.action request.todo request.skip ≡ chosen procedures → has_place request.place devices ≡ true →
    IsWithin (ChosenAnswer bytes (as_played program) request devices procedures) (ProgramAnswer bytes program request devices)
chosen_in_program request devices bytes program procedures e has = record { to = λ text status a. played procedures text status e has a }

pub program_in_text : (request : PlayRequest) (devices : List Desc) (bytes : List ℕ) (program : List StmtTree) → IsProgram bytes program →
    IsWithin (ProgramAnswer bytes program request devices) (TextAnswer request devices bytes)
program_in_text request devices bytes program is = record { to = λ text status a. accepted program text status is a }

pub held_in_request : (request : PlayRequest) (devices : List Desc) (contents : List (Option (List ℕ))) → HasBoard (first_of contents) devices →
    IsWithin (HeldAnswer request devices (second_of contents)) (RequestAnswer request contents)
held_in_request request devices contents board = record { to = λ text status a. board_read devices text status board a }

pub play_in_words : {words : List (List ℕ)} (play : FilePlay) (contents : List (Option (List ℕ))) → AskFor words play →
    IsWithin (RequestAnswer play.request contents) (WordsAnswer words contents)
play_in_words play contents asks = record { to = λ text status a. asked play text status asks a }

-- A play with its account is an answer, with the status of its ending; and if it failed, the answer has failed so.
pub chosen_said : {K : Type 0} {sink : SinkOf K} {bytes : List ℕ} {program : Played} {request : PlayRequest} {devices : List Desc} {procedures : List ℕ} {old new : Lines K}
    {ending : Ending} {status : Status} → status ≡ done_with ending → Said sink (IsAccounted bytes program request devices procedures) old new ending →
    Said sink (ChosenAnswer bytes program request devices procedures) old new status
chosen_said {ending = ending} e p =
    record { text = p.text; answer = record { ending = ending; accounted = p.answer; status_is = e }; puts = p.puts }

pub chosen_failed : {K : Type 0} (sink : SinkOf K) (bytes : List ℕ) (program : Played) (request : PlayRequest) (devices : List Desc) (procedures : List ℕ) (old new : Lines K)
    (e : NoAnswer) (r : Result Status NoAnswer) → IsErrAnd r (λ x. x ≡ e) →
    Says {S = Ending} sink (IsAccounted bytes program request devices procedures) ⊥ old new (Err e) →
    Says sink (ChosenAnswer bytes program request devices procedures) ⊥ old new r
chosen_failed sink bytes program request devices procedures old new e (Ok status) is p = absurd is
chosen_failed sink bytes program request devices procedures old new Read (Err x) is p = absurd p
chosen_failed sink bytes program request devices procedures old new Write (Err x) is p =
    rw is (record { text = p.text; status = done_with p.status; answer = record { ending = p.status; accounted = p.answer; status_is = refl }; puts = p.puts })
chosen_failed sink bytes program request devices procedures old new Memory (Err x) is p = rw is p
