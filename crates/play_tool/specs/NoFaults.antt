-- No answer has the status of a fault, and so none the exit code of one.
use Rattle.std.specs.Prelude.{ℕ, Bool, List, Option, None, Some}
use Rattle.std.proofs.Common.{subst}
use Rattle.stapl_syntax.specs.Trees.{StmtTree}
use Rattle.stapl_meaning.specs.declared.events.Ending.{Ending}
use Rattle.stapl_meaning.specs.declared.events.Ending.TheVariants as endings
use Rattle.stapl_meaning.specs.Choices.{Choice}
use Rattle.stapl_meaning.specs.Plays.{Run}
use Rattle.dev_card.specs.declared.desc.Desc.{Desc}
use Rattle.soak_texts.specs.Boards.{soak_board}
use Rattle.soak_texts.specs.Soak.{soak_program}
use Rattle.tool_frame.specs.Frame.{IsNoFaultCode}
use Rattle.play_words.specs.declared.requests.PlayRequest.{PlayRequest}
use Rattle.play_words.specs.declared.requests.Request.{Request}
use Rattle.play_words.specs.declared.requests.Request.TheVariants as requests
use Rattle.play_words.specs.declared.status.Status.{Status}
use Rattle.play_words.specs.Codes.{exit_code_of}
use Rattle.play_words.specs.Statuses.{IsFault}
use Rattle.play_words.specs.NoFaults.{no_fault_code}
use Rattle.code_plays.specs.Plays.{done_with, Plays, no_action, bad_choice, bad_place, played}
use Rattle.play_tool.specs.declared.sources.Source.{Source}
use Rattle.play_tool.specs.declared.sources.Source.TheVariants.{Program, Code}
use Rattle.play_tool.specs.declared.programs.Work.{Work}
use Rattle.play_tool.specs.declared.programs.Work.TheVariants.{Check, List as Lists, Compile}
use Rattle.play_tool.specs.Answers.{Works, TextAnswer, refused, accepted, code_refused, code_accepted, SourceAnswer, HeldAnswer, BoardAnswer, board_refused, board_read, PlayAnswer, WorkAnswer, soak_request, RequestAnswer, WordsAnswer, usage, asked}

-- no answer of these has the status of a fault
abbrev pub NoFaults : (List ℕ → Status → Type 0) → Type 0
NoFaults answers = (text : List ℕ) (status : Status) → answers text status → IsFault status → ⊥

ending_status : (ending : Ending) → IsFault (done_with ending) → ⊥
ending_status (endings.Exit code) p = p
ending_status (endings.Fault k piece) p = p
ending_status endings.Spent p = p

play_status : {choice : Choice} {placed : Bool} {plays : List ℕ → Run} {request : PlayRequest} → NoFaults (Plays choice placed plays request)
play_status xs s (no_action e) p = p
play_status xs s (bad_choice e) p = p
play_status xs s (bad_place chosen e f) p = p
play_status xs s (played chosen ending e f g) p = ending_status ending p

works_status : (work : Work) (bytes : List ℕ) (program : List StmtTree) → NoFaults (Works work bytes program)
works_status Check bytes program text status w p = subst IsFault w.done p
works_status Lists bytes program text status w p = subst IsFault w.done p
works_status Compile bytes program text status w p = subst IsFault w.done p

text_status : {answers : List StmtTree → List ℕ → Status → Type 0} → ((program : List StmtTree) → NoFaults (answers program)) → (bytes : List ℕ) → NoFaults (TextAnswer answers bytes)
text_status none bytes xs s (refused piece line reason fault) p = p
text_status none bytes xs s (accepted program text status is a) p = none program text status a p

source_status : (source : Source) (request : PlayRequest) (devices : List Desc) (bytes : List ℕ) → NoFaults (SourceAnswer source request devices bytes)
source_status Program request devices bytes text status a p = text_status (λ program. play_status) bytes text status a p
source_status Code request devices bytes xs s (code_refused offset reason fault) p = p
source_status Code request devices bytes xs s (code_accepted code text status is a) p = play_status text status a p

held_status : {answers : List ℕ → List ℕ → Status → Type 0} → ((bytes : List ℕ) → NoFaults (answers bytes)) → (held : Option (List ℕ)) → NoFaults (HeldAnswer answers held)
held_status none None text status a p = a
held_status none (Some bytes) text status a p = none bytes text status a p

board_status : {answers : List Desc → List ℕ → Status → Type 0} → ((devices : List Desc) → NoFaults (answers devices)) → (held : Option (List ℕ)) → NoFaults (BoardAnswer held answers)
board_status none held xs s (board_refused line reason fault) p = p
board_status none held xs s (board_read devices text status board a) p = none devices text status a p

file_play_status : (source : Source) (request : PlayRequest) (board held : Option (List ℕ)) → NoFaults (PlayAnswer source request board held)
file_play_status source request board held text status a p = board_status (λ devices. held_status (source_status source request devices) held) board text status a p

work_status : (work : Work) (held : Option (List ℕ)) → NoFaults (WorkAnswer work held)
work_status work held text status a p = held_status (λ bytes. text_status (works_status work bytes) bytes) held text status a p

request_status : (request : Request) (contents : List (Option (List ℕ))) → NoFaults (RequestAnswer request contents)
request_status (requests.Play play) contents text status a p = file_play_status Program play.request _ _ text status a p
request_status (requests.Run play) contents text status a p = file_play_status Code play.request _ _ text status a p
request_status (requests.Check path) contents text status a p = work_status Check _ text status a p
request_status (requests.List path) contents text status a p = work_status Lists _ text status a p
request_status (requests.Compile path) contents text status a p = work_status Compile _ text status a p
request_status (requests.Soak seed) contents text status a p = file_play_status Program (soak_request seed) (Some (soak_board seed)) (Some (soak_program seed)) a.rest status a.play p

-- The status of an answer is that of no fault.
pub answer_status : {words : List (List ℕ)} {contents_of : Request → List (Option (List ℕ))} {text : List ℕ} {status : Status} → WordsAnswer words contents_of text status → IsFault status → ⊥
answer_status (usage n u) p = p
answer_status {contents_of = contents_of} (asked request text status asks a) p = request_status request (contents_of request) text status a p

-- And so its exit code is that of none.
pub no_fault_codes : {words : List (List ℕ)} {contents_of : Request → List (Option (List ℕ))} {text : List ℕ} {status : Status} → WordsAnswer words contents_of text status →
    IsNoFaultCode (exit_code_of status)
no_fault_codes {status = status} a = no_fault_code status (answer_status a)
