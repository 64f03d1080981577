-- No answer has the status of a fault, and so none the exit code of one.
use Rattle.std.specs.Prelude.{ℕ, Bool, List, Option, None, Some}
use Rattle.std.proofs.Common.{subst}
use Rattle.stapl_meaning.specs.declared.events.Ending.{Ending}
use Rattle.stapl_meaning.specs.declared.events.Ending.TheVariants as endings
use Rattle.stapl_meaning.specs.Choices.{Choice}
use Rattle.dev_card.specs.declared.desc.Desc.{Desc}
use Rattle.tool_frame.specs.Frame.{IsNoFaultCode}
use Rattle.play_words.specs.declared.requests.PlayRequest.{PlayRequest}
use Rattle.play_words.specs.declared.status.Status.{Status}
use Rattle.play_words.specs.Codes.{exit_code_of}
use Rattle.play_words.specs.Statuses.{IsFault}
use Rattle.play_words.specs.NoFaults.{no_fault_code}
use Rattle.code_plays.specs.Plays.{done_with}
use Rattle.scans_tool.specs.Answers.{ChoiceAnswer, no_action, bad_choice, bad_place, played, TextAnswer, refused, accepted, HeldAnswer, RequestAnswer, board_refused, board_read, WordsAnswer, usage}
use Rattle.scans_tool.specs.Answers.{asked}

-- no answer of these has the status of a fault
abbrev pub NoFaults : (List ℕ → Status → Type 0) → Type 0
NoFaults answers = (text : List ℕ) (status : Status) → answers text status → IsFault status → ⊥

ending_status : (ending : Ending) → IsFault (done_with ending) → ⊥
ending_status (endings.Exit code) p = p
ending_status (endings.Fault k piece) p = p
ending_status endings.Spent p = p

choice_status : {choice : Choice} {placed : Bool} {plays : List ℕ → List ℕ → Status → Type 0} → ((procedures : List ℕ) → NoFaults (plays procedures)) →
    NoFaults (ChoiceAnswer choice placed plays)
choice_status none xs s (no_action e) p = p
choice_status none xs s (bad_choice e) p = p
choice_status none xs s (bad_place procedures e lacks) p = p
choice_status none xs s (played procedures text status e has a) p = none procedures text status a p

text_status : {request : PlayRequest} {devices : List Desc} {bytes : List ℕ} → NoFaults (TextAnswer request devices bytes)
text_status xs s (refused piece line reason fault) p = p
text_status xs s (accepted program text status is a) p =
    choice_status (λ procedures words end c q. ending_status c.ending (subst IsFault c.status_is q)) text status a p

held_status : (request : PlayRequest) (devices : List Desc) (held : Option (List ℕ)) → NoFaults (HeldAnswer request devices held)
held_status request devices None text status a p = a
held_status request devices (Some bytes) text status a p = text_status text status a p

request_status : {request : PlayRequest} {contents : List (Option (List ℕ))} → NoFaults (RequestAnswer request contents)
request_status xs s (board_refused line reason fault) p = p
request_status {request = request} xs s (board_read devices text status board a) p = held_status request devices _ text status a p

words_status : {words : List (List ℕ)} {contents : List (Option (List ℕ))} → NoFaults (WordsAnswer words contents)
words_status xs s (usage n u) p = p
words_status xs s (asked play text status asks a) p = request_status text status a p

-- And so its exit code is that of none.
pub no_fault_codes : {words : List (List ℕ)} {contents : List (Option (List ℕ))} {text : List ℕ} {status : Status} → WordsAnswer words contents text status →
    IsNoFaultCode (exit_code_of status)
no_fault_codes {text = text} {status = status} a = no_fault_code status (words_status text status a)
