-- On the files of words, and what is done for words.
use Rattle.std.proofs.Common.{◌∙◌, inl, inr, ℕ, Bool, List, [], Option, None, Some, ap, subst}
use Rattle.tool_io.specs.declared.outside.Sink.{Ghosts as SinkOf}
use Rattle.tool_frame.specs.Files.{OfFiles, second_of}
use Rattle.play_words.specs.declared.requests.FilePlay.{FilePlay}
use Rattle.play_words.specs.Words.{play_files}
use Rattle.play_tool.specs.ReadContents.{ArePlayFiles}
use Rattle.play_tool.proofs.RequestLemmas.{of_any_files}
use Rattle.stapl_meaning.specs.declared.events.Ending.{Ending}
use Rattle.stapl_meaning.specs.declared.events.Ending.TheVariants as endings
use Rattle.stapl_meaning.specs.Choices.{Choice}
use Rattle.stapl_meaning.specs.Plays.{Run}
use Rattle.dev_card.specs.declared.desc.Desc.{Desc}
use Rattle.dev_card.specs.FarEnds.{FarEnd}
use Rattle.play_words.specs.declared.requests.PlayRequest.{PlayRequest}
use Rattle.drive_cable.specs.declared.peer.Peer.{Ghosts as PeerOf}
use Rattle.drive_tool.specs.declared.status.DriveStatus.{DriveStatus}
use Rattle.drive_tool.specs.Statuses.{IsFault, done_with}
use Rattle.drive_tool.specs.Plans.{Plan, refusal, drive, ChoicePlan, no_action, bad_choice, bad_place, TextPlan, refused, accepted, HeldPlan, RequestPlan, board_refused, board_read, WordsPlan, usage, asked}
use Rattle.drive_tool.specs.Words.{WireNames, AskToDrive, HasUsage}
use Rattle.drive_tool.specs.Answers.{Outside, IsPlanned, IsAnswered, OfWords}
use Rattle.drive_tool.proofs.WordLaws.{one_asked, not_both, IsAskedOrRefused, asked_or_refused}

-- the words ask for this play
pub of_asked : (told : Option (List (List ℕ × List ℕ))) {words : List (List ℕ)} (wire : WireNames) (play : FilePlay) {P Q : List (Option (List ℕ)) → Type 0} → AskToDrive words wire play →
    OfFiles (ArePlayFiles play) told P → ((contents : List (Option (List ℕ))) → P contents → Q contents) → OfWords told words Q
of_asked told {words = words} wire play asks o f = record {
  contents = o.contents;
  read = λ named n. o.read named (n.are ∙ ap play_files (one_asked words n.wire wire n.play play n.asked asks).1);
  holds = f o.contents o.holds;
}

-- they are refused
pub of_refused : (told : Option (List (List ℕ × List ℕ))) {words : List (List ℕ)} {Q : List (Option (List ℕ)) → Type 0} (n : ℕ) → HasUsage words n →
    ((contents : List (Option (List ℕ))) → Q contents) → OfWords told words Q
of_refused told {words = words} n u f = record { contents = []; read = λ named a. absurd (not_both words n a.wire a.play u a.asked); holds = f [] }

-- whatever they are
pub of_any_words : (told : Option (List (List ℕ × List ℕ))) (words : List (List ℕ)) {Q : List (Option (List ℕ)) → Type 0} → ((contents : List (Option (List ℕ))) → Q contents) →
    OfWords told words Q
of_any_words told words {Q = Q} f = by (asked_or_refused words)
  where
    by : IsAskedOrRefused words → OfWords told words Q
    by (inl (wire, play, asks)) = of_asked told wire play asks (of_any_files told (play_files play) f) (λ contents q. q)
    by (inr (n, u)) = of_refused told n u f

-- ---- the status of an answer is that of no fault

choice_fault : {choice : Choice} {placed pins : Bool} {plays : List ℕ → FarEnd → Run} {line : List ℕ} {because : DriveStatus} → ChoicePlan choice placed pins plays (refusal line because) →
    IsFault because → ⊥
choice_fault (no_action e) f = f
choice_fault (bad_choice e) f = f
choice_fault (bad_place procedures e lacks) f = f

text_fault : {request : PlayRequest} {devices : List Desc} {bytes line : List ℕ} {because : DriveStatus} → TextPlan request devices bytes (refusal line because) → IsFault because → ⊥
text_fault (refused piece l reason fault) f = f
text_fault (accepted program plan is a) f = choice_fault a f

held_fault : (request : PlayRequest) (devices : List Desc) (held : Option (List ℕ)) (line : List ℕ) (because : DriveStatus) → HeldPlan request devices held (refusal line because) → IsFault because → ⊥
held_fault request devices None line because a f = absurd a
held_fault request devices (Some bytes) line because a f = text_fault a f

request_fault : {request : PlayRequest} {contents : List (Option (List ℕ))} {line : List ℕ} {because : DriveStatus} → RequestPlan request contents (refusal line because) → IsFault because → ⊥
request_fault (board_refused l reason fault) f = f
request_fault {request = request} {contents = contents} {line = line} {because = because} (board_read devices plan board a) f =
    held_fault request devices (second_of contents) line because a f

words_fault : {words : List (List ℕ)} {contents : List (Option (List ℕ))} {sleeps : Bool} {line : List ℕ} {because : DriveStatus} → WordsPlan words contents sleeps (refusal line because) → IsFault because → ⊥
words_fault (usage n u) f = f
words_fault (asked wire play plan asks e a) f = request_fault a f

ending_fault : (ending : Ending) → IsFault (done_with ending) → ⊥
ending_fault (endings.Exit code) f = f
ending_fault (endings.Fault k piece) f = f
ending_fault endings.Spent f = f

pub answer_fault : {P K : Type 0} (peer : PeerOf P) (sink : SinkOf K) (old new : Outside P K) (words : List (List ℕ)) (contents : List (Option (List ℕ))) (status : DriveStatus) →
    IsPlanned (WordsPlan words contents) (λ sleeps plan. IsAnswered peer sink old new sleeps status plan) → IsFault status → ⊥
answer_fault peer sink old new words contents status p f = by p.plan p.planned p.is
  where
    by : (plan : Plan) → WordsPlan words contents p.sleeps plan → IsAnswered peer sink old new p.sleeps status plan → ⊥
    by (refusal line because) planned is = words_fault planned (subst IsFault is.status_is f)
    by (drive pins plays) planned is = ending_fault is.ending (subst IsFault is.status_is f)
