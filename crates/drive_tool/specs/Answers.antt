-- What a call does, by what its words and the contents of their files come to. The rules are this tool's own.
use Rattle.std.specs.Prelude.{◌≡◌, ℕ, Bool, List, Option, None, Some, Result, Ok, Err}
use Rattle.tool_io.specs.Bytes.{then_bytes, MovesFront}
use Rattle.tool_io.specs.Causes.{HasRisen, NeverFalls, NoneFalls}
use Rattle.tool_io.specs.declared.outside.Shelf.{Ghosts as ShelfOf}
use Rattle.tool_io.specs.declared.outside.Sink.{Ghosts as SinkOf}
use Rattle.dev_card.specs.FarEnds.{FarEnd}
use Rattle.stapl_meaning.specs.declared.events.Ending.{Ending}
use Rattle.stapl_meaning.specs.Plays.{Run}
use Rattle.tool_frame.specs.declared.no_answer.NoAnswer.{NoAnswer}
use Rattle.tool_frame.specs.declared.no_answer.NoAnswer.TheVariants.{Read, Write, Memory}
use Rattle.tool_frame.specs.Files.{OfFiles, HasReadCause, PicksNamed}
use Rattle.play_words.specs.declared.requests.FilePlay.{FilePlay}
use Rattle.play_tool.specs.ReadContents.{ArePlayFiles, IsPlayFile}
use Rattle.drive_cable.specs.declared.peer.Peer.{Ghosts as PeerOf}
use Rattle.drive_cable.specs.Peers.{PeerCarried}
use Rattle.drive_tool.specs.declared.status.DriveStatus.{DriveStatus}
use Rattle.drive_tool.specs.Statuses.{done_with}
use Rattle.drive_tool.specs.Words.{WireNames, AskToDrive}
use Rattle.drive_tool.specs.Driven.{Session, IsDriven, IsCutOff, IsUnwritten}
use Rattle.drive_tool.specs.Plans.{Plan, refusal, drive}

-- the peer and the sink that a call is lent
pub record Outside (P K : Type 0) : Type 0 where
  pub peer : P
  pub out : K

abbrev pub outside : {P K : Type 0} → P → K → Outside P K
outside peer out = record { peer = peer; out = out }

-- Some plan is one of these, with or without waits, and this stands of it.
pub record IsPlanned (plans stands : Bool → Plan → Type 0) : Type 0 where
  pub sleeps : Bool
  pub plan : Plan
  pub planned : plans sleeps plan
  pub is : stands sleeps plan

module _ {P K : Type 0} (peer : PeerOf P) (sink : SinkOf K) (old new : Outside P K) where
  -- A session of which this stands was had: its bytes were sent, its answers received, and its text written, where that
  -- is told.
  pub record HasHad (stands : Session → Type 0) : Type 0 where
    pub session : Session
    pub is : stands session
    pub carried : PeerCarried peer.sent peer.left old.peer session.sent session.received new.peer
    pub wrote : sink.written new.out ≡ then_bytes (sink.written old.out) session.text

  -- A line was written, and nothing happened to the peer.
  pub record HasRefused (line : List ℕ) (because status : DriveStatus) : Type 0 where
    pub status_is : status ≡ because
    pub wrote : sink.written new.out ≡ then_bytes (sink.written old.out) line
    pub still : new.peer ≡ old.peer

  -- the same, but a front of the line was written
  pub record HasRefusedInPart (line : List ℕ) : Type 0 where
    pub wrote : MovesFront (sink.written old.out) line (sink.written new.out)
    pub still : new.peer ≡ old.peer

  -- A play was driven to its ending.
  pub record HasEnded (sleeps pins : Bool) (plays : FarEnd → Run) (status : DriveStatus) : Type 0 where
    pub ending : Ending
    pub status_is : status ≡ done_with ending
    pub had : HasHad (λ session. IsDriven sleeps pins plays session ending)

  -- What was done by a plan: what is refused was refused, and a play was driven to its ending.
  abbrev pub IsAnswered : Bool → DriveStatus → Plan → Type 0
  IsAnswered sleeps status (refusal line because) = HasRefused line because status
  IsAnswered sleeps status (drive pins plays) = HasEnded sleeps pins plays status

  -- what was done by a plan before the wire failed, and before its text could not be written
  abbrev pub IsCut : Bool → Plan → Type 0
  IsCut sleeps (refusal line because) = ⊥
  IsCut sleeps (drive pins plays) = HasHad (IsCutOff sleeps pins plays)

  abbrev pub IsTorn : Bool → Plan → Type 0
  IsTorn sleeps (refusal line because) = HasRefusedInPart line
  IsTorn sleeps (drive pins plays) = HasHad (IsUnwritten sleeps pins plays)

  -- Nothing was written, sent or received.
  pub record IsStill : Type 0 where
    pub same_peer : new.peer ≡ old.peer
    pub same_out : new.out ≡ old.out

  -- What is done by a plan, by the result: an answer, what was done before the wire failed, or what was done before its
  -- text could not be written.
  abbrev pub DoesPlan : {E : Type 0} → Bool → Plan → Result (Option DriveStatus) E → Type 0
  DoesPlan sleeps plan (Ok (Some status)) = IsAnswered sleeps status plan
  DoesPlan sleeps plan (Ok None) = IsCut sleeps plan
  DoesPlan sleeps plan (Err e) = IsTorn sleeps plan

  -- The same by some plan of which this stands, and nothing at a read fault and at want of memory.
  abbrev pub ComesTo : (Bool → Plan → Type 0) → Result (Option DriveStatus) NoAnswer → Type 0
  ComesTo plans (Ok (Some status)) = IsPlanned plans (λ sleeps plan. IsAnswered sleeps status plan)
  ComesTo plans (Ok None) = IsPlanned plans IsCut
  ComesTo plans (Err Read) = IsStill
  ComesTo plans (Err Write) = IsPlanned plans IsTorn
  ComesTo plans (Err Memory) = IsStill

-- The count of the peer did not fall, and a failure of the wire has its cause there.
pub record KeepsPeer {P E : Type 0} (peer : PeerOf P) (before after : P) (result : Result (Option DriveStatus) E) : Type 0 where
  pub later : NeverFalls peer.faults peer.is_last before after
  pub wire : result ≡ Ok None → HasRisen peer.faults peer.is_last before after

-- The files of the play that the words ask for: its board at the first place, and its program at the second.
pub record NamesFiles (words : List (List ℕ)) (named : List (Option (List ℕ))) : Type 0 where
  pub wire : WireNames
  pub play : FilePlay
  pub asked : AskToDrive words wire play
  pub are : ArePlayFiles play named

-- This stands of the contents of the files of the words, as they were read. Words that are no request name no file.
abbrev pub OfWords : Option (List (List ℕ × List ℕ)) → List (List ℕ) → (List (Option (List ℕ)) → Type 0) → Type 0
OfWords told words stands = OfFiles (NamesFiles words) told stands

-- a file that the words name and that is read: the program only if no told board is refused
pub record IsReachedBy (told : Option (List (List ℕ × List ℕ))) (words : List (List ℕ)) (path : List ℕ) : Type 0 where
  pub wire : WireNames
  pub play : FilePlay
  pub asked : AskToDrive words wire play
  pub reached : IsPlayFile told play path

-- After a read fault: the count of a file that is reached rose, or stands at its last value; and nothing was done.
pub record HasFailedRead {S : Type 0} (shelf : ShelfOf S) (reached : List ℕ → Type 0) (before after : S) (Still : Type 0) : Type 0 where
  pub cause : HasReadCause shelf reached before after
  pub still : Still

-- After a failure of the wire, or of writing: the count of that rose, or stands at its last value; and this was done.
pub record HasFailed {O : Type 0} (faults : O → ℕ) (is_last : O → Type 0) (before after : O) (Done : Type 0) : Type 0 where
  pub cause : HasRisen faults is_last before after
  pub done : Done

-- The files stay, no count falls, and of the files that are named some in front were picked, each once and in order, and
-- no other file was.
pub record KeepsOutside {S P K : Type 0} (shelf : ShelfOf S) (names : List (Option (List ℕ)) → Type 0) (peer : PeerOf P)
    (sink : SinkOf K) (files new_files : S) (old new : Outside P K) : Type 0 where
  pub once : PicksNamed names (shelf.picks files) (shelf.picks new_files)
  pub files_stay : shelf.told new_files ≡ shelf.told files
  pub of_files : NoneFalls shelf.faults shelf.is_last files new_files
  pub of_peer : NeverFalls peer.faults peer.is_last old.peer new.peer
  pub of_sink : NeverFalls sink.faults sink.is_last old.out new.out
