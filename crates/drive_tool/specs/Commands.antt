-- What a command of the program does: `--help` and `--version`, each alone, are answered by a text of their own; all
-- other words are those of a play over a wire. The rules are this program's own.
use Rattle.std.specs.Prelude.{◌≡◌, ℕ, pos, List, Option}
use Rattle.tool_io.specs.Bytes.{then_bytes, MovesFront}
use Rattle.tool_io.specs.Causes.{HasRisen, NeverFalls}
use Rattle.tool_io.specs.declared.outside.Shelf.{Ghosts as ShelfOf}
use Rattle.tool_io.specs.declared.outside.Sink.{Ghosts as SinkOf}
use Rattle.tool_frame.specs.Commands.{text_asked}
use Rattle.drive_cable.specs.declared.peer.Peer.{Ghosts as PeerOf}
use Rattle.drive_tool.specs.declared.status.DriveStatus.{DriveStatus}
use Rattle.drive_tool.specs.declared.status.DriveStatus.TheVariants.{Done, ReadFault, WriteFault, Memory, WireFault}
use Rattle.drive_tool.specs.declared.help.TheConstants.{HELP, VERSION}
use Rattle.drive_tool.specs.Statuses.{IsFault}
use Rattle.drive_tool.specs.Plans.{WordsPlan}
use Rattle.drive_tool.specs.Answers.{Outside, IsPlanned, IsAnswered, IsCut, IsTorn, IsStill, NamesFiles, OfWords, IsReachedBy, HasFailedRead, HasFailed, KeepsOutside}

-- the text of `--help` or of `--version` that the words ask for, if they are this word alone
abbrev pub asked_text : List (List ℕ) → Option (List ℕ)
asked_text words = text_asked HELP.now VERSION.now words

-- A text was written and nothing else, or a prefix of it at a write fault, with its cause.
pub data HasShown {K : Type 0} (sink : SinkOf K) (text : List ℕ) (before after : K) : DriveStatus → Type 0 where
  all : sink.written after ≡ then_bytes (sink.written before) text → HasShown sink text before after (Done (pos 0))
  prefix : MovesFront (sink.written before) text (sink.written after) → HasRisen sink.faults sink.is_last before after →
      HasShown sink text before after WriteFault

-- What is done for words that ask for a text: it is shown, and the files and the peer stay as they were.
pub record ShowsText {S P K : Type 0} (sink : SinkOf K) (text : List ℕ) (files new_files : S) (old new : Outside P K)
    (status : DriveStatus) : Type 0 where
  pub shown : HasShown sink text old.out new.out status
  pub same_files : new_files ≡ files
  pub same_peer : new.peer ≡ old.peer
  pub count : NeverFalls sink.faults sink.is_last old.out new.out

-- What is done for all other words, as `run_drive` says it clause by clause.
pub record DoesAsAsked {S P K : Type 0} (shelf : ShelfOf S) (peer : PeerOf P) (sink : SinkOf K) (words : List (List ℕ))
    (files new_files : S) (old new : Outside P K) (status : DriveStatus) : Type 0 where
  pub answer : (IsFault status → ⊥) → OfWords (shelf.told files) words (λ contents.
      IsPlanned (WordsPlan words contents) (λ sleeps plan. IsAnswered peer sink old new sleeps status plan))
  pub wire : status ≡ WireFault → HasFailed peer.faults peer.is_last old.peer new.peer
      (OfWords (shelf.told files) words (λ contents.
      IsPlanned (WordsPlan words contents) (IsCut peer sink old new)))
  pub write : status ≡ WriteFault → HasFailed sink.faults sink.is_last old.out new.out
      (OfWords (shelf.told files) words (λ contents.
      IsPlanned (WordsPlan words contents) (IsTorn peer sink old new)))
  pub read : status ≡ ReadFault → HasFailedRead shelf (IsReachedBy (shelf.told files) words) files new_files
      (IsStill peer sink old new)
  pub memory : status ≡ Memory → IsStill peer sink old new
  pub kept : KeepsOutside shelf (NamesFiles words) peer sink files new_files old new
