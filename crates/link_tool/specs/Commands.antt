-- What a command of the link does: `--help` and `--version`, each alone, are answered by a text of their own; all other
-- words are those of a session. The rules are this program's own.
use Rattle.std.specs.Prelude.{◌≡◌, ℕ, List, map, Option, Some, None}
use Rattle.dev_card.specs.Sound.{SoundCard}
use Rattle.tool_io.specs.Bytes.{then_bytes, MovesFront}
use Rattle.tool_io.specs.Causes.{HasRisen, NeverFalls, NoneFalls}
use Rattle.tool_io.specs.declared.outside.Shelf.{Ghosts as ShelfOf}
use Rattle.tool_io.specs.declared.outside.Sink.{Ghosts as SinkOf}
use Rattle.tool_frame.specs.Answers.{WroteFront}
use Rattle.tool_frame.specs.Commands.{text_asked}
use Rattle.tool_frame.specs.Files.{PicksNamed, HasReadCause}
use Rattle.named_files.specs.Words.{IsRequest}
use Rattle.named_files.specs.Contents.{NamesBoth, OfWords, IsReachedBy}
use Rattle.link_tool.specs.declared.status.LinkStatus.{LinkStatus}
use Rattle.link_tool.specs.declared.status.LinkStatus.TheVariants.{Done, ReadFault, WriteFault, Memory}
use Rattle.link_tool.specs.declared.help.TheConstants.{HELP, VERSION}
use Rattle.link_tool.specs.Statuses.{IsFault, ComesBeforeFitting}
use Rattle.link_tool.specs.Answers.{link_key, WordsAnswer, WordsDue}
use Rattle.link_tool.specs.Written.{WroteDue, Answered}

-- the text of `--help` or of `--version` that the words ask for, if they are this word alone
abbrev pub asked_text : List (List ℕ) → Option (List ℕ)
asked_text words = text_asked HELP.now VERSION.now words

-- A text was written and nothing else, or a prefix of it at a write fault, with its cause.
pub data HasShown {K : Type 0} (sink : SinkOf K) (text : List ℕ) (before after : K) : LinkStatus → Type 0 where
  all : sink.written after ≡ then_bytes (sink.written before) text → HasShown sink text before after Done
  prefix : MovesFront (sink.written before) text (sink.written after) → HasRisen sink.faults sink.is_last before after →
      HasShown sink text before after WriteFault

-- What is done for words that ask for a text: it is shown, and the files and the rack stay as they were.
pub record ShowsText {S K D : Type 0} (sink : SinkOf K) (text : List ℕ) (files new_files : S) (out new_out : K)
    (rack new_rack : List D) (status : LinkStatus) : Type 0 where
  pub shown : HasShown sink text out new_out status
  pub same_files : new_files ≡ files
  pub count : NeverFalls sink.faults sink.is_last out new_out
  pub same_rack : new_rack ≡ rack

-- What is done for all other words, as `run_link` says it clause by clause.
pub record Serves {S K D Kind : Type 0} (shelf : ShelfOf S) (sink : SinkOf K) (kind_of : D → Kind)
    (fitted : D → Option SoundCard) (words : List (List ℕ)) (files new_files : S) (out new_out : K)
    (rack new_rack : List D) (status : LinkStatus) : Type 0 where
  pub answer : (IsFault status → ⊥) → OfWords link_key (shelf.told files) words (λ contents.
      Answered words contents (sink.written out) (sink.written new_out) status (map fitted new_rack))
  pub read : status ≡ ReadFault → HasReadCause shelf (IsReachedBy link_key (shelf.told files) words) files new_files
  pub due : status ≡ ReadFault → OfWords link_key (shelf.told files) words (λ contents.
      WroteDue (WordsDue shelf files new_files words contents) (sink.written out) (sink.written new_out))
  pub write : status ≡ WriteFault → HasRisen sink.faults sink.is_last out new_out
  pub front : status ≡ WriteFault → OfWords link_key (shelf.told files) words (λ contents.
      WroteFront (WordsAnswer words (λ named. contents)) (sink.written out) (sink.written new_out))
  pub memory : status ≡ Memory → sink.written new_out ≡ sink.written out
  pub once : PicksNamed (NamesBoth (IsRequest link_key words)) (shelf.picks files) (shelf.picks new_files)
  pub keeps : shelf.told new_files ≡ shelf.told files
  pub later : NoneFalls shelf.faults shelf.is_last files new_files
  pub out_later : NeverFalls sink.faults sink.is_last out new_out
  pub before : ComesBeforeFitting status → new_rack ≡ rack
  pub kinds : map kind_of new_rack ≡ map kind_of rack
