-- What the tool answers: a text and a status, by the words and the contents of the files that they name. It is defined
-- where the files are held that are read before the answer is found: the board first, and the bytes of the link after a
-- board that is right. Words and boards that are refused are answered by the status alone.
use Rattle.std.specs.Prelude.{◌≡◌, ℕ, List, [], Option, Some, map, codes, IsSomeAnd}
use Rattle.tool_io.specs.Causes.{HasRisenAt}
use Rattle.tool_io.specs.declared.outside.Shelf.{Ghosts as ShelfOf}
use Rattle.dev_card.specs.declared.desc.Desc.{Desc}
use Rattle.dev_card.specs.Card.{Card, fresh}
use Rattle.board_text.specs.declared.reason.BoardReason.{BoardReason}
use Rattle.named_files.specs.Boards.{HasBoard, HasBoardFault}
use Rattle.named_files.specs.Words.{FileNames, IsRequest, IsUsage}
use Rattle.named_files.specs.Contents.{Contents, contents_in}
use Rattle.link_tool.specs.declared.status.LinkStatus.{LinkStatus}
use Rattle.link_tool.specs.declared.status.LinkStatus.TheVariants.{BoardRefused, Usage}
use Rattle.link_tool.specs.Sessions.{first_answers, session_answers, EndsWith, IsReadUpTo}

-- the key of the word that names the bytes of the link
abbrev pub link_key : List ℕ
link_key = codes "link="

-- a board of these devices after power-up
abbrev pub new_board : List Desc → List Card
new_board devices = map fresh devices

-- What is written for the bytes of a link, and the status: the answers of a board of these devices, and how the session
-- ends.
pub record LinkAnswer (devices : List Desc) (bytes text : List ℕ) (status : LinkStatus) : Type 0 where
  pub text_is : text ≡ session_answers (new_board devices) bytes
  pub ends : EndsWith bytes status

-- The same for a file, where it is held.
abbrev pub FileAnswer : List Desc → Option (List ℕ) → List ℕ → LinkStatus → Type 0
FileAnswer devices held text status = IsSomeAnd held (λ bytes. LinkAnswer devices bytes text status)

-- The answer to a request: its board is refused at its first fault, or is of these devices, and the answer is that for
-- the bytes of its link.
pub data RequestAnswer (contents : Contents) : List ℕ → LinkStatus → Type 0 where
  board_refused : (line : ℕ) (reason : BoardReason) → HasBoardFault contents.board line reason →
      RequestAnswer contents [] (BoardRefused line reason)
  board_read : (devices : List Desc) (text : List ℕ) (status : LinkStatus) → HasBoard contents.board devices →
      FileAnswer devices contents.file text status → RequestAnswer contents text status

-- The answer to the words, with these contents of the files of each request: they are refused, or what they ask is
-- answered.
pub data WordsAnswer (words : List (List ℕ)) (contents_of : FileNames → Contents) : List ℕ → LinkStatus → Type 0 where
  usage : (n : ℕ) → IsUsage link_key words n → WordsAnswer words contents_of [] (Usage n)
  asked : (named : FileNames) (text : List ℕ) (status : LinkStatus) → IsRequest link_key words named →
      RequestAnswer (contents_of named) text status → WordsAnswer words contents_of text status

-- The answer to the words and the files of a store.
abbrev pub Answer : List (List ℕ) → List (List ℕ × List ℕ) → (List ℕ → LinkStatus → Type 0)
Answer words files = WordsAnswer words (contents_in files)

-- What is written if the bytes of a link could not be read to the end of the session: the answers to exactly those
-- that were read. Nothing is if the file could not be opened, and then the store reads no file.
pub data FileDue {S : Type 0} (shelf : ShelfOf S) (after : S) (devices : List Desc) (held : Option (List ℕ))
    (text : List ℕ) : Type 0 where
  not_opened : ((name : List ℕ) → shelf.reads after name → ⊥) → text ≡ [] → FileDue shelf after devices held text
  up_to : (bytes front : List ℕ) → held ≡ Some bytes →
      IsReadUpTo (shelf.told after) (shelf.left after) bytes front →
      text ≡ first_answers (new_board devices) front → FileDue shelf after devices held text

-- The same of a request. Nothing is written if its board could not be read, and then its count has risen.
pub data RequestDue {S : Type 0} (shelf : ShelfOf S) (before after : S) (named : FileNames) (contents : Contents)
    (text : List ℕ) : Type 0 where
  before_session : HasRisenAt shelf.faults shelf.is_last named.board before after → text ≡ [] →
      RequestDue shelf before after named contents text
  in_session : (devices : List Desc) → HasBoard contents.board devices →
      FileDue shelf after devices contents.file text → RequestDue shelf before after named contents text

-- the same of words
pub record WordsDue {S : Type 0} (shelf : ShelfOf S) (before after : S) (words : List (List ℕ)) (contents : Contents)
    (text : List ℕ) : Type 0 where
  pub named : FileNames
  pub asked : IsRequest link_key words named
  pub due : RequestDue shelf before after named contents text
