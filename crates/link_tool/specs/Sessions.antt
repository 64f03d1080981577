-- The session of a link over the bytes of a file (the protocol remote bitbang, in this profile): what is answered to
-- it, what it does to a board, and how it ends. The rules are this tool's own.
use Rattle.std.specs.Prelude.{◌≡◌, ◌<◌, ◌≤◌, ℕ, true, List, ◌++◌, length, take, Option, IfSome}
use Rattle.std.specs.List.{list_all}
use Rattle.dev_card.specs.Card.{Card}
use Rattle.link_server.specs.declared.orders.Order.TheVariants.{Quit, Refused}
use Rattle.link_server.specs.Runs.{LinkAt, new_link, link_run}
use Rattle.link_server.specs.Ends.{goes_on_after, EndsAt}
use Rattle.link_tool.specs.declared.status.LinkStatus.{LinkStatus}
use Rattle.link_tool.specs.declared.status.LinkStatus.TheVariants.{Done, BadByte, TooLong}

-- the most bytes that a session takes
abbrev pub most_bytes : ℕ
most_bytes = 16777216

-- the bytes of a file that a session may take: the first of them, or all
abbrev pub session_bytes : List ℕ → List ℕ
session_bytes bytes = take most_bytes bytes

-- a link as it begins, to a board
abbrev pub link_to : List Card → LinkAt
link_to board = record { link = new_link; board = board }

-- what is answered to some bytes from the beginning on
abbrev pub first_answers : List Card → List ℕ → List ℕ
first_answers board bytes = (link_run (link_to board) bytes).answers

-- what is answered to a file, and the board that it leaves
abbrev pub session_answers : List Card → List ℕ → List ℕ
session_answers board bytes = first_answers board (session_bytes bytes)

abbrev pub board_left : List Card → List ℕ → List Card
board_left board bytes = (link_run (link_to board) (session_bytes bytes)).end.board

-- no byte of these ends a session
abbrev pub AllGoOn : List ℕ → Type 0
AllGoOn bytes = list_all goes_on_after bytes ≡ true

-- How the session of a file ends: with the first byte that quits; with the end of the file; before the first byte that
-- is refused, whose offset is counted from 0; or with as many bytes as a session takes, if the file has more.
pub data EndsWith (bytes : List ℕ) : LinkStatus → Type 0 where
  at_quit : (n : ℕ) → EndsAt Quit (session_bytes bytes) n → EndsWith bytes Done
  at_end : length bytes ≤ most_bytes → AllGoOn (session_bytes bytes) → EndsWith bytes Done
  at_bad_byte : (i : ℕ) → EndsAt Refused (session_bytes bytes) i → EndsWith bytes (BadByte i)
  at_limit : most_bytes < length bytes → AllGoOn (session_bytes bytes) → EndsWith bytes TooLong

-- A session has not ended with the first bytes of a file that were read, and these are all that were read: the store
-- has the others left, if it tells its files.
pub record IsReadUpTo {F : Type 0} (told : Option F) (left bytes front : List ℕ) : Type 0 where
  pub others : List ℕ
  pub parts : bytes ≡ front ++ others
  pub unread : IfSome told (λ files. left ≡ others)
  pub within : length front ≤ most_bytes
  pub goes_on : AllGoOn front
