-- The run of a link over bytes: the level of TCK, the session and the board that they leave, what is answered, and how
-- many of them are taken. A clock of the board is a rise of TCK (IEEE 1149.1, test access port); the bytes are those of
-- the protocol remote bitbang, in this profile.
use Rattle.std.specs.Prelude.{◌≡◌, ℕ, ◌+◌, ◌&&◌, not, Bool, true, false, List, [], ◌∷◌, ◌++◌, length, drop, Option, Some, if◌then◌else◌, slice_set}
use Rattle.dev_card.specs.Card.{Card}
use Rattle.dev_card.specs.Board.{board_tdo, board_step}
use Rattle.link_server.specs.declared.orders.Levels.{Levels}
use Rattle.link_server.specs.declared.orders.Order.{Order}
use Rattle.link_server.specs.declared.orders.Order.TheVariants.{Set, Ask, Nothing, Quit, Refused}
use Rattle.link_server.specs.declared.link.LinkState.{LinkState}
use Rattle.link_server.specs.declared.link.LinkState.TheVariants as states
use Rattle.link_server.specs.declared.link.Link.{Link}
use Rattle.link_server.specs.declared.link.Fed.{Fed}
use Rattle.link_server.specs.Orders.{order_of}

-- a link and the cards of its board, the first nearest TDO
pub record LinkAt : Type 0 where
  pub link : Link
  pub board : List Card

-- a link as it begins: TCK is low, and the session is open
abbrev pub new_link : Link
new_link = record { tck = false; state = states.Open }

abbrev pub is_open : LinkState → Bool
is_open states.Open = true
is_open states.Quit = false
is_open states.Bad = false

-- the board after a change of the levels: it is clocked if TCK rises
abbrev pub board_raised : LinkAt → Levels → List Card
board_raised at l = if l.tck && not at.link.tck then board_step at.board l.tms l.tdi else at.board

-- what is left by a byte of an open session, by its meaning
abbrev pub after_order : LinkAt → Order → LinkAt
after_order at (Set l) = record { link = record { tck = l.tck; state = at.link.state }; board = board_raised at l }
after_order at Ask = at
after_order at Nothing = at
after_order at Quit = record { link = record { tck = at.link.tck; state = states.Quit }; board = at.board }
after_order at Refused = record { link = record { tck = at.link.tck; state = states.Bad }; board = at.board }

-- the digit of a bit
abbrev pub digit_of : Bool → ℕ
digit_of true = 49
digit_of false = 48

-- what is answered to it: the board's TDO as it is now
abbrev pub answer_to : LinkAt → Order → List ℕ
answer_to at (Set l) = []
answer_to at Ask = digit_of (board_tdo at.board false) ∷ []
answer_to at Nothing = []
answer_to at Quit = []
answer_to at Refused = []

-- how many bytes it takes: one that is refused is not taken
abbrev pub taken_by : Order → ℕ
taken_by (Set l) = 1
taken_by Ask = 1
taken_by Nothing = 1
taken_by Quit = 1
taken_by Refused = 0

-- the same of a byte of any session: one that is not open takes nothing
abbrev pub after_byte : LinkAt → ℕ → LinkAt
after_byte at b = if is_open at.link.state then after_order at (order_of b) else at

abbrev pub answer_to_byte : LinkAt → ℕ → List ℕ
answer_to_byte at b = if is_open at.link.state then answer_to at (order_of b) else []

abbrev pub taken_at : LinkAt → ℕ → ℕ
taken_at at b = if is_open at.link.state then taken_by (order_of b) else 0

-- what bytes leave, the answers to them in order, and how many are taken
abbrev pub link_after : LinkAt → List ℕ → LinkAt
link_after at [] = at
link_after at (b ∷ bytes) = link_after (after_byte at b) bytes

abbrev pub answers_to : LinkAt → List ℕ → List ℕ
answers_to at [] = []
answers_to at (b ∷ bytes) = answer_to_byte at b ++ answers_to (after_byte at b) bytes

abbrev pub count_taken : LinkAt → List ℕ → ℕ
count_taken at [] = 0
count_taken at (b ∷ bytes) = taken_at at b + count_taken (after_byte at b) bytes

-- the whole run
pub record LinkRun : Type 0 where
  pub end : LinkAt
  pub answers : List ℕ
  pub taken : ℕ

abbrev pub link_run : LinkAt → List ℕ → LinkRun
link_run at bytes =
    record { end = link_after at bytes; answers = answers_to at bytes; taken = count_taken at bytes }

-- These bytes were fed: link and board are those that the run leaves, the buffer has its answers at its front and is
-- else as it was, and both counts are told.
pub record HasFed (at : LinkAt) (bytes old_buffer : List ℕ) (now : Link) (told : Option (List Card))
    (buffer : List ℕ) (fed : Fed) : Type 0 where
  pub link : now ≡ (link_run at bytes).end.link
  pub board : told ≡ Some (link_run at bytes).end.board
  pub answers : buffer ≡ (link_run at bytes).answers ++ drop fed.answered old_buffer
  pub answered : fed.answered ≡ length (link_run at bytes).answers
  pub taken : fed.taken ≡ (link_run at bytes).taken

-- a buffer after an answer is put at a place of it
abbrev pub with_answer : List ℕ → ℕ → List ℕ → List ℕ
with_answer buffer place [] = buffer
with_answer buffer place (a ∷ more) = slice_set buffer place a

-- One byte was fed, with this much taken and answered before.
pub record HasFedByte (at : LinkAt) (b : ℕ) (old_buffer : List ℕ) (before : Fed) (now : Link)
    (told : Option (List Card)) (buffer : List ℕ) (fed : Fed) : Type 0 where
  pub link : now ≡ (after_byte at b).link
  pub board : told ≡ Some (after_byte at b).board
  pub answers : buffer ≡ with_answer old_buffer before.answered (answer_to_byte at b)
  pub answered : fed.answered ≡ before.answered + length (answer_to_byte at b)
  pub taken : fed.taken ≡ before.taken + taken_at at b

-- Nothing was taken, and nothing changed.
pub record IsUnfed {R : Type 0} (old : Link) (old_rack : R) (old_buffer : List ℕ) (now : Link) (new_rack : R)
    (buffer : List ℕ) (fed : Fed) : Type 0 where
  pub link : now ≡ old
  pub rack : new_rack ≡ old_rack
  pub answers : buffer ≡ old_buffer
  pub none : fed ≡ record { taken = 0; answered = 0 }
