-- Where the run of a link over bytes ends: after the first byte that quits, before the first one that is refused, or
-- with all of them. The rules are this profile's.
use Rattle.std.specs.Prelude.{◌≡◌, ℕ, ◌+◌, Bool, true, false, List, length, take, Some, if◌then◌else◌, slice_get}
use Rattle.std.specs.List.{list_all}
use Rattle.link_server.specs.declared.orders.Order.{Order}
use Rattle.link_server.specs.declared.orders.Order.TheVariants.{Set, Ask, Nothing, Quit, Refused}
use Rattle.link_server.specs.declared.link.LinkState.TheVariants as states
use Rattle.link_server.specs.Orders.{order_of}
use Rattle.link_server.specs.Runs.{LinkAt, link_run}

-- the byte that sets these levels
abbrev pub level_byte : Bool → Bool → Bool → ℕ
level_byte tck tms tdi = 48 + (if tck then 4 else 0) + (if tms then 2 else 0) + (if tdi then 1 else 0)

-- whether a session goes on
abbrev pub goes_on : Order → Bool
goes_on (Set l) = true
goes_on Ask = true
goes_on Nothing = true
goes_on Quit = false
goes_on Refused = false

abbrev pub goes_on_after : ℕ → Bool
goes_on_after b = goes_on (order_of b)

-- byte n, counted from 0, is the first that ends a session, and this is its meaning
pub record EndsAt (order : Order) (bytes : List ℕ) (n : ℕ) : Type 0 where
  pub byte : ℕ
  pub stands : slice_get bytes n ≡ Some byte
  pub means : order_of byte ≡ order
  pub before : list_all goes_on_after (take n bytes) ≡ true

-- the three ends of a run of an open session
pub record IsAllTaken (at : LinkAt) (bytes : List ℕ) : Type 0 where
  pub still_open : (link_run at bytes).end.link.state ≡ states.Open
  pub none : list_all goes_on_after bytes ≡ true
  pub taken : (link_run at bytes).taken ≡ length bytes

pub record IsQuitTaken (at : LinkAt) (bytes : List ℕ) : Type 0 where
  pub quit : (link_run at bytes).end.link.state ≡ states.Quit
  pub place : ℕ
  pub ends : EndsAt Quit bytes place
  pub taken : (link_run at bytes).taken ≡ place + 1

pub record IsBadLeft (at : LinkAt) (bytes : List ℕ) : Type 0 where
  pub bad : (link_run at bytes).end.link.state ≡ states.Bad
  pub place : ℕ
  pub ends : EndsAt Refused bytes place
  pub taken : (link_run at bytes).taken ≡ place
