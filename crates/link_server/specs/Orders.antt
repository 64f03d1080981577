-- What the bytes of a link mean. The protocol is the one that debuggers call remote bitbang; that reset lines and lamps
-- change nothing, and that the bytes of its later versions are refused, are this profile's rules.
use Rattle.std.specs.Prelude.{ℕ, ◌-◌, ◌%◌, ◌==◌, ◌&&◌, Bool, nat_le, if◌then◌else◌, codes}
use Rattle.std.specs.List.{list_any}
use Rattle.link_server.specs.declared.orders.Levels.{Levels}
use Rattle.link_server.specs.declared.orders.Order.{Order}
use Rattle.link_server.specs.declared.orders.Order.TheVariants.{Set, Ask, Nothing, Quit, Refused}

-- a digit from 0 to 7 has the levels of three lines
abbrev pub is_level_byte : ℕ → Bool
is_level_byte b = nat_le 48 b && nat_le b 55

-- the levels of such a digit: 4 for TCK, 2 for TMS, 1 for TDI
abbrev pub levels_of : ℕ → Levels
levels_of b = record { tck = nat_le 4 (b - 48); tms = nat_le 2 ((b - 48) % 4); tdi = (b - 48) % 2 == 1 }

-- the bytes that are read and change nothing: the lamp on and off, and the levels of the reset lines
abbrev pub is_idle_byte : ℕ → Bool
is_idle_byte b = list_any (λ c. c == b) (codes "Bbrstu")

-- the bytes R and Q
abbrev pub asking_byte : ℕ
asking_byte = 82

abbrev pub quitting_byte : ℕ
quitting_byte = 81

-- what a byte means
abbrev pub order_of : ℕ → Order
order_of b =
    if is_level_byte b then Set (levels_of b)
    else if is_idle_byte b then Nothing
    else if b == asking_byte then Ask
    else if b == quitting_byte then Quit
    else Refused
