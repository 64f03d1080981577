-- What a reader of a Value Change Dump sees (IEEE 1364, value change dump files): the levels of the wires over time,
-- and so the clocks, each where TCK rises. It names nothing of how the dump is made.
use Rattle.std.specs.Prelude.{◌≡◌, ℕ, ◌+◌, ◌==◌, ◌&&◌, ◌↔◌, Bool, true, false, List, [], ◌∷◌, ◌++◌, map, codes, if◌then◌else◌}
use Rattle.std.specs.Str.Parse.{digits_value}
use Rattle.tap_states.specs.declared.Tap.{Tap}
use Rattle.tap_states.specs.Tap.{tap_number}
use Rattle.pin_lines.specs.PinLines.{lines_of, clock_of_pin}
use Rattle.wave_tool.specs.Items.{Item, Clocked, Waited}
use Rattle.wave_laws.specs.States.{LeadFromEach}

-- a clock as it is seen: a time, with these levels of TMS, TDI and TDO
pub record SeenClock : Type 0 where
  pub time : ℕ
  pub tms : ℕ
  pub tdi : ℕ
  pub tdo : ℕ

-- TCK rises: a clock, and the levels of the four wires of the state before it
pub record Rise : Type 0 where
  pub clock : SeenClock
  pub state : List ℕ

-- what is seen so far: the time, the level of each wire, and where TCK rose
pub record View : Type 0 where
  pub time : ℕ
  pub tck : ℕ
  pub tms : ℕ
  pub tdi : ℕ
  pub tdo : ℕ
  pub tap3 : ℕ
  pub tap2 : ℕ
  pub tap1 : ℕ
  pub tap0 : ℕ
  pub rises : List Rise

-- the levels of the four wires of the state
abbrev pub state_levels : View → List ℕ
state_levels v = v.tap3 ∷ v.tap2 ∷ v.tap1 ∷ v.tap0 ∷ []

abbrev pub rise_seen : View → Rise
rise_seen v =
    record { clock = record { time = v.time; tms = v.tms; tdi = v.tdi; tdo = v.tdo }; state = state_levels v }

abbrev pub rises_at : View → ℕ → List Rise
rises_at v level = if (level == 49) && (v.tck == 48) then rise_seen v ∷ [] else []

-- the wire with this identifier has this level
abbrev pub with_level : View → ℕ → ℕ → View
with_level v id level =
    if id == 33 then record v { tck = level; rises = v.rises ++ rises_at v level }
    else if id == 34 then record v { tms = level }
    else if id == 35 then record v { tdi = level }
    else if id == 36 then record v { tdo = level }
    else if id == 37 then record v { tap3 = level }
    else if id == 38 then record v { tap2 = level }
    else if id == 39 then record v { tap1 = level }
    else if id == 40 then record v { tap0 = level }
    else v

-- A level and an identifier alone change a wire.
abbrev pub after_change : View → ℕ → List ℕ → View
after_change v level [] = v
after_change v level (id ∷ []) = with_level v id level
after_change v level (id ∷ b ∷ rest) = v

-- after a line: `#` (35) and a number is a time
abbrev pub after_line : View → List ℕ → View
after_line v [] = v
after_line v (b ∷ rest) = if b == 35 then record v { time = digits_value 10 rest } else after_change v b rest

abbrev pub after_lines : View → List (List ℕ) → View
after_lines v [] = v
after_lines v (line ∷ lines) = after_lines (after_line v line) lines

-- before the first line nothing is known (x, 120)
abbrev pub no_view : View
no_view = record {
  time = 0;
  tck = 120;
  tms = 120;
  tdi = 120;
  tdo = 120;
  tap3 = 120;
  tap2 = 120;
  tap1 = 120;
  tap0 = 120;
  rises = [];
}

-- what is seen of a whole dump
abbrev pub view_of : List ℕ → View
view_of text = after_lines no_view (lines_of text)

-- the clocks that are seen, and the levels of the state before each
abbrev pub seen_clocks : View → List SeenClock
seen_clocks v = map (λ (rise : Rise). rise.clock) v.rises

abbrev pub states_before : View → List (List ℕ)
states_before v = map (λ (rise : Rise). rise.state) v.rises

-- Four levels show in binary digits the state to which clocks with these values lead from each of the sixteen, and are
-- unknown if there is none.
pub record IsShown (levels : List ℕ) (values : List Bool) : Type 0 where
  pub state : (tap : Tap) → (digits_value 2 levels ≡ tap_number tap) ↔ LeadFromEach values tap
  pub unknown : (levels ≡ codes "xxxx") ↔ ((tap : Tap) → LeadFromEach values tap → ⊥)

-- So it is before each of some clocks, which follow others.
abbrev pub AreShown : List Bool → List Bool → List (List ℕ) → Type 0
AreShown earlier [] states = states ≡ []
AreShown earlier (tms ∷ values) [] = ⊥
AreShown earlier (tms ∷ values) (levels ∷ states) =
    IsShown levels earlier × AreShown (earlier ++ tms ∷ []) values states

-- the digit of a bit
abbrev pub bit_digit : Bool → ℕ
bit_digit true = 49
bit_digit false = 48

-- what is seen of clocks, with waits between them, that begin at a time: a clock takes two microseconds, and TCK rises
-- in its middle
abbrev pub clocks_of : ℕ → List Item → List SeenClock
clocks_of time [] = []
clocks_of time (Clocked digit ∷ items) =
    record {
      time = time + 1;
      tms = bit_digit (clock_of_pin digit).tms;
      tdi = bit_digit (clock_of_pin digit).tdi;
      tdo = bit_digit (clock_of_pin digit).tdo;
    } ∷ clocks_of (time + 2) items
clocks_of time (Waited usec ∷ items) = clocks_of (time + usec) items

-- how long they take
abbrev pub length_of : List Item → ℕ
length_of [] = 0
length_of (Clocked digit ∷ items) = 2 + length_of items
length_of (Waited usec ∷ items) = usec + length_of items
