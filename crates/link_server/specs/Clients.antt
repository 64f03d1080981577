-- What a client of a link sends for the signals of a cable, and what it receives to them (the protocol remote bitbang, as
-- its client). That a clock is a digit with TCK low, a question and a digit with TCK high is what clients of this protocol
-- do; the bytes of a wait are those of its later versions.
use Rattle.std.specs.Prelude.{ℕ, ◌/◌, ◌%◌, Bool, true, false, List, [], ◌∷◌, ◌++◌, map, replicate}
use Rattle.dev_card.specs.Board.{Input, tdos}
use Rattle.scan_paths.specs.Cables.{Signal, Pulses, Waits, Tunes, clocks_in}
use Rattle.link_server.specs.Orders.{asking_byte}
use Rattle.link_server.specs.Ends.{level_byte}
use Rattle.link_server.specs.Runs.{digit_of}

-- the bytes of one clock: TCK low, a question for TDO, and TCK high
abbrev pub bytes_of_input : Input → List ℕ
bytes_of_input i = level_byte false i.tms i.tdi ∷ asking_byte ∷ level_byte true i.tms i.tdi ∷ []

-- those of clocks with these inputs
abbrev pub bytes_of_inputs : List Input → List ℕ
bytes_of_inputs [] = []
bytes_of_inputs (i ∷ is) = bytes_of_input i ++ bytes_of_inputs is

-- the bytes Z and z, one for each millisecond and one for each microsecond more
abbrev pub bytes_of_wait : Bool → ℕ → List ℕ
bytes_of_wait false usec = []
bytes_of_wait true usec = replicate (usec / 1000) 90 ++ replicate (usec % 1000) 122

-- what is sent for a signal: nothing for a frequency, and something for a wait only if waits are sent
abbrev pub bytes_of_signal : Bool → Signal → List ℕ
bytes_of_signal sleeps (Pulses k) = bytes_of_input (record { tms = k.tms; tdi = k.tdi })
bytes_of_signal sleeps (Waits usec) = bytes_of_wait sleeps usec
bytes_of_signal sleeps (Tunes hertz) = []

abbrev pub bytes_of_signals : Bool → List Signal → List ℕ
bytes_of_signals sleeps [] = []
bytes_of_signals sleeps (s ∷ signals) = bytes_of_signal sleeps s ++ bytes_of_signals sleeps signals

-- what is received for signals: the digit of the TDO of each clock
abbrev pub answers_of : List Signal → List ℕ
answers_of signals = map digit_of (tdos (clocks_in signals))
