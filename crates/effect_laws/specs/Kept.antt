-- What holds of each state that a turn may come to.
use Rattle.std.specs.Prelude.{Bool, List}
use Rattle.stapl_meaning.specs.States.{State, Turned, Leads, Over, Broken, Scanning, NoTurn}

-- it holds of the state after the turn, whatever its scans capture
abbrev pub HoldsAfter : (State → Type 0) → Turned → Type 0
HoldsAfter Holds (Leads deeds place t) = Holds t
HoldsAfter Holds (Over deeds ending t) = Holds t
HoldsAfter Holds (Broken deeds fault t) = Holds t
HoldsAfter Holds (Scanning deeds scan rest) = (bits : List Bool) → HoldsAfter Holds (rest bits)
HoldsAfter Holds (NoTurn deeds) = Unit {0}
