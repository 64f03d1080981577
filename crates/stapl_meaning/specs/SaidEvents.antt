-- What a turn says: events that are no clocks.
use Rattle.std.specs.Prelude.{◌≡◌, Bool, true, false, List, [], ◌∷◌}
use Rattle.stapl_meaning.specs.declared.events.Event.{Event}
use Rattle.stapl_meaning.specs.declared.events.Event.TheVariants.{Clock}
use Rattle.stapl_meaning.specs.Deeds.{Deed, Says}
use Rattle.stapl_meaning.specs.States.{Turned, Leads, Over, Broken, Scanning, NoTurn}

-- the event is no clock
abbrev pub is_no_clock : Event → Bool
is_no_clock (Clock tms tdi tdo) = false
is_no_clock _ = true

-- none of these deeds says a clock
abbrev pub SayNoClock : List Deed → Type 0
SayNoClock [] = Unit {0}
SayNoClock (Says event ∷ deeds) = (is_no_clock event ≡ true) × SayNoClock deeds
SayNoClock (_ ∷ deeds) = SayNoClock deeds

-- the turn says no clock, whatever its scans capture
abbrev pub TurnSaysNoClock : Turned → Type 0
TurnSaysNoClock (Leads deeds place s) = SayNoClock deeds
TurnSaysNoClock (Over deeds ending s) = SayNoClock deeds
TurnSaysNoClock (Broken deeds fault s) = SayNoClock deeds
TurnSaysNoClock (Scanning deeds scan rest) = SayNoClock deeds × ((bits : List Bool) → TurnSaysNoClock (rest bits))
TurnSaysNoClock (NoTurn deeds) = SayNoClock deeds
