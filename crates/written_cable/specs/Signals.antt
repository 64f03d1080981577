-- Events of a play and signals of its cable: what of the events goes over the cable, in order, and what signals are as
-- events.
use Rattle.std.specs.Prelude.{List, [], ◌∷◌}
use Rattle.scan_paths.specs.Cables.{Signal, Pulses, Waits, Tunes}
use Rattle.stapl_meaning.specs.declared.events.Event.{Event}
use Rattle.stapl_meaning.specs.declared.events.Event.TheVariants.{Print, Export, Clock, Usec, Hertz}

abbrev pub signals_of : List Event → List Signal
signals_of [] = []
signals_of (Print text ∷ events) = signals_of events
signals_of (Export key value ∷ events) = signals_of events
signals_of (Clock tms tdi tdo ∷ events) = Pulses (record { tms = tms; tdi = tdi; tdo = tdo }) ∷ signals_of events
signals_of (Usec n ∷ events) = Waits n ∷ signals_of events
signals_of (Hertz n ∷ events) = Tunes n ∷ signals_of events

abbrev pub events_in : List Signal → List Event
events_in [] = []
events_in (Pulses k ∷ signals) = Clock k.tms k.tdi k.tdo ∷ events_in signals
events_in (Waits n ∷ signals) = Usec n ∷ events_in signals
events_in (Tunes n ∷ signals) = Hertz n ∷ events_in signals
