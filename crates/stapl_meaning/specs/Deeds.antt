-- What a turn does to the outside, as data: events that it says, and moves, stays and scans of the chain. What these
-- come to on a chain are events, clocks among them, and the chain after them. Source: JESD71, STATE, WAIT, IRSCAN and
-- DRSCAN.
use Rattle.std.specs.Prelude.{ℕ, Bool, List, [], ◌∷◌, ◌++◌, map}
use Rattle.tap_states.specs.declared.Tap.{Tap}
use Rattle.dev_card.specs.Board.{Clock}
use Rattle.dev_card.specs.Clocks.{move_inputs, stay_inputs}
use Rattle.dev_card.specs.Padding.{BaseLengths, base_pre_of, base_post_of}
use Rattle.dev_card.specs.Scans.{BoardScan, inputs_of_scan, captured_from}
use Rattle.dev_card.specs.FarEnds.{FarEnd, far_clocks, far_after}
use Rattle.stapl_meaning.specs.declared.events.Event.{Event}
use Rattle.stapl_meaning.specs.declared.events.Event.TheVariants as events

-- It says an event that is no clock, it moves the controllers to a state, it stays where they are for so many clocks,
-- or it scans.
pub data Deed : Type 0 where
  Says : (event : Event) → Deed
  Goes : (to : Tap) → Deed
  Stays : (clocks : ℕ) → Deed
  Scans : (scan : BoardScan) → Deed

-- the state of the controllers, the base padding of the scans, which no deed changes, and what answers the clocks
pub record Chain : Type 0 where
  pub tap : Tap
  pub base : BaseLengths
  pub far : FarEnd

-- a scan with this base padding
abbrev pub based : BaseLengths → BoardScan → BoardScan
based base scan = record scan { paddings = record scan.paddings { base_pre = base_pre_of scan.ir base; base_post = base_post_of scan.ir base } }

-- clocks as events
abbrev pub pulse : Clock → Event
pulse k = events.Clock k.tms k.tdi k.tdo

abbrev pub pulses : List Clock → List Event
pulses clocks = map pulse clocks

-- the events of a deed, and the chain after it
abbrev pub deed_events : Chain → Deed → List Event
deed_events k (Says event) = event ∷ []
deed_events k (Goes to) = pulses (far_clocks k.far (move_inputs k.tap to))
deed_events k (Stays n) = pulses (far_clocks k.far (stay_inputs k.tap n))
deed_events k (Scans scan) = pulses (far_clocks k.far (inputs_of_scan k.tap (based k.base scan)))

abbrev pub deed_chain : Chain → Deed → Chain
deed_chain k (Says event) = k
deed_chain k (Goes to) = record k { tap = to; far = far_after k.far (move_inputs k.tap to) }
deed_chain k (Stays n) = record k { far = far_after k.far (stay_inputs k.tap n) }
deed_chain k (Scans scan) = record k { tap = scan.stop; far = far_after k.far (inputs_of_scan k.tap (based k.base scan)) }

-- what a scan captures on a chain
abbrev pub captured_on : Chain → BoardScan → List Bool
captured_on k scan = captured_from k.tap (based k.base scan) (far_clocks k.far (inputs_of_scan k.tap (based k.base scan)))

-- the same of deeds one after another
abbrev pub deeds_events : Chain → List Deed → List Event
deeds_events k [] = []
deeds_events k (d ∷ ds) = deed_events k d ++ deeds_events (deed_chain k d) ds

abbrev pub deeds_chain : Chain → List Deed → Chain
deeds_chain k [] = k
deeds_chain k (d ∷ ds) = deeds_chain (deed_chain k d) ds
