-- On events as signals.
use Rattle.std.proofs.Common.{◌≡◌, List, [], ◌∷◌, ◌++◌, refl, ap, ◌∙◌}
use Rattle.dev_card.specs.Board.{Clock}
use Rattle.scan_paths.specs.Cables.{Signal, Pulses, Waits, Tunes, pulsed, clocks_in}
use Rattle.scan_paths.proofs.Signals.{clocks_in_both, clocks_in_pulsed}
use Rattle.stapl_meaning.specs.declared.events.Event.{Event}
use Rattle.stapl_meaning.specs.declared.events.Event.TheVariants.{Print, Export, Clock as Pulse, Usec, Hertz}
use Rattle.stapl_meaning.specs.Deeds.{pulses}
use Rattle.written_cable.specs.Signals.{signals_of, events_in}

pub signals_both : (xs ys : List Event) → signals_of (xs ++ ys) ≡ signals_of xs ++ signals_of ys
signals_both [] ys = refl
signals_both (Print text ∷ xs) ys = signals_both xs ys
signals_both (Export key value ∷ xs) ys = signals_both xs ys
signals_both (Pulse tms tdi tdo ∷ xs) ys =
    ap (λ (z : List Signal). Pulses (record { tms = tms; tdi = tdi; tdo = tdo }) ∷ z) (signals_both xs ys)
signals_both (Usec n ∷ xs) ys = ap (λ (z : List Signal). Waits n ∷ z) (signals_both xs ys)
signals_both (Hertz n ∷ xs) ys = ap (λ (z : List Signal). Tunes n ∷ z) (signals_both xs ys)

pub signals_of_pulses : (clocks : List Clock) → signals_of (pulses clocks) ≡ pulsed clocks
signals_of_pulses [] = refl
signals_of_pulses (k ∷ ks) = ap (λ (z : List Signal). Pulses k ∷ z) (signals_of_pulses ks)

pub clocks_of_both : (xs ys : List Event) (front back : List Clock) → clocks_in (signals_of xs) ≡ front →
    clocks_in (signals_of ys) ≡ back →
    clocks_in (signals_of (xs ++ ys)) ≡ front ++ back
clocks_of_both xs ys front back p q =
    ap clocks_in (signals_both xs ys) ∙ clocks_in_both (signals_of xs) (signals_of ys)
    ∙ ap (λ (z : List Clock). z ++ clocks_in (signals_of ys)) p ∙ ap (λ (z : List Clock). front ++ z) q

pub clocks_of_pulses : (clocks : List Clock) → clocks_in (signals_of (pulses clocks)) ≡ clocks
clocks_of_pulses clocks = ap clocks_in (signals_of_pulses clocks) ∙ clocks_in_pulsed clocks

pub events_in_pulsed : (clocks : List Clock) → events_in (pulsed clocks) ≡ pulses clocks
events_in_pulsed [] = refl
events_in_pulsed (k ∷ ks) = ap (λ (z : List Event). Pulse k.tms k.tdi k.tdo ∷ z) (events_in_pulsed ks)
