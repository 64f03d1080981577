-- Without pins, events one after another have their lines one after another.
use Rattle.std.proofs.Common.{◌≡◌, false, List, [], ◌∷◌, ◌++◌, refl, sym, ap, ◌∙◌, append_assoc, append-nil}
use Rattle.std.specs.Prelude.{flat_map}
use Rattle.stapl_meaning.specs.declared.events.Event.{Event}
use Rattle.stapl_meaning.specs.declared.events.Event.TheVariants.{Print, Export, Usec, Hertz}
use Rattle.stapl_meaning.specs.declared.events.Event.TheVariants as events
use Rattle.stapl_meaning.specs.Texts.{event_line, bytes_of, waiting, pin_line, events_text}
use Rattle.scan_accounts.specs.MadeTurns.{MadeTurn, MadePlay, made_events}
use Rattle.scan_accounts.proofs.MadeEvents.{turn_events}

pub none_waits : (es : List Event) → waiting false [] es ≡ []
none_waits [] = refl
none_waits (events.Clock tms tdi tdo ∷ es) = none_waits es
none_waits (Print bytes ∷ es) = none_waits es
none_waits (Export key value ∷ es) = none_waits es
none_waits (Usec n ∷ es) = none_waits es
none_waits (Hertz n ∷ es) = none_waits es

bytes_are : (es : List Event) → bytes_of false [] es ≡ flat_map event_line es
bytes_are [] = refl
bytes_are (events.Clock tms tdi tdo ∷ es) = bytes_are es
bytes_are (Print bytes ∷ es) = ap (λ t. event_line (Print bytes) ++ t) (bytes_are es)
bytes_are (Export key value ∷ es) = ap (λ t. event_line (Export key value) ++ t) (bytes_are es)
bytes_are (Usec n ∷ es) = ap (λ t. event_line (Usec n) ++ t) (bytes_are es)
bytes_are (Hertz n ∷ es) = ap (λ t. event_line (Hertz n) ++ t) (bytes_are es)

pub text_is : (es : List Event) → events_text false [] es ≡ flat_map event_line es
text_is es =
    ap (λ d. bytes_of false [] es ++ pin_line d) (none_waits es) ∙ append-nil (bytes_of false [] es) ∙ bytes_are es

lines_both : (xs ys : List Event) → flat_map event_line (xs ++ ys) ≡ flat_map event_line xs ++ flat_map event_line ys
lines_both [] ys = refl
lines_both (x ∷ xs) ys =
    ap (λ t. event_line x ++ t) (lines_both xs ys) ∙ sym (append_assoc (event_line x) (flat_map event_line xs) (flat_map event_line ys))

pub text_both : (xs ys : List Event) → events_text false [] (xs ++ ys) ≡ events_text false [] xs ++ events_text false [] ys
text_both xs ys =
    text_is (xs ++ ys) ∙ lines_both xs ys ∙ ap (λ t. t ++ flat_map event_line ys) (sym (text_is xs))
    ∙ ap (λ t. events_text false [] xs ++ t) (sym (text_is ys))

of_turns : (ts : List MadeTurn) → flat_map (λ (t : MadeTurn). events_text false [] t.events) ts ≡ events_text false [] (turn_events ts)
of_turns [] = refl
of_turns (t ∷ ts) = ap (λ x. events_text false [] t.events ++ x) (of_turns ts) ∙ sym (text_both t.events (turn_events ts))

pub other_lines : (made : MadePlay) → events_text false [] made.first ++ flat_map (λ (t : MadeTurn). events_text false [] t.events) made.turns
    ≡ events_text false [] (made_events made)
other_lines made = ap (λ x. events_text false [] made.first ++ x) (of_turns made.turns) ∙ sym (text_both made.first (turn_events made.turns))
