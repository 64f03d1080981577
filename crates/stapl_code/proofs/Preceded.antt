-- Deeds in front of a turn, and events in front of what happened.
use Rattle.std.proofs.Common.{◌≡◌, ℕ, Bool, true, false, List, [], ◌∷◌, ◌++◌, refl, sym, ap, ◌∙◌, append_assoc}
use Rattle.stapl_meaning.specs.declared.events.Event.{Event}
use Rattle.std.specs.Prelude.{if◌then◌else◌}
use Rattle.tap_states.specs.Tap.{is_stable_state}
use Rattle.dev_card.specs.Scans.{BoardScan}
use Rattle.stapl_meaning.specs.Deeds.{Deed, Scans, Chain, deed_events, deed_chain, deeds_events, deeds_chain, captured_on}
use Rattle.stapl_meaning.specs.States.{Turned, Leads, Over, Broken, Scanning, NoTurn, preceded, next_chosen, begun, turn_of_piece, Happened, Led, Finished, Broke, Lacks, happens, with_events, scanned_on, happened_in_piece}
use Rattle.stapl_code.specs.Machine.{begins_chosen}

-- no event in front changes nothing
pub with_nothing : (h : Happened) → h ≡ with_events [] h
with_nothing (Led events place s k) = refl
with_nothing (Finished events ending s k) = refl
with_nothing (Broke events f s k) = refl
with_nothing (Lacks events) = refl

-- events in front, and others in front of these
pub with_both : (first second : List Event) (h : Happened) → with_events first (with_events second h) ≡ with_events (first ++ second) h
with_both first second (Led events place s k) = ap (λ l. let h : Happened = Led l place s k in h) (sym (append_assoc first second events))
with_both first second (Finished events ending s k) = ap (λ l. let h : Happened = Finished l ending s k in h) (sym (append_assoc first second events))
with_both first second (Broke events f s k) = ap (λ l. let h : Happened = Broke l f s k in h) (sym (append_assoc first second events))
with_both first second (Lacks events) = ap (λ l. let h : Happened = Lacks l in h) (sym (append_assoc first second events))

-- deeds one after another, and others after them
pub events_after : (k : Chain) (first second : List Deed) → deeds_events k (first ++ second) ≡ deeds_events k first ++ deeds_events (deeds_chain k first) second
events_after k [] second = refl
events_after k (d ∷ first) second =
    ap (λ es. deed_events k d ++ es) (events_after (deed_chain k d) first second)
    ∙ sym (append_assoc (deed_events k d) (deeds_events (deed_chain k d) first) (deeds_events (deeds_chain (deed_chain k d) first) second))

pub chain_after : (k : Chain) (first second : List Deed) → deeds_chain k (first ++ second) ≡ deeds_chain (deeds_chain k first) second
chain_after k [] second = refl
chain_after k (d ∷ first) second = chain_after (deed_chain k d) first second

-- deeds in front of a turn are done before it
pub happens_after : (k : Chain) (deeds : List Deed) (t : Turned) → happens k (preceded deeds t) ≡ with_events (deeds_events k deeds) (happens (deeds_chain k deeds) t)
happens_after k deeds (Leads more place s) =
    ap (λ l. let h : Happened = Led l place s (deeds_chain k (deeds ++ more)) in h) (events_after k deeds more)
    ∙ ap (λ l. let h : Happened = Led (deeds_events k deeds ++ deeds_events (deeds_chain k deeds) more) place s l in h) (chain_after k deeds more)
happens_after k deeds (Over more ending s) =
    ap (λ l. let h : Happened = Finished l ending s (deeds_chain k (deeds ++ more)) in h) (events_after k deeds more)
    ∙ ap (λ l. let h : Happened = Finished (deeds_events k deeds ++ deeds_events (deeds_chain k deeds) more) ending s l in h) (chain_after k deeds more)
happens_after k deeds (Broken more f s) =
    ap (λ l. let h : Happened = Broke l f s (deeds_chain k (deeds ++ more)) in h) (events_after k deeds more)
    ∙ ap (λ l. let h : Happened = Broke (deeds_events k deeds ++ deeds_events (deeds_chain k deeds) more) f s l in h) (chain_after k deeds more)
happens_after k deeds (Scanning more scan rest) =
    let go : List Bool → Chain → Happened = λ bits l. happens l (rest bits) in
    ap (λ l. with_events l (scanned_on (deeds_chain k (deeds ++ more)) scan go)) (events_after k deeds more)
    ∙ ap (λ l. with_events (deeds_events k deeds ++ deeds_events (deeds_chain k deeds) more) (scanned_on l scan go)) (chain_after k deeds more)
    ∙ sym (with_both (deeds_events k deeds) (deeds_events (deeds_chain k deeds) more) (scanned_on (deeds_chain (deeds_chain k deeds) more) scan go))
happens_after k deeds (NoTurn more) = ap (λ l. let h : Happened = Lacks l in h) (events_after k deeds more)

-- what follows a scan, seen through something that keeps the events in front
pub scan_through : (f : Happened → Happened) → ((events : List Event) (h : Happened) → f (with_events events h) ≡ with_events events (f h)) →
    f (Lacks []) ≡ Lacks [] → (k : Chain) (scan : BoardScan) (go : List Bool → Chain → Happened) →
    f (scanned_on k scan go) ≡ scanned_on k scan (λ bits l. f (go bits l))
scan_through f keeps none k scan go = by (is_stable_state k.tap)
  where
    seen : List Event
    seen = deed_events k (Scans scan)

    later : Chain
    later = deed_chain k (Scans scan)

    by : (b : Bool) → f (if b then with_events seen (go (captured_on k scan) later) else Lacks [])
        ≡ (if b then with_events seen (f (go (captured_on k scan) later)) else Lacks [])
    by true = keeps seen (go (captured_on k scan) later)
    by false = none

-- the same after a scan of what follows it
pub scan_alike : (k : Chain) (scan : BoardScan) (go other : List Bool → Chain → Happened) →
    ((bits : List Bool) (l : Chain) → go bits l ≡ other bits l) → scanned_on k scan go ≡ scanned_on k scan other
scan_alike k scan go other same = λ j. scanned_on k scan (λ bits l. same bits l j)

piece_with : (piece : ℕ) (events : List Event) (h : Happened) → happened_in_piece piece (with_events events h) ≡ with_events events (happened_in_piece piece h)
piece_with piece events (Led more place s k) = refl
piece_with piece events (Finished more ending s k) = refl
piece_with piece events (Broke more f s k) = refl
piece_with piece events (Lacks more) = refl

-- the turn of a piece, on a chain
pub happens_in_piece : (k : Chain) (piece : ℕ) (t : Turned) → happens k (turn_of_piece piece t) ≡ happened_in_piece piece (happens k t)
happens_in_piece k piece (Leads deeds place s) = refl
happens_in_piece k piece (Over deeds ending s) = refl
happens_in_piece k piece (Broken deeds f s) = refl
happens_in_piece k piece (Scanning deeds scan rest) =
    let l = deeds_chain k deeds in
    ap (with_events (deeds_events k deeds))
    (scan_alike l scan (λ bits m. happens m (turn_of_piece piece (rest bits))) (λ bits m. happened_in_piece piece (happens m (rest bits)))
    (λ bits m. happens_in_piece m piece (rest bits))
    ∙ sym (scan_through (happened_in_piece piece) (piece_with piece) refl l scan (λ bits m. happens m (rest bits))))
    ∙ sym (piece_with piece (deeds_events k deeds) (scanned_on l scan (λ bits m. happens m (rest bits))))
happens_in_piece k piece (NoTurn deeds) = refl

-- events of the prologue stand in front of the play
pub begins_with : (entry : ℕ → ℕ) (seen : List Event) (h : Happened) → begins_chosen entry (with_events seen h) ≡ with_events seen (begins_chosen entry h)
begins_with entry seen (Led events place s k) = sym (with_both seen events (happens k (next_chosen entry s s.chosen)))
begins_with entry seen (Finished events ending s k) = refl
begins_with entry seen (Broke events f s k) = refl
begins_with entry seen (Lacks events) = refl

-- what sets a play up, and then the first chosen procedure, on a chain
pub happens_begun : (entry : ℕ → ℕ) (k : Chain) (t : Turned) → happens k (begun entry t) ≡ begins_chosen entry (happens k t)
happens_begun entry k (Leads deeds place s) = happens_after k deeds (next_chosen entry s s.chosen)
happens_begun entry k (Over deeds ending s) = refl
happens_begun entry k (Broken deeds f s) = refl
happens_begun entry k (Scanning deeds scan rest) =
    let l = deeds_chain k deeds in
    ap (with_events (deeds_events k deeds))
    (scan_alike l scan (λ bits m. happens m (begun entry (rest bits))) (λ bits m. begins_chosen entry (happens m (rest bits)))
    (λ bits m. happens_begun entry m (rest bits))
    ∙ sym (scan_through (begins_chosen entry) (begins_with entry) refl l scan (λ bits m. happens m (rest bits))))
    ∙ sym (begins_with entry (deeds_events k deeds) (scanned_on l scan (λ bits m. happens m (rest bits))))
happens_begun entry k (NoTurn deeds) = refl
