-- The clocks among the events of a play are answered by what stands at the far end, and lead to what stands there then.
use Rattle.std.proofs.Common.{◌≡◌, ℕ, zero, suc, Bool, true, false, cond, map, List, [], ◌∷◌, ◌++◌, Some, refl, sym, ap, ◌∙◌}
use Rattle.std.proofs.lemmas.List.{map-append}
use Rattle.tap_states.specs.Tap.{is_stable_state}
use Rattle.dev_card.specs.Card.{Card}
use Rattle.dev_card.specs.Board.{Clock, Input, clock_with, clocks_of, after_input}
use Rattle.dev_card.specs.Clocks.{move_inputs, stay_inputs}
use Rattle.dev_card.specs.Padding.{BaseLengths}
use Rattle.dev_card.specs.Scans.{inputs_of_scan}
use Rattle.dev_card.specs.FarEnds.{FarEnd, Told, Heard, far_clocks, far_after, heard_clocks, heard_after, next_heard, then_heard}
use Rattle.dev_card.proofs.ScanLines.{after-append, clocks-append}
use Rattle.stapl_meaning.specs.declared.events.Event.{Event}
use Rattle.stapl_meaning.specs.declared.events.Event.TheVariants.{Print, Export, Usec, Hertz}
use Rattle.stapl_meaning.specs.declared.events.Event.TheVariants as events
use Rattle.stapl_meaning.specs.declared.events.Ending.{Ending}
use Rattle.stapl_meaning.specs.Deeds.{Deed, Says, Goes, Stays, Scans, Chain, based, pulses, deed_events, deed_chain, deeds_events, deeds_chain, captured_on}
use Rattle.stapl_meaning.specs.States.{State, Turned, Leads, Over, Broken, Scanning, NoTurn, Happened, Led, Finished, Broke, Lacks, with_events, scanned_on, happens}
use Rattle.stapl_meaning.specs.Scopes.{Played, zeros_of}
use Rattle.stapl_meaning.specs.Turns.{turn}
use Rattle.stapl_meaning.specs.Plays.{Run, goes_on, run, start, beginning, procedures_run, reset_inputs, reset_events, chain_reset, play, ending_of}
use Rattle.std.proofs.lemmas.Bool.{false≢true}
use Rattle.pin_lines.proofs.PinTexts.{clocks_among, input_of}
use Rattle.stapl_meaning.specs.SaidEvents.{is_no_clock, SayNoClock, TurnSaysNoClock}
use Rattle.stapl_meaning.proofs.SaidEvents.{turn_says, beginning_says}

-- what goes in at the clocks among events
abbrev pub inputs_among : List Event → List Input
inputs_among es = map input_of (clocks_among es)

-- this far end answers the clocks among these events, and they lead to that one
pub record Follows (from : FarEnd) (es : List Event) (to : FarEnd) : Type 0 where
  pub seen : far_clocks from (inputs_among es) ≡ clocks_among es
  pub leads : to ≡ far_after from (inputs_among es)

-- lists one after another

heard_clocks-append : (is js : List Input) (bs : List Bool) → heard_clocks bs (is ++ js) ≡ heard_clocks bs is ++ heard_clocks (heard_after bs is) js
heard_clocks-append [] js bs = refl
heard_clocks-append (i ∷ is) js bs = ap (λ t. clock_with i (next_heard bs) ∷ t) (heard_clocks-append is js (then_heard bs))

heard_after-append : (is js : List Input) (bs : List Bool) → heard_after bs (is ++ js) ≡ heard_after (heard_after bs is) js
heard_after-append [] js bs = refl
heard_after-append (i ∷ is) js bs = heard_after-append is js (then_heard bs)

far_clocks-append : (far : FarEnd) (is js : List Input) → far_clocks far (is ++ js) ≡ far_clocks far is ++ far_clocks (far_after far is) js
far_clocks-append (Told cs) is js = clocks-append is js cs
far_clocks-append (Heard bs) is js = heard_clocks-append is js bs

far_after-append : (far : FarEnd) (is js : List Input) → far_after far (is ++ js) ≡ far_after (far_after far is) js
far_after-append (Told cs) is js = ap Told (after-append is js cs)
far_after-append (Heard bs) is js = ap Heard (heard_after-append is js bs)

clocks_among-append : (xs ys : List Event) → clocks_among (xs ++ ys) ≡ clocks_among xs ++ clocks_among ys
clocks_among-append [] ys = refl
clocks_among-append (events.Clock tms tdi tdo ∷ xs) ys = ap (λ t. record { tms = tms; tdi = tdi; tdo = tdo } ∷ t) (clocks_among-append xs ys)
clocks_among-append (Print bytes ∷ xs) ys = clocks_among-append xs ys
clocks_among-append (Export key value ∷ xs) ys = clocks_among-append xs ys
clocks_among-append (Usec n ∷ xs) ys = clocks_among-append xs ys
clocks_among-append (Hertz n ∷ xs) ys = clocks_among-append xs ys

inputs_among-append : (xs ys : List Event) → inputs_among (xs ++ ys) ≡ inputs_among xs ++ inputs_among ys
inputs_among-append xs ys = ap (map input_of) (clocks_among-append xs ys) ∙ map-append input_of (clocks_among xs) (clocks_among ys)

pub no_events_follow : (far : FarEnd) → Follows far [] far
no_events_follow (Told cs) = record { seen = refl; leads = refl }
no_events_follow (Heard bs) = record { seen = refl; leads = refl }

pub both_follow : (a b c : FarEnd) (xs ys : List Event) → Follows a xs b → Follows b ys c → Follows a (xs ++ ys) c
both_follow a b c xs ys p q =
    let is : List Input = inputs_among xs in
    let js : List Input = inputs_among ys in
    record {
      seen = ap (far_clocks a) (inputs_among-append xs ys) ∙ far_clocks-append a is js ∙ ap (λ t. t ++ far_clocks (far_after a is) js) p.seen
          ∙ ap (λ f. clocks_among xs ++ far_clocks f js) (sym p.leads) ∙ ap (λ t. clocks_among xs ++ t) q.seen ∙ sym (clocks_among-append xs ys);
      leads = q.leads ∙ ap (λ f. far_after f js) p.leads ∙ sym (far_after-append a is js) ∙ ap (far_after a) (sym (inputs_among-append xs ys));
    }

-- clocks that a far end makes follow from it
clocks_of_pulses : (ks : List Clock) → clocks_among (pulses ks) ≡ ks
clocks_of_pulses [] = refl
clocks_of_pulses (k ∷ ks) = ap (λ t. k ∷ t) (clocks_of_pulses ks)

inputs_of_clocks : (cs : List Card) (is : List Input) → map input_of (clocks_of cs is) ≡ is
inputs_of_clocks cs [] = refl
inputs_of_clocks cs (i ∷ is) = ap (λ t. i ∷ t) (inputs_of_clocks (after_input cs i) is)

inputs_of_heard : (bs : List Bool) (is : List Input) → map input_of (heard_clocks bs is) ≡ is
inputs_of_heard bs [] = refl
inputs_of_heard bs (i ∷ is) = ap (λ t. i ∷ t) (inputs_of_heard (then_heard bs) is)

inputs_of_far : (far : FarEnd) (is : List Input) → map input_of (far_clocks far is) ≡ is
inputs_of_far (Told cs) is = inputs_of_clocks cs is
inputs_of_far (Heard bs) is = inputs_of_heard bs is

pub pulses_follow : (far : FarEnd) (is : List Input) → Follows far (pulses (far_clocks far is)) (far_after far is)
pulses_follow far is =
    let e : inputs_among (pulses (far_clocks far is)) ≡ is = ap (map input_of) (clocks_of_pulses (far_clocks far is)) ∙ inputs_of_far far is in
    record {
      seen = ap (far_clocks far) e ∙ sym (clocks_of_pulses (far_clocks far is));
      leads = ap (far_after far) (sym e);
    }

-- deeds
said : (far : FarEnd) (e : Event) → clocks_among (e ∷ []) ≡ [] → Follows far (e ∷ []) far
said far e h = record {
  seen = ap (λ ks. far_clocks far (map input_of ks)) h ∙ (no_events_follow far).seen ∙ sym h;
  leads = (no_events_follow far).leads ∙ ap (λ ks. far_after far (map input_of ks)) (sym h);
}

clock_not_said : (e : Event) → is_no_clock e ≡ true → clocks_among (e ∷ []) ≡ []
clock_not_said (events.Clock tms tdi tdo) h = absurd (false≢true h)
clock_not_said (Print bytes) h = refl
clock_not_said (Export key value) h = refl
clock_not_said (Usec n) h = refl
clock_not_said (Hertz n) h = refl

pub deed_follows : (k : Chain) (d : Deed) → SayNoClock (d ∷ []) → Follows k.far (deed_events k d) (deed_chain k d).far
deed_follows k (Says event) h = said k.far event (clock_not_said event h.0)
deed_follows k (Goes to) h = pulses_follow k.far (move_inputs k.tap to)
deed_follows k (Stays n) h = pulses_follow k.far (stay_inputs k.tap n)
deed_follows k (Scans scan) h = pulses_follow k.far (inputs_of_scan k.tap (based k.base scan))

head_says : (d : Deed) (ds : List Deed) → SayNoClock (d ∷ ds) → SayNoClock (d ∷ []) × SayNoClock ds
head_says (Says event) ds h = ((h.0, tt), h.1)
head_says (Goes to) ds h = (tt, h)
head_says (Stays n) ds h = (tt, h)
head_says (Scans scan) ds h = (tt, h)

pub deeds_follow : (ds : List Deed) (k : Chain) → SayNoClock ds → Follows k.far (deeds_events k ds) (deeds_chain k ds).far
deeds_follow [] k h = no_events_follow k.far
deeds_follow (d ∷ ds) k h =
    let p = head_says d ds h in
    both_follow k.far (deed_chain k d).far (deeds_chain (deed_chain k d) ds).far (deed_events k d) (deeds_events (deed_chain k d) ds) (deed_follows k d p.0) (deeds_follow ds (deed_chain k d) p.1)

-- turns
abbrev pub HappenedFollows : FarEnd → Happened → Type 0
HappenedFollows far (Led es place s l) = Follows far es l.far
HappenedFollows far (Finished es ending s l) = Follows far es l.far
HappenedFollows far (Broke es f s l) = Follows far es l.far
HappenedFollows far (Lacks es) = Unit {0}

pub more_follow : (a b : FarEnd) (xs : List Event) (h : Happened) → Follows a xs b → HappenedFollows b h → HappenedFollows a (with_events xs h)
more_follow a b xs (Led es place s l) p q = both_follow a b l.far xs es p q
more_follow a b xs (Finished es ending s l) p q = both_follow a b l.far xs es p q
more_follow a b xs (Broke es f s l) p q = both_follow a b l.far xs es p q
more_follow a b xs (Lacks es) p q = tt

pub either_follows : (far : FarEnd) (b : Bool) (h : Happened) → HappenedFollows far h → HappenedFollows far (cond b h (Lacks []))
either_follows far true h p = p
either_follows far false h p = tt

pub turn_follows : (t : Turned) (k : Chain) → TurnSaysNoClock t → HappenedFollows k.far (happens k t)
turn_follows (Leads ds place s) k h = deeds_follow ds k h
turn_follows (Over ds ending s) k h = deeds_follow ds k h
turn_follows (Broken ds f s) k h = deeds_follow ds k h
turn_follows (Scanning ds scan rest) k h =
    let l : Chain = deeds_chain k ds in
    let l1 : Chain = deed_chain l (Scans scan) in
    let then : Happened = happens l1 (rest (captured_on l scan)) in
    more_follow k.far l.far (deeds_events k ds) (scanned_on l scan (λ bits c. happens c (rest bits))) (deeds_follow ds k h.0)
    (either_follows l.far (is_stable_state l.tap) (with_events (deed_events l (Scans scan)) then)
    (more_follow l.far l1.far (deed_events l (Scans scan)) then (deed_follows l (Scans scan) tt) (turn_follows (rest (captured_on l scan)) l1 (h.1 (captured_on l scan)))))
turn_follows (NoTurn ds) k h = tt

-- runs that were played to their ending, or for all their turns
abbrev pub RunFollows : FarEnd → Run → Type 0
RunFollows far r = (ending : Ending) → ending_of r.outcome ≡ Some ending → Follows far r.events r.chain.far

pub on_turn : (far : FarEnd) (h : Happened) (s : State) (k : Chain) (go : ℕ → State → Chain → Run) → HappenedFollows far h
    → ((place : ℕ) (t : State) (l : Chain) → RunFollows l.far (go place t l)) → RunFollows far (goes_on h s k go)
on_turn far (Led es place t l) s k go p q = λ ending e. both_follow far l.far (go place t l).chain.far es (go place t l).events p (q place t l ending e)
on_turn far (Finished es end t l) s k go p q = λ ending e. p
on_turn far (Broke es f t l) s k go p q = λ ending e. absurd (cc)
on_turn far (Lacks es) s k go p q = λ ending e. absurd (cc)

run_follows : (program : Played) (n i : ℕ) (s : State) (k : Chain) → RunFollows k.far (run program n i s k)
run_follows program zero i s k = λ ending e. no_events_follow k.far
run_follows program (suc n) i s k =
    on_turn k.far (happens k (turn program i s)) s k (run program n) (turn_follows (turn program i s) k (turn_says program i s))
    (λ place t l. run_follows program n place t l)

pub play_follows : (program : Played) (chosen : List ℕ) (n : ℕ) (base : BaseLengths) (far : FarEnd) → RunFollows far (play program chosen n base far)
play_follows program chosen n base far = λ ending e.
    let k : Chain = chain_reset base far in
    let s : State = start chosen (zeros_of program) in
    let r : RunFollows k.far (procedures_run program chosen n k) =
    on_turn k.far (happens k (beginning program s)) s k (run program n) (turn_follows (beginning program s) k (beginning_says program s))
    (λ place t l. run_follows program n place t l) in
    both_follow far k.far (procedures_run program chosen n k).chain.far (reset_events far) (procedures_run program chosen n k).events
    (pulses_follow far reset_inputs) (r ending e)
