-- The clocks of deeds and of turns lead the controllers to the state of the chain after them.
use Rattle.std.proofs.Common.{◌≡◌, ◌<◌, ℕ, zero, suc, Bool, true, false, cond, List, [], ◌∷◌, ◌++◌, length, map, replicate, refl, ap, ◌∙◌, arith}
use Rattle.std.proofs.lemmas.List.{map-append, length-append}
use Rattle.std.proofs.lemmas.Bool.{false≢true}
use Rattle.tap_states.specs.declared.Tap.{Tap}
use Rattle.tap_states.specs.Tap.{next_of, is_stable_state}
use Rattle.tap_states.specs.Path.{walk, path_of}
use Rattle.tap_states.proofs.Shortest.{is_path, path_leads}
use Rattle.dev_card.specs.Card.{Card}
use Rattle.dev_card.specs.Board.{Input, Clock, clocks_of, after_input}
use Rattle.dev_card.specs.Line.{shift_state, exit_state, pause_state}
use Rattle.dev_card.specs.Padding.{program_bits}
use Rattle.dev_card.specs.Clocks.{with_zero, rest_tms, entry_tms, entry_inputs, shift_inputs, pause_inputs, stop_inputs}
use Rattle.dev_card.specs.Scans.{BoardScan, scan_bits, inputs_of_scan}
use Rattle.dev_card.specs.FarEnds.{FarEnd, Told, Heard, far_clocks, heard_clocks, then_heard}
use Rattle.dev_card.proofs.Reaching.{entry_leads, rests}
use Rattle.stapl_meaning.specs.declared.events.Event.{Event}
use Rattle.stapl_meaning.specs.declared.events.Event.TheVariants.{Print, Export, Usec, Hertz}
use Rattle.stapl_meaning.specs.declared.events.Event.TheVariants as events
use Rattle.stapl_meaning.specs.Deeds.{Deed, Says, Goes, Stays, Scans, Chain, based, pulses, deed_events, deed_chain, deeds_events, deeds_chain, captured_on}
use Rattle.stapl_meaning.specs.SaidEvents.{is_no_clock, SayNoClock, TurnSaysNoClock}
use Rattle.stapl_meaning.specs.States.{Turned, Leads, Over, Broken, Scanning, NoTurn, Happened, Led, Finished, Broke, Lacks, with_events, scanned_on, happens}
use Rattle.padded_plays.proofs.StableStays.{StayInStable, TurnStays}
use Rattle.scan_accounts.specs.MadeTurns.{clocks_among}
use Rattle.scan_accounts.proofs.JoinedRuns.{tms_of}

-- lists one after another

pub clocks_both : (xs ys : List Event) → clocks_among (xs ++ ys) ≡ clocks_among xs ++ clocks_among ys
clocks_both [] ys = refl
clocks_both (events.Clock tms tdi tdo ∷ xs) ys = ap (λ t. record { tms = tms; tdi = tdi; tdo = tdo } ∷ t) (clocks_both xs ys)
clocks_both (Print bytes ∷ xs) ys = clocks_both xs ys
clocks_both (Export key value ∷ xs) ys = clocks_both xs ys
clocks_both (Usec n ∷ xs) ys = clocks_both xs ys
clocks_both (Hertz n ∷ xs) ys = clocks_both xs ys

pub clocks_of_pulses : (ks : List Clock) → clocks_among (pulses ks) ≡ ks
clocks_of_pulses [] = refl
clocks_of_pulses (k ∷ ks) = ap (λ t. k ∷ t) (clocks_of_pulses ks)

pub walk_both : (at : Tap) (ms ns : List Bool) → walk at (ms ++ ns) ≡ walk (walk at ms) ns
walk_both at [] ns = refl
walk_both at (m ∷ ms) ns = walk_both (next_of at m) ms ns

-- the TMS values among events
abbrev pub tms_among : List Event → List Bool
tms_among es = tms_of (clocks_among es)

pub tms_both : (xs ys : List Event) → tms_among (xs ++ ys) ≡ tms_among xs ++ tms_among ys
tms_both xs ys = ap tms_of (clocks_both xs ys) ∙ map-append (λ (k : Clock). k.tms) (clocks_among xs) (clocks_among ys)

pub walk_events : (at : Tap) (xs ys : List Event) → walk at (tms_among (xs ++ ys)) ≡ walk (walk at (tms_among xs)) (tms_among ys)
walk_events at xs ys =
    ap (λ ks. walk at (tms_of ks)) (clocks_both xs ys)
    ∙ ap (walk at) (map-append (λ (k : Clock). k.tms) (clocks_among xs) (clocks_among ys)) ∙ walk_both at (tms_among xs) (tms_among ys)

-- the TMS values of inputs, which are those of the clocks that they make

abbrev pub input_tms : List Input → List Bool
input_tms is = map (λ (i : Input). i.tms) is

tms_of_clocks : (cs : List Card) (is : List Input) → tms_of (clocks_of cs is) ≡ input_tms is
tms_of_clocks cs [] = refl
tms_of_clocks cs (i ∷ is) = ap (λ t. i.tms ∷ t) (tms_of_clocks (after_input cs i) is)

tms_of_heard : (bs : List Bool) (is : List Input) → tms_of (heard_clocks bs is) ≡ input_tms is
tms_of_heard bs [] = refl
tms_of_heard bs (i ∷ is) = ap (λ t. i.tms ∷ t) (tms_of_heard (then_heard bs) is)

tms_of_far : (far : FarEnd) (is : List Input) → tms_of (far_clocks far is) ≡ input_tms is
tms_of_far (Told cs) is = tms_of_clocks cs is
tms_of_far (Heard bs) is = tms_of_heard bs is

pub tms_of_pulses : (far : FarEnd) (is : List Input) → tms_among (pulses (far_clocks far is)) ≡ input_tms is
tms_of_pulses far is = ap tms_of (clocks_of_pulses (far_clocks far is)) ∙ tms_of_far far is

pub tms_with_zero : (ms : List Bool) → input_tms (with_zero ms) ≡ ms
tms_with_zero [] = refl
tms_with_zero (m ∷ ms) = ap (λ t. m ∷ t) (tms_with_zero ms)

pub walk_with_zero : (at : Tap) (far : FarEnd) (ms : List Bool) → walk at (tms_among (pulses (far_clocks far (with_zero ms)))) ≡ walk at ms
walk_with_zero at far ms = ap (walk at) (tms_of_pulses far (with_zero ms) ∙ tms_with_zero ms)

-- a stay

pub stays : (at : Tap) (n : ℕ) → is_stable_state at ≡ true → walk at (replicate n (rest_tms at)) ≡ at
stays at zero e = refl
stays at (suc n) e = ap (λ t. walk t (replicate n (rest_tms at))) (rests at e) ∙ stays at n e

-- a scan

still_shifts : (ir : Bool) → next_of (shift_state ir) false ≡ shift_state ir
still_shifts true = refl
still_shifts false = refl

leaves_shift : (ir : Bool) → next_of (shift_state ir) true ≡ exit_state ir
leaves_shift true = refl
leaves_shift false = refl

pub pauses : (ir : Bool) → next_of (exit_state ir) false ≡ pause_state ir
pauses true = refl
pauses false = refl

pub shifted : (ir : Bool) (bits : List Bool) → 0 < length bits → walk (shift_state ir) (input_tms (shift_inputs bits)) ≡ exit_state ir
shifted ir [] some = absurd (omega (arith, some))
shifted ir (b ∷ []) some = leaves_shift ir
shifted ir (b ∷ c ∷ bs) some =
    ap (λ t. walk t (input_tms (shift_inputs (c ∷ bs)))) (still_shifts ir) ∙ shifted ir (c ∷ bs) (omega arith)

pub some_padded : (s : BoardScan) → 0 < length s.bits → 0 < length (scan_bits s)
some_padded s some =
    let p = s.paddings in
    let bits : List Bool = program_bits p s.bits in
    let a = length-append (replicate p.base_pre true) (bits ++ replicate p.base_post true) in
    let b = length-append bits (replicate p.base_post true) in
    let c = length-append p.pre (s.bits ++ p.post) in
    let d = length-append s.bits p.post in
    omega (arith, a, b, c, d, some)

scan_leads : (at : Tap) (s : BoardScan) → is_stable_state at ≡ true → 0 < length s.bits → walk at (input_tms (inputs_of_scan at s)) ≡ s.stop
scan_leads at s e some =
    let bits : List Bool = scan_bits s in
    let stop : List Input = stop_inputs s.ir s.stop in
    let tms : Input → Bool = λ i. i.tms in
    let path : List Bool = path_of (pause_state s.ir) s.stop in
    let split : input_tms (inputs_of_scan at s) ≡ entry_tms at s.ir ++ (input_tms (shift_inputs bits) ++ (false ∷ path)) =
    map-append tms (entry_inputs at s.ir) (shift_inputs bits ++ (pause_inputs ++ stop))
    ∙ ap (λ t. t ++ input_tms (shift_inputs bits ++ (pause_inputs ++ stop))) (tms_with_zero (entry_tms at s.ir))
    ∙ ap (λ t. entry_tms at s.ir ++ t) (map-append tms (shift_inputs bits) (pause_inputs ++ stop))
    ∙ ap (λ t. entry_tms at s.ir ++ (input_tms (shift_inputs bits) ++ (false ∷ t))) (tms_with_zero path) in
    ap (walk at) split ∙ walk_both at (entry_tms at s.ir) (input_tms (shift_inputs bits) ++ (false ∷ path))
    ∙ ap (λ t. walk t (input_tms (shift_inputs bits) ++ (false ∷ path))) (entry_leads at s.ir e)
    ∙ walk_both (shift_state s.ir) (input_tms (shift_inputs bits)) (false ∷ path)
    ∙ ap (λ t. walk t (false ∷ path)) (shifted s.ir bits (some_padded s some))
    ∙ ap (λ t. walk t path) (pauses s.ir)
    ∙ path_leads (pause_state s.ir) s.stop path (is_path (pause_state s.ir) s.stop)

pub scan_walks : (k : Chain) (scan : BoardScan) → is_stable_state k.tap ≡ true → 0 < length scan.bits
    → walk k.tap (tms_among (deed_events k (Scans scan))) ≡ scan.stop
scan_walks k scan e some =
    let s : BoardScan = based k.base scan in
    ap (walk k.tap) (tms_of_pulses k.far (inputs_of_scan k.tap s)) ∙ scan_leads k.tap s e some

-- deeds

pub clock_not_said : (e : Event) → is_no_clock e ≡ true → clocks_among (e ∷ []) ≡ []
clock_not_said (events.Clock tms tdi tdo) h = absurd (false≢true h)
clock_not_said (Print bytes) h = refl
clock_not_said (Export key value) h = refl
clock_not_said (Usec n) h = refl
clock_not_said (Hertz n) h = refl

pub deeds_walk : (ds : List Deed) (b : Bool) (k : Chain) → (b ≡ true → is_stable_state k.tap ≡ true) → StayInStable b ds → SayNoClock ds
    → walk k.tap (tms_among (deeds_events k ds)) ≡ (deeds_chain k ds).tap
deeds_walk [] b k st w q = refl
deeds_walk (Says event ∷ ds) b k st w q =
    walk_events k.tap (event ∷ []) (deeds_events k ds) ∙ ap (λ ks. walk (walk k.tap (tms_of ks)) (tms_among (deeds_events k ds))) (clock_not_said event q.0)
    ∙ deeds_walk ds b k st w q.1
deeds_walk (Goes to ∷ ds) b k st w q =
    let l : Chain = deed_chain k (Goes to) in
    walk_events k.tap (deed_events k (Goes to)) (deeds_events l ds)
    ∙ ap (λ t. walk t (tms_among (deeds_events l ds)))
    (walk_with_zero k.tap k.far (path_of k.tap to) ∙ path_leads k.tap to (path_of k.tap to) (is_path k.tap to))
    ∙ deeds_walk ds (is_stable_state to) l (λ e. e) w q
deeds_walk (Stays n ∷ ds) b k st w q =
    let l : Chain = deed_chain k (Stays n) in
    walk_events k.tap (deed_events k (Stays n)) (deeds_events l ds)
    ∙ ap (λ t. walk t (tms_among (deeds_events l ds)))
    (walk_with_zero k.tap k.far (replicate n (rest_tms k.tap)) ∙ stays k.tap n (st w.0))
    ∙ deeds_walk ds b l st w.1 q
deeds_walk (Scans scan ∷ ds) b k st w q = absurd w

-- turns

-- the clocks of what happened lead from a state to that of the chain after it, if there is one
abbrev pub Walks : Tap → Happened → Type 0
Walks at (Led es place s l) = walk at (tms_among es) ≡ l.tap
Walks at (Finished es ending s l) = walk at (tms_among es) ≡ l.tap
Walks at (Broke es f s l) = walk at (tms_among es) ≡ l.tap
Walks at (Lacks es) = Unit {0}

more_walk : (at to : Tap) (xs : List Event) (h : Happened) → walk at (tms_among xs) ≡ to → Walks to h → Walks at (with_events xs h)
more_walk at to xs (Led es place s l) e w = walk_events at xs es ∙ ap (λ t. walk t (tms_among es)) e ∙ w
more_walk at to xs (Finished es ending s l) e w = walk_events at xs es ∙ ap (λ t. walk t (tms_among es)) e ∙ w
more_walk at to xs (Broke es f s l) e w = walk_events at xs es ∙ ap (λ t. walk t (tms_among es)) e ∙ w
more_walk at to xs (Lacks es) e w = tt

if_stable : (b : Bool) (at : Tap) (h : Happened) → (b ≡ true → Walks at h) → Walks at (cond b h (Lacks []))
if_stable true at h w = w refl
if_stable false at h w = tt

pub turn_walks : (t : Turned) (k : Chain) → TurnStays t → TurnSaysNoClock t → Walks k.tap (happens k t)
turn_walks (Leads ds place s) k w q = deeds_walk ds false k (λ e. absurd (false≢true e)) w q
turn_walks (Over ds ending s) k w q = deeds_walk ds false k (λ e. absurd (false≢true e)) w q
turn_walks (Broken ds f s) k w q = deeds_walk ds false k (λ e. absurd (false≢true e)) w q
turn_walks (Scanning ds scan rest) k w q =
    let l : Chain = deeds_chain k ds in
    let l1 : Chain = deed_chain l (Scans scan) in
    let then : Happened = happens l1 (rest (captured_on l scan)) in
    more_walk k.tap l.tap (deeds_events k ds) (scanned_on l scan (λ bits c. happens c (rest bits)))
    (deeds_walk ds false k (λ e. absurd (false≢true e)) w.0 q.0)
    (if_stable (is_stable_state l.tap) l.tap (with_events (deed_events l (Scans scan)) then)
    (λ e. more_walk l.tap scan.stop (deed_events l (Scans scan)) then (scan_walks l scan e w.1)
    (turn_walks (rest (captured_on l scan)) l1 (w.2 (captured_on l scan)) (q.1 (captured_on l scan)))))
turn_walks (NoTurn ds) k w q = tt
