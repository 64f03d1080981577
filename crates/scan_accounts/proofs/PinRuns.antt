-- The runs of a play are those of its clocks, as its text with pins has them.
use Rattle.std.proofs.Common.{◌≡◌, ℕ, zero, suc, ◌+◌, ◌-◌, Bool, true, false, map, take, List, [], ◌∷◌, ◌++◌, length, refl, sym, ap, ◌∙◌, append_assoc, append-nil, arith}
use Rattle.std.specs.Prelude.{flat_map}
use Rattle.std.proofs.lemmas.List.{map-append, take_all, length-map}
use Rattle.std.proofs.lemmas.Bool.{false≢true}
use Rattle.tap_states.specs.declared.Tap.{Tap}
use Rattle.tap_states.specs.declared.Tap.TheVariants.{Reset, Idle, DrPause, IrPause}
use Rattle.tap_states.specs.Tap.{is_stable_state}
use Rattle.tap_states.specs.Path.{walk, five_ones}
use Rattle.dev_card.specs.Padding.{BaseLengths, base_pre_of, base_post_of}
use Rattle.dev_card.specs.FarEnds.{FarEnd, Told, Heard}
use Rattle.stapl_meaning.specs.declared.events.Event.{Event}
use Rattle.stapl_meaning.specs.declared.events.Event.TheVariants.{Print, Export, Usec, Hertz}
use Rattle.stapl_meaning.specs.declared.events.Event.TheVariants as events
use Rattle.stapl_meaning.specs.declared.events.Ending.{Ending}
use Rattle.stapl_meaning.specs.Deeds.{Chain}
use Rattle.stapl_meaning.specs.States.{State, Happened, Led, Finished, Broke, Lacks, happens}
use Rattle.stapl_meaning.specs.Scopes.{Played, zeros_of}
use Rattle.stapl_meaning.specs.Turns.{turn}
use Rattle.stapl_meaning.specs.Plays.{start, beginning, reset_events, chain_reset, play}
use Rattle.stapl_meaning.specs.Texts.{text_of}
use Rattle.stapl_meaning.specs.Typed.{IsTyped}
use Rattle.stapl_meaning.proofs.SaidEvents.{turn_says, beginning_says}
use Rattle.padded_plays.specs.QuietPlays.{no_base}
use Rattle.padded_plays.proofs.StableStays.{turn_stays, beginning_stays}
use Rattle.pin_lines.specs.PinLines.{pins_in, clock_of_pin, clocks_of_pins}
use Rattle.pin_lines.proofs.Lines.{IsPart, no_part}
use Rattle.pin_lines.proofs.PinTexts as pin_texts
use Rattle.scan_accounts.specs.ShiftRuns.{ShiftRun, shift_runs}
use Rattle.scan_accounts.specs.MadeTurns.{MadeTurn, MadePlay, happened_events, turns_after, made_turns, begins, made_play, made_events, clocks_among}
use Rattle.scan_accounts.specs.Accounts.{Passage, inner_bits, unpadded, said_run, passages_of, passages, account_of}
use Rattle.scan_accounts.specs.PinRuns.{runs_of_pins}
use Rattle.scan_accounts.proofs.MadeEvents.{turn_events, play_events}
use Rattle.scan_accounts.proofs.JoinedRuns.{shifts, runs_joined}
use Rattle.scan_accounts.proofs.WalkedTurns.{clocks_both, tms_among, walk_with_zero, Walks, turn_walks}
use Rattle.scan_accounts.proofs.StableTurns.{HasStableStops, StandsStable, turn_stands, beginning_stands, beginning_makes_none, no_events}

-- in a stable state no register shifts
pub stable_rests : (at : Tap) → is_stable_state at ≡ true → shifts at ≡ false
stable_rests Reset e = refl
stable_rests Idle e = refl
stable_rests DrPause e = refl
stable_rests IrPause e = refl
stable_rests _ e = absurd (false≢true e)

-- the runs of turns, each by its own clocks
abbrev runs_of_turn : MadeTurn → List ShiftRun
runs_of_turn t = shift_runs t.from (clocks_among t.events)

abbrev runs_of_turns : List MadeTurn → List ShiftRun
runs_of_turns ts = flat_map runs_of_turn ts

-- what happened has its runs, and then what follows it has those of its turns
runs_go_on : (h : Happened) (at : Tap) (next : ℕ → State → Chain → List MadeTurn) → Walks at h → StandsStable h
    → ((place : ℕ) (s : State) (l : Chain) → is_stable_state l.tap ≡ true → HasStableStops s
    → shift_runs l.tap (clocks_among (turn_events (next place s l))) ≡ runs_of_turns (next place s l))
    → shift_runs at (clocks_among (happened_events h ++ turn_events (turns_after h next)))
    ≡ shift_runs at (clocks_among (happened_events h)) ++ runs_of_turns (turns_after h next)
runs_go_on (Led es place s l) at next w st more =
    let rest : List Event = turn_events (next place s l) in
    let out : shifts (walk at (tms_among es)) ≡ false = ap shifts w ∙ stable_rests l.tap st.0 in
    ap (shift_runs at) (clocks_both es rest) ∙ runs_joined (clocks_among es) (clocks_among rest) at out
    ∙ ap (λ t. shift_runs at (clocks_among es) ++ shift_runs t (clocks_among rest)) w
    ∙ ap (λ t. shift_runs at (clocks_among es) ++ t) (more place s l st.0 st.1)
runs_go_on (Finished es ending s l) at next w st more =
    ap (λ t. shift_runs at (clocks_among t)) (append-nil es) ∙ sym (append-nil (shift_runs at (clocks_among es)))
runs_go_on (Broke es f s l) at next w st more =
    ap (λ t. shift_runs at (clocks_among t)) (append-nil es) ∙ sym (append-nil (shift_runs at (clocks_among es)))
runs_go_on (Lacks es) at next w st more =
    ap (λ t. shift_runs at (clocks_among t)) (append-nil es) ∙ sym (append-nil (shift_runs at (clocks_among es)))

module _ (program : Played) (typed : IsTyped program) where
  runs_of_run : (n i : ℕ) (s : State) (k : Chain) → is_stable_state k.tap ≡ true → HasStableStops s
      → shift_runs k.tap (clocks_among (turn_events (made_turns program n i s k))) ≡ runs_of_turns (made_turns program n i s k)
  runs_of_run zero i s k e fits = refl
  runs_of_run (suc n) i s k e fits =
      runs_go_on (happens k (turn program i s)) k.tap (made_turns program n)
      (turn_walks (turn program i s) k (turn_stays program i s) (turn_says program i s))
      (turn_stands program typed i s k fits e) (λ place t l stable stops. runs_of_run n place t l stable stops)

  -- the five first clocks, and then the rest of the play
  runs_of_play : (chosen : List ℕ) (n : ℕ) (base : BaseLengths) (far : FarEnd) →
      shift_runs Reset (clocks_among (made_events (made_play program chosen n base far))) ≡ runs_of_turns (made_play program chosen n base far).turns
  runs_of_play chosen n base far =
      let k : Chain = chain_reset base far in
      let s : State = start chosen (zeros_of program) in
      let h : Happened = begins program chosen k in
      let fits : HasStableStops s = (refl, refl, tt) in
      let first : List Event = reset_events far in
      let rest : List Event = happened_events h ++ turn_events (turns_after h (made_turns program n)) in
      let resets : walk Reset (tms_among first) ≡ Reset = walk_with_zero Reset far five_ones in
      let none : happened_events h ≡ [] = no_events (beginning program s) k (beginning_makes_none program s typed) in
      let parts : shift_runs Reset (clocks_among (first ++ rest)) ≡ shift_runs Reset (clocks_among first) ++ shift_runs Reset (clocks_among rest) =
      ap (shift_runs Reset) (clocks_both first rest) ∙ runs_joined (clocks_among first) (clocks_among rest) Reset (ap shifts resets)
      ∙ ap (λ t. shift_runs Reset (clocks_among first) ++ shift_runs t (clocks_among rest)) resets in
      let later : shift_runs Reset (clocks_among rest) ≡ runs_of_turns (turns_after h (made_turns program n)) =
      runs_go_on h Reset (made_turns program n) (turn_walks (beginning program s) k (beginning_stays program s) (beginning_says program s))
      (beginning_stands program typed s k fits refl) (λ place t l stable stops. runs_of_run n place t l stable stops)
      ∙ ap (λ t. shift_runs Reset (clocks_among t) ++ runs_of_turns (turns_after h (made_turns program n))) none in
      ap (λ t. shift_runs Reset (clocks_among t)) (append_assoc first (happened_events h) (turn_events (turns_after h (made_turns program n))))
      ∙ parts ∙ ap (λ t. t ++ shift_runs Reset (clocks_among rest)) (no_runs_first far) ∙ later
    where
      no_runs_first : (far : FarEnd) → shift_runs Reset (clocks_among (reset_events far)) ≡ []
      no_runs_first (Told cs) = refl
      no_runs_first (Heard answers) = refl

-- a run without base padding is said as it is

all_between : (bits : List Bool) → inner_bits 0 0 bits ≡ bits
all_between bits =
    let whole : length bits - (0 + 0) ≡ length bits = omega arith in
    ap (λ n. take n bits) whole ∙ take_all (length bits) bits (omega arith)

none_added : (ir : Bool) (bits : List Bool) → inner_bits (base_pre_of ir no_base) (base_post_of ir no_base) bits ≡ bits
none_added true bits = all_between bits
none_added false bits = all_between bits

said_whole : (scans : Bool) (run : ShiftRun) → said_run no_base scans run ≡ run
said_whole false run = refl
said_whole true run =
    ap (λ bits. record (unpadded no_base run) { bits_in = bits }) (none_added run.ir run.bits_in)
    ∙ ap (λ bits. record run { bits_out = bits }) (none_added run.ir run.bits_out)

-- the runs of what is said
abbrev pub runs_said : List Passage → List ShiftRun
runs_said said = map (λ (p : Passage). p.run) said

said_of_runs : (t : MadeTurn) (runs : List ShiftRun) →
    runs_said (map (λ run. record { place = t.place; scan = t.scans; run = said_run no_base t.scans run }) runs) ≡ runs
said_of_runs t [] = refl
said_of_runs t (run ∷ runs) =
    ap (λ x. x ∷ runs_said (map (λ run. record { place = t.place; scan = t.scans; run = said_run no_base t.scans run }) runs)) (said_whole t.scans run)
    ∙ ap (λ x. run ∷ x) (said_of_runs t runs)

said_of_turns : (ts : List MadeTurn) → runs_said (flat_map (passages_of no_base) ts) ≡ runs_of_turns ts
said_of_turns [] = refl
said_of_turns (t ∷ ts) =
    map-append (λ (p : Passage). p.run) (passages_of no_base t) (flat_map (passages_of no_base) ts)
    ∙ ap (λ x. x ++ runs_said (flat_map (passages_of no_base) ts)) (said_of_runs t (runs_of_turn t))
    ∙ ap (λ x. runs_of_turn t ++ x) (said_of_turns ts)

-- the clocks of a text with pins

same_clocks : (es : List Event) → pin_texts.clocks_among es ≡ clocks_among es
same_clocks [] = refl
same_clocks (events.Clock tms tdi tdo ∷ es) = ap (λ t. record { tms = tms; tdi = tdi; tdo = tdo } ∷ t) (same_clocks es)
same_clocks (Print bytes ∷ es) = same_clocks es
same_clocks (Export key value ∷ es) = same_clocks es
same_clocks (Usec n ∷ es) = same_clocks es
same_clocks (Hertz n ∷ es) = same_clocks es

pub clocks_in_text : (es : List Event) (report : List ℕ) (ending : Ending) → IsPart report [] → clocks_of_pins (pins_in (text_of true es report ending)) ≡ clocks_among es
clocks_in_text es report ending part =
    let text : List ℕ = text_of true es report ending in
    ap clocks_of_pins (pin_texts.pins_in_whole text (pin_texts.digits_among es) (pin_texts.text_part es report ending part))
    ∙ pin_texts.digits_tell (pin_texts.clocks_among es) ∙ same_clocks es

-- of the text of a play

pub said_is_in_pins : (program : Played) (chosen : List ℕ) (n : ℕ) (far : FarEnd) (ending : Ending) → IsTyped program
    → runs_said (passages (made_play program chosen n no_base far)) ≡ runs_of_pins (text_of true (play program chosen n no_base far).events [] ending)
said_is_in_pins program chosen n far ending typed =
    let made : MadePlay = made_play program chosen n no_base far in
    said_of_turns made.turns ∙ sym (runs_of_play program typed chosen n no_base far)
    ∙ ap (λ es. shift_runs Reset (clocks_among es)) (play_events program chosen n no_base far)
    ∙ ap (shift_runs Reset) (sym (clocks_in_text (play program chosen n no_base far).events [] ending no_part))

pub clocks_are_pins : (program : Played) (chosen : List ℕ) (n : ℕ) (base : BaseLengths) (far : FarEnd) (ending : Ending)
    → (account_of (made_play program chosen n base far)).clocks ≡ length (pins_in (text_of true (play program chosen n base far).events [] ending))
clocks_are_pins program chosen n base far ending =
    let es : List Event = (play program chosen n base far).events in
    let pins : List ℕ = pins_in (text_of true es [] ending) in
    ap (λ x. length (clocks_among x)) (play_events program chosen n base far)
    ∙ ap (λ x. length x) (sym (clocks_in_text es [] ending no_part)) ∙ length-map pins clock_of_pin
