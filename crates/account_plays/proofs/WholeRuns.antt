-- On a whole run of a code, by its prologue and its turns.
use Rattle.std.proofs.Common.{◌≡◌, inl, inr, ℕ, suc, Bool, true, false, List, [], ◌∷◌, ◌++◌, length, Option, Some, None, refl, sym, ap, subst, ◌∙◌, append_assoc, arith}
use Rattle.std.specs.Prelude.{All}
use Rattle.std.proofs.lemmas.List.{append-nil}
use Rattle.tap_states.specs.declared.Tap.{Tap}
use Rattle.tap_states.specs.declared.Tap.TheVariants.{Reset}
use Rattle.tool_io.specs.declared.lines.Lines.{Lines}
use Rattle.tool_io.specs.declared.outside.Sink.{Ghosts as SinkOf}
use Rattle.tool_io.specs.Lines.{Puts, PutsFront, IsOverSame, IsWhole, SinkNeverFalls, SinkHasRisen}
use Rattle.tool_io.proofs.PutLemmas.{put_then, then_front, front_more, puts_same}
use Rattle.dev_card.specs.Board.{tdos}
use Rattle.dev_card.specs.Padding.{BaseLengths}
use Rattle.scan_paths.specs.declared.cable.Cable.{Ghosts as CableOf}
use Rattle.scan_paths.specs.Cables.{Signal, clocks_in}
use Rattle.stapl_meaning.specs.declared.events.Event.{Event}
use Rattle.stapl_meaning.specs.declared.events.Ending.{Ending}
use Rattle.stapl_meaning.specs.Deeds.{Chain}
use Rattle.stapl_meaning.specs.States.{State, Happened, with_events, happens, next_chosen}
use Rattle.stapl_meaning.specs.Plays.{Run, after, goes_on, ending_of}
use Rattle.stapl_meaning.specs.Texts.{events_text}
use Rattle.stapl_code.specs.declared.raw.CodeLists.{CodeLists}
use Rattle.stapl_code.specs.Machine.{entry_of, begins_chosen}
use Rattle.stapl_code.specs.Safe.{entries_of}
use Rattle.stapl_code.proofs.Preceded.{with_nothing, begins_with}
use Rattle.machine_memory.specs.declared.memory.Workspace.{Workspace}
use Rattle.machine_memory.specs.Acts.{IsUnused}
use Rattle.stapl_instructions.specs.declared.control.Went.{Went}
use Rattle.stapl_instructions.specs.declared.control.Went.TheVariants as went
use Rattle.stapl_instructions.specs.Moves.{led_to, led_on}
use Rattle.stapl_machine.specs.Runs.{run_of, play_from}
use Rattle.stapl_machine.proofs.RunLemmas.{goes_after, at_first, started, play_is, over_lacks}
use Rattle.written_cable.specs.OnPaper.{lines_paper}
use Rattle.written_cable.specs.PaperLaws.{puts_back, front_back}
use Rattle.written_cable.specs.Signals.{signals_of}
use Rattle.written_cable.proofs.SignalLemmas.{signals_both}
use Rattle.scan_accounts.specs.ShiftRuns.{shift_runs}
use Rattle.scan_accounts.specs.Rooms.{FitIn}
use Rattle.scan_accounts.specs.AccountTexts.{counted}
use Rattle.scan_accounts.specs.MadeTurns.{MadeTurn, clocks_among, usec_among, happened_events}
use Rattle.scan_accounts.proofs.OtherLines.{text_both}
use Rattle.account_lines.specs.declared.lines.TurnPlace.{TurnPlace}
use Rattle.run_cable.specs.HeardRuns.{Heard, heard_all}
use Rattle.run_cable.specs.KeptRuns.{Kept, Room, begun}
use Rattle.account_plays.specs.declared.running.Over.{Over}
use Rattle.account_plays.specs.declared.turns.Part.TheVariants.{Prologue}
use Rattle.account_plays.specs.AccountTurns.{part_at, chain_heard, TurnsFront, TurnsKept}
use Rattle.account_plays.specs.AccountedTurns.{SumsGoOn, HasRoomFor}
use Rattle.account_plays.specs.AccountedRuns.{turns_text, turns_scans, IsNextCodeTurn, AreNextCodeTurns, HasStopped, TurnsAreTold, TurnsFindRoom, FirstFindsRoom, PlayedTurns, PlayedFront, PlayedRun, PlayedRunFront}
use Rattle.run_cable.proofs.HeardLemmas.{scans_stay}
use Rattle.account_plays.proofs.HeardTurns.{counted_none, turn_runs, clocks_go_on, usec_goes_on, happened_after}
use Rattle.account_plays.proofs.RunAccounts.{heard_both, one_turn, over_ends, over_without, over_stops, from_none, sums_both}

-- where the next procedure led
led_happens : (w : Went) (s : State) (k : Chain) → happens k (led_to w s) ≡ led_on w s k
led_happens (went.On place) s k = refl
led_happens (went.Over (Some ending)) s k = refl
led_happens (went.Over None) s k = refl

-- the turns of runs are those of the same runs with events in front
are_after : (code : CodeLists) (table : List TurnPlace) (first : List Event) (runs others : ℕ → Run) (ts : List MadeTurn) →
    ((n : ℕ) → others n ≡ after first (runs n)) → AreNextCodeTurns code table runs ts → AreNextCodeTurns code table others ts
are_after code table first runs others [] e are = tt
are_after code table first runs others (t ∷ ts) e are =
    let next : IsNextCodeTurn code table (runs 0) (runs 1) t = are.0 in (
      record {
        at = next.at;
        goes = ap (λ (r : Run). r.outcome) (e 0) ∙ next.goes;
        piece = next.piece;
        said = next.said;
        in_table = next.in_table;
        scans = next.scans;
        from = ap (λ (r : Run). r.chain.tap) (e 0) ∙ next.from;
        events = ap (λ (r : Run). r.events) (e 1) ∙ ap (λ (es : List Event). first ++ es) next.events
            ∙ sym (append_assoc first (runs 0).events t.events) ∙ ap (λ (es : List Event). es ++ t.events) (sym (ap (λ (r : Run). r.events) (e 0)));
      },
      are_after code table first (λ n. runs (suc n)) (λ n. others (suc n)) ts (λ n. e (suc n)) are.1,
    )

module _ {C K : Type 0} (cable : CableOf C) (sink : SinkOf K) (code : CodeLists) (table : List TurnPlace) (base : BaseLengths) (chosen : List ℕ) (work : Workspace)
    (none : work.operands.items ≡ []) (unused : IsUnused work.memory) (old : C) (runs : Kept) (out : Lines K) where
  abbrev all : ℕ → Chain → Run
  all n = play_from code chosen work.memory.variables.items n

  abbrev entry : ℕ → ℕ
  entry = entry_of (entries_of code.procedures)

  abbrev prologue : Chain → Happened
  prologue = part_at code Prologue chosen (at_first code chosen work 0 none unused)

  abbrev before : List Event → List Bool → Chain
  before es more = chain_heard cable base Reset old es more

  abbrev first_state : State
  first_state = started code chosen work 0 none unused

  all_is : (n : ℕ) (k : Chain) → all n k ≡ goes_on (begins_chosen entry (prologue k)) first_state k (run_of code n)
  all_is n k = play_is code chosen work n none unused k

  -- a front of what the prologue writes was put
  pub prologue_torn : (mid : C) (mid_out : Lines K) → TurnsFront cable (lines_paper sink) base prologue Reset old out mid mid_out → IsOverSame out mid_out →
      SinkNeverFalls sink out mid_out → SinkHasRisen sink out mid_out → (most : ℕ) → PlayedRunFront cable sink code table base all Reset old runs out most mid_out
  prologue_torn mid mid_out t same kept rose most = record {
    events = t.events;
    turns = λ more. [];
    are = λ more. tt;
    few = λ more. omega arith;
    put = λ more.
        (let k : Chain = before t.events more in let rest : Happened = begins_chosen entry (t.rest more) in
        let is : (all 0 k).events ≡ t.events ++ happened_events rest =
        ap (λ (r : Run). r.events) (all_is 0 k) ∙ one_turn code (begins_chosen entry (prologue k)) first_state k
        ∙ ap happened_events (ap (begins_chosen entry) (t.does more) ∙ begins_with entry t.events (t.rest more)) ∙ happened_after t.events rest in
        front_more []
        (subst (λ es. PutsFront sink out (events_text false [] es) mid_out) (sym is)
        (subst (λ x. PutsFront sink out x mid_out) (sym (text_both t.events (happened_events rest)))
        (front_more (events_text false [] (happened_events rest)) (front_back sink out mid_out (events_text false [] t.events) same kept rose t.put)))));
  }

  -- the prologue was played
  module _ (w : Went) (u : State) (tap : Tap) (mid : C) (mid_runs : Kept) (mid_out : Lines K)
      (t : TurnsKept cable (lines_paper sink) base prologue Reset old runs out (led_on w u) tap mid mid_runs mid_out) (same : IsOverSame out mid_out)
      (whole : IsWhole mid_out) (kept : SinkNeverFalls sink out mid_out) where
    abbrev first : List Event
    first = t.turns.events

    abbrev beyond : List Event → List Bool → Chain
    beyond es more = chain_heard cable base tap mid es more

    first_put : Puts sink out (events_text false [] first) mid_out
    first_put = puts_back sink out mid_out (events_text false [] first) same whole kept t.turns.put

    first_sums : runs.lost ≡ false → HasRoomFor runs Reset first → SumsGoOn runs (length (clocks_among first)) (usec_among first) 0 0 mid_runs
    first_sums none_lost room =
        let begins : Heard = begun Reset runs.heard in
        let mid_kept : mid_runs.lost ≡ false =
        t.fits none_lost (subst (λ rs. FitIn runs.room.bits runs.room.runs rs) (sym (turn_runs Reset runs.heard first)) room) in
        let known : mid_runs.heard ≡ heard_all begins (signals_of first) = (t.heard.known mid_kept).heard in
        record {
          none_lost = mid_kept;
          same_room = t.heard.room;
          more_clocks = ap (λ (h : Heard). counted h.clocks) known ∙ clocks_go_on first begins;
          more_usec = ap (λ (h : Heard). counted h.usec) known ∙ usec_goes_on first begins;
          more_ir = ap (λ (h : Heard). counted h.ir_scans) known ∙ ap counted (scans_stay (signals_of first) begins).0 ∙ counted_none runs.heard.ir_scans;
          more_dr = ap (λ (h : Heard). counted h.dr_scans) known ∙ ap counted (scans_stay (signals_of first) begins).1 ∙ counted_none runs.heard.dr_scans;
        }

    begun_is : (es : List Event) (more : List Bool) →
        begins_chosen entry (prologue (before (first ++ es) more)) ≡ with_events first (begins_chosen entry (led_on w u (beyond es more)))
    begun_is es more =
        ap (λ (k : Chain). begins_chosen entry (prologue k)) (heard_both cable base Reset old first es more)
        ∙ ap (begins_chosen entry) (t.turns.does (tdos (clocks_in (signals_of es)) ++ more)) ∙ begins_with entry first (led_on w u (beyond es more))

    -- what follows it is this
    module _ (h : Chain → Happened) (led : (k : Chain) → begins_chosen entry (led_on w u k) ≡ h k) where
      all_then : (es : List Event) (more : List Bool) (n : ℕ) →
          all n (before (first ++ es) more) ≡ after first (goes_on (h (beyond es more)) first_state (before (first ++ es) more) (run_of code n))
      all_then es more n =
          let k : Chain = before (first ++ es) more in
          all_is n k ∙ ap (λ (x : Happened). goes_on x first_state k (run_of code n)) (begun_is es more ∙ ap (with_events first) (led (beyond es more)))
          ∙ goes_after first (h (beyond es more)) first_state k (run_of code n)

      -- no turn was played
      pub played_none : (most : ℕ) (ending : Option Ending) (v : State) → ((k : Chain) → h k ≡ led_on (went.Over ending) v k) → runs.lost ≡ false →
          FirstFindsRoom cable code table base all Reset old runs →
          PlayedRun cable sink code table base all Reset old runs out most (record { ending = ending; turns = 0 }) mid mid_runs mid_out
      played_none most ending v over none_lost finds =
          let run : (more : List Bool) (n : ℕ) → all n (before (first ++ []) more)
          ≡ after first (goes_on (led_on (went.Over ending) v (beyond [] more)) first_state (before (first ++ []) more) (run_of code n)) =
          λ more n. all_then [] more n
          ∙ ap (λ (x : Happened). after first (goes_on x first_state (before (first ++ []) more) (run_of code n))) (over (beyond [] more)) in
          let events : (more : List Bool) (n : ℕ) → (all n (before (first ++ []) more)).events ≡ first ++ [] =
          λ more n. ap (λ (r : Run). r.events) (run more n)
          ∙ ap (λ (es : List Event). first ++ es) (over_without code ending n first_state v (before (first ++ []) more) (beyond [] more)) in
          record {
            events = first ++ [];
            first = first;
            turns = [];
            made = subst (λ (es : List Event). cable.made old (signals_of es) mid) (sym (append-nil first)) t.turns.made;
            put = puts_same (sym (append-nil (events_text false [] first))) first_put;
            first_is = λ more. events more 0 ∙ append-nil first;
            are = λ more. tt;
            few = omega arith;
            counted = refl;
            whole = λ more. inr (subst HasStopped (sym (run more 0)) (over_stops code ending 0 first_state v (before (first ++ []) more) (beyond [] more)));
            gives = λ more. events more most;
            ended = λ more. ap (λ (r : Run). ending_of r.outcome) (run more most)
                ∙ over_ends code ending most first_state v (before (first ++ []) more) (beyond [] more);
            sums = subst (λ (es : List Event). SumsGoOn runs (length (clocks_among es)) (usec_among es) 0 0 mid_runs) (sym (append-nil first))
                (first_sums none_lost (subst (λ es. HasRoomFor runs Reset es) (events [] 0 ∙ append-nil first) (finds (first ++ []) [])));
          }

      -- turns were played after it
      module _ (both : (x y z : C) (front back : List Signal) → cable.made x front y → cable.made y back z → cable.made x (front ++ back) z)
          (begin : ℕ) (v : State) (on : (k : Chain) → h k ≡ led_on (went.On begin) v k) where
        on_is : (es : List Event) (more : List Bool) (n : ℕ) → all n (before (first ++ es) more) ≡ after first (run_of code n begin v (beyond es more))
        on_is es more n =
            all_then es more n
            ∙ ap (λ (x : Happened). after first (goes_on x first_state (before (first ++ es) more) (run_of code n))) (on (beyond es more))

        first_events : (es : List Event) (more : List Bool) → (all 0 (before (first ++ es) more)).events ≡ first
        first_events es more = ap (λ (r : Run). r.events) (on_is es more 0) ∙ append-nil first

        -- what the turns need
        mid_sums : runs.lost ≡ false → FirstFindsRoom cable code table base all Reset old runs →
            SumsGoOn runs (length (clocks_among first)) (usec_among first) 0 0 mid_runs
        mid_sums none_lost finds = first_sums none_lost (subst (λ es. HasRoomFor runs Reset es) (first_events [] []) (finds (first ++ []) []))

        pub turns_kept : runs.lost ≡ false → FirstFindsRoom cable code table base all Reset old runs → mid_runs.lost ≡ false
        turns_kept none_lost finds = (mid_sums none_lost finds).none_lost

        pub turns_told : TurnsAreTold cable code table base all Reset old → TurnsAreTold cable code table base (λ n. run_of code n begin v) tap mid
        turns_told told = λ es more n at e. told (first ++ es) more n at (ap (λ (r : Run). r.outcome) (on_is es more n) ∙ e)

        pub turns_find : TurnsFindRoom cable code table base all Reset old runs → TurnsFindRoom cable code table base (λ n. run_of code n begin v) tap mid mid_runs
        turns_find finds = λ es more ts are.
            (let fit : All (λ (t : MadeTurn). HasRoomFor runs t.from t.events) ts =
            finds (first ++ es) more ts
            (are_after code table first (λ n. run_of code n begin v (beyond es more)) (λ n. all n (before (first ++ es) more)) ts (on_is es more) are) in
            subst (λ (r : Room). All (λ (t : MadeTurn). FitIn r.bits r.runs (shift_runs t.from (clocks_among t.events))) ts) (sym t.heard.room) fit)

        pub played_on : (most : ℕ) (over : Over) (new : C) (new_runs : Kept) (new_out : Lines K) →
            PlayedTurns cable sink code table base (λ n. run_of code n begin v) tap mid mid_runs mid_out most over new new_runs new_out →
            runs.lost ≡ false → FirstFindsRoom cable code table base all Reset old runs →
            PlayedRun cable sink code table base all Reset old runs out most over new new_runs new_out
        played_on most over new new_runs new_out p none_lost finds = record {
          events = first ++ p.events;
          first = first;
          turns = p.turns;
          made = subst (λ (ss : List Signal). cable.made old ss new) (sym (signals_both first p.events))
              (both old mid new (signals_of first) (signals_of p.events) t.turns.made p.made);
          put = put_then first_put p.put;
          first_is = λ more. first_events p.events more;
          are = λ more. are_after code table first (λ n. run_of code n begin v (beyond p.events more)) (λ n. all n (before (first ++ p.events) more)) p.turns
              (on_is p.events more) (p.are more);
          few = p.few;
          counted = p.counted;
          whole = λ more. (elim (p.whole more) [
            | inl e ↦ inl e
            | inr stops ↦ inr (λ at e. stops at (sym (ap (λ (r : Run). r.outcome) (on_is p.events more (length p.turns))) ∙ e))
          ]);
          gives = λ more. ap (λ (r : Run). r.events) (on_is p.events more most) ∙ ap (λ (es : List Event). first ++ es) (p.gives more);
          ended = λ more. ap (λ (r : Run). ending_of r.outcome) (on_is p.events more most) ∙ p.ended more;
          sums = (let ir : ℕ = turns_scans table true p.turns in let dr : ℕ = turns_scans table false p.turns in
              sums_both runs mid_runs new_runs first p.events 0 0 ir dr ir dr (mid_sums none_lost finds) p.sums (from_none ir) (from_none dr));
        }

        pub turns_torn : (most : ℕ) (new_out : Lines K) →
            PlayedFront cable sink code table base (λ n. run_of code n begin v) tap mid mid_runs mid_out most new_out →
            PlayedRunFront cable sink code table base all Reset old runs out most new_out
        turns_torn most new_out p = record {
          events = first ++ p.events;
          turns = p.turns;
          are = λ more. are_after code table first (λ n. run_of code n begin v (beyond p.events more)) (λ n. all n (before (first ++ p.events) more)) (p.turns more)
              (on_is p.events more) (p.are more);
          few = p.few;
          put = λ more. subst (λ es. PutsFront sink out (events_text false [] es ++ turns_text table base (p.turns more)) new_out) (sym (first_events p.events more))
              (then_front first_put (p.put more));
        }

  -- the first chosen procedure begins after a prologue that came to its end, or none is left
  pub chosen_led : (place : ℕ) (u : State) (w : Went) (v : State) → next_chosen entry u u.chosen ≡ led_to w v → (k : Chain) →
      begins_chosen entry (led_on (went.On place) u k) ≡ led_on w v k
  chosen_led place u w v e k = sym (with_nothing (happens k (next_chosen entry u u.chosen))) ∙ ap (happens k) e ∙ led_happens w v k

  -- a prologue that did not come to its end
  pub prologue_lacks : (ending : Option Ending) (u : State) (k : Chain) → begins_chosen entry (led_on (went.Over ending) u k) ≡ led_on (went.Over None) u k
  prologue_lacks ending u k = over_lacks code 0 ending u k
