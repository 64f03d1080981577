-- On the turns of a run, one after another, with their accounts.
use Rattle.std.proofs.Common.{◌≡◌, ◌<◌, inl, inr, ℕ, suc, ◌+◌, ◌-◌, Bool, true, false, List, [], ◌∷◌, ◌++◌, length, Option, Some, None, refl, sym, ap, subst, ◌∙◌, append_assoc, arith}
use Rattle.std.specs.Prelude.{All}
use Rattle.std.specs.Option.{option_map_or}
use Rattle.std.proofs.lemmas.List.{append-nil, length-append, map-append}
use Rattle.std.proofs.lemmas.List.Concat.{flat_map-append}
use Rattle.std.proofs.lemmas.List.Sums.{sum_by-append}
use Rattle.tap_states.specs.declared.Tap.{Tap}
use Rattle.tool_io.specs.declared.lines.Lines.{Lines}
use Rattle.tool_io.specs.declared.outside.Sink.{Ghosts as SinkOf}
use Rattle.tool_io.specs.Lines.{Puts, PutsFront, IsWhole}
use Rattle.tool_io.proofs.PutLemmas.{puts_nothing, put_then, then_front, puts_same}
use Rattle.dev_card.specs.Board.{Clock, tdos}
use Rattle.dev_card.specs.Padding.{BaseLengths}
use Rattle.scan_paths.specs.declared.cable.Cable.{Ghosts as CableOf}
use Rattle.scan_paths.specs.Cables.{Signal, clocks_in}
use Rattle.stapl_meaning.specs.declared.events.Event.{Event}
use Rattle.stapl_meaning.specs.declared.events.Ending.{Ending}
use Rattle.stapl_meaning.specs.declared.events.Ending.TheVariants.{Spent}
use Rattle.stapl_meaning.specs.Deeds.{Chain}
use Rattle.stapl_meaning.specs.States.{State, Happened, Led, Finished, Broke, Lacks}
use Rattle.stapl_meaning.specs.Plays.{Run, after, goes_on, ending_of}
use Rattle.stapl_code.specs.declared.raw.CodeLists.{CodeLists}
use Rattle.stapl_instructions.specs.declared.control.Went.{Went}
use Rattle.stapl_instructions.specs.declared.control.Went.TheVariants as went
use Rattle.stapl_instructions.specs.Moves.{led_on}
use Rattle.stapl_machine.specs.Turns.{turn_at}
use Rattle.stapl_machine.specs.Runs.{run_of}
use Rattle.stapl_machine.proofs.RunLemmas.{goes_after, after_twice}
use Rattle.written_cable.specs.Signals.{signals_of}
use Rattle.written_cable.proofs.SignalLemmas.{signals_both, clocks_of_both}
use Rattle.scan_accounts.specs.ShiftRuns.{shift_runs}
use Rattle.scan_accounts.specs.Rooms.{FitIn}
use Rattle.scan_accounts.specs.MadeTurns.{MadeTurn, clocks_among, usec_among, happened_events}
use Rattle.account_lines.specs.declared.lines.TurnPlace.{TurnPlace}
use Rattle.run_cable.specs.KeptRuns.{Kept, Room}
use Rattle.account_plays.specs.AccountTurns.{chain_of, chain_heard}
use Rattle.account_plays.specs.AccountedTurns.{turn_text, turn_scans, SumsGoOn, HasRoomFor, TurnFindsRoom, AccountsTurn, AccountsFront}
use Rattle.account_plays.specs.AccountedRuns.{said_in, turns_text, turns_scans, TurnsGoOn, HasTurnAt, IsNextCodeTurn, AreNextCodeTurns, HasStopped, TurnsAreTold, TurnsFindRoom, PlayedSoFar, PlayedTurns, PlayedFront}
use Rattle.account_plays.proofs.HeardTurns.{plus_none, counted_none, sum_on, clocks_both, usec_both, happened_after}
use Rattle.account_plays.proofs.AccountLemmas.{led_without}

-- ---- lists

-- what is heard of events is heard of their front first
pub heard_both : {C : Type 0} (cable : CableOf C) (base : BaseLengths) (at : Tap) (old : C) (es fs : List Event) (more : List Bool) →
    chain_heard cable base at old (es ++ fs) more ≡ chain_heard cable base at old es (tdos (clocks_in (signals_of fs)) ++ more)
heard_both cable base at old es fs more =
    let tdo : Clock → Bool = λ (k : Clock). k.tdo in let ks : List Clock = clocks_in (signals_of es) in let js : List Clock = clocks_in (signals_of fs) in
    let bits : tdos (clocks_in (signals_of (es ++ fs))) ++ more ≡ tdos ks ++ (tdos js ++ more) =
    ap (λ (ls : List Clock). tdos ls ++ more) (clocks_of_both es fs ks js refl refl)
    ∙ ap (λ bs. bs ++ more) (map-append tdo ks js) ∙ append_assoc (tdos ks) (tdos js) more in
    ap (chain_of cable base at old) bits

-- one turn more at the end of turns
are_more : (code : CodeLists) (table : List TurnPlace) (ts : List MadeTurn) (runs : ℕ → Run) (t : MadeTurn) → AreNextCodeTurns code table runs ts →
    IsNextCodeTurn code table (runs (length ts)) (runs (suc (length ts))) t → AreNextCodeTurns code table runs (ts ++ t ∷ [])
are_more code table [] runs t all next = (next, tt)
are_more code table (x ∷ ts) runs t all next = (all.0, are_more code table ts (λ n. runs (suc n)) t all.1 next)

-- a run of one turn has the events of that turn
pub one_turn : (code : CodeLists) (h : Happened) (s : State) (k : Chain) → (goes_on h s k (run_of code 0)).events ≡ happened_events h
one_turn code (Led events place u l) s k = append-nil events
one_turn code (Finished events ending u l) s k = refl
one_turn code (Broke events f u l) s k = refl
one_turn code (Lacks events) s k = refl

-- what a turn leads to ends a run so
pub over_ends : (code : CodeLists) (ending : Option Ending) (n : ℕ) (s u : State) (k l : Chain) →
    ending_of (goes_on (led_on (went.Over ending) u l) s k (run_of code n)).outcome ≡ ending
over_ends code (Some ending) n s u k l = refl
over_ends code None n s u k l = refl

pub over_without : (code : CodeLists) (ending : Option Ending) (n : ℕ) (s u : State) (k l : Chain) →
    (goes_on (led_on (went.Over ending) u l) s k (run_of code n)).events ≡ []
over_without code (Some ending) n s u k l = refl
over_without code None n s u k l = refl

pub over_stops : (code : CodeLists) (ending : Option Ending) (n : ℕ) (s u : State) (k l : Chain) →
    HasStopped (goes_on (led_on (went.Over ending) u l) s k (run_of code n))
over_stops code (Some ending) n s u k l = λ at e. absurd cc
over_stops code None n s u k l = λ at e. absurd cc

pub from_none : (n : ℕ) → n ≡ 0 + n
from_none n = omega arith

next_count : (i n : ℕ) → (i + 1) + n ≡ i + suc n
next_count i n = omega arith

-- the last of turns is as all of them are
last_of : (P : MadeTurn → Type 0) (ts : List MadeTurn) (t : MadeTurn) → All P (ts ++ t ∷ []) → P t
last_of P [] t all = all 0 t (omega arith)
last_of P (x ∷ ts) t all = last_of P ts t (λ k d h. all (suc k) d (omega (arith, h)))

-- the sums of events in two parts, and of the scans of both
pub sums_both : (old mid new : Kept) (es fs : List Event) (ir dr more_ir more_dr all_ir all_dr : ℕ) →
    SumsGoOn old (length (clocks_among es)) (usec_among es) ir dr mid → SumsGoOn mid (length (clocks_among fs)) (usec_among fs) more_ir more_dr new →
    all_ir ≡ ir + more_ir → all_dr ≡ dr + more_dr → SumsGoOn old (length (clocks_among (es ++ fs))) (usec_among (es ++ fs)) all_ir all_dr new
sums_both old mid new es fs ir dr more_ir more_dr all_ir all_dr a b e f = record {
  none_lost = b.none_lost;
  same_room = b.same_room ∙ a.same_room;
  more_clocks = sum_on old.heard.clocks mid.heard.clocks new.heard.clocks (length (clocks_among es)) (length (clocks_among fs))
      (length (clocks_among (es ++ fs))) a.more_clocks b.more_clocks (clocks_both es fs);
  more_usec = sum_on old.heard.usec mid.heard.usec new.heard.usec (usec_among es) (usec_among fs) (usec_among (es ++ fs)) a.more_usec b.more_usec (usec_both es fs);
  more_ir = sum_on old.heard.ir_scans mid.heard.ir_scans new.heard.ir_scans ir more_ir all_ir a.more_ir b.more_ir e;
  more_dr = sum_on old.heard.dr_scans mid.heard.dr_scans new.heard.dr_scans dr more_dr all_dr a.more_dr b.more_dr f;
}

module _ {C K : Type 0} (cable : CableOf C) (sink : SinkOf K) (code : CodeLists) (table : List TurnPlace) (base : BaseLengths) (start : ℕ) (s0 : State)
    (from : Tap) (old : C) (runs : Kept) (out : Lines K) where
  abbrev all : ℕ → Chain → Run
  all n = run_of code n start s0

  -- no turn yet
  pub so_far_none : cable.made old [] old → IsWhole out → runs.lost ≡ false →
      PlayedSoFar cable sink code table base all from old runs out 0 start s0 from old runs out
  so_far_none none whole none_lost = record {
    events = [];
    turns = [];
    made = none;
    put = puts_nothing sink out whole;
    count = refl;
    goes = λ more n. ap (λ (m : ℕ). run_of code m start s0 (chain_of cable base from old more)) (omega arith);
    are = λ more. tt;
    sums = record {
      none_lost = none_lost;
      same_room = refl;
      more_clocks = counted_none runs.heard.clocks;
      more_usec = counted_none runs.heard.usec;
      more_ir = counted_none runs.heard.ir_scans;
      more_dr = counted_none runs.heard.dr_scans;
    };
  }

  -- the next turn is told
  pub next_told : (i place : ℕ) (s : State) (at : Tap) (new : C) (new_runs : Kept) (new_out : Lines K) →
      PlayedSoFar cable sink code table base all from old runs out i place s at new new_runs new_out → TurnsAreTold cable code table base all from old →
      (said : TurnPlace) × HasTurnAt code table place said
  next_told i place s at new new_runs new_out p told =
      told p.events [] i place
      (ap (λ (m : ℕ). (all m (chain_heard cable base from old p.events [])).outcome) (plus_none i) ∙ ap (λ (r : Run). r.outcome) (p.goes [] 0))

  -- one turn more
  module _ (i place : ℕ) (s : State) (at : Tap) (new : C) (new_runs : Kept) (new_out : Lines K)
      (p : PlayedSoFar cable sink code table base all from old runs out i place s at new new_runs new_out) (said : TurnPlace) (here : HasTurnAt code table place said) where
    -- the chain before the turn, whose events these are
    abbrev before : List Event → List Bool → Chain
    before es more = chain_heard cable base at new es more

    abbrev whole_chain : List Event → List Bool → Chain
    whole_chain es more = chain_heard cable base from old (p.events ++ es) more

    told : said_in table here.piece ≡ said
    told = ap (λ (o : Option TurnPlace). option_map_or (λ x. x) o (record { piece = here.piece; line = 0; scans = false })) here.in_table

    abbrev turn_of : List Event → MadeTurn
    turn_of es = record { place = here.piece; scans = said.scans; from = at; events = es }

    goes_from : (es : List Event) (more : List Bool) (n : ℕ) → all (i + n) (whole_chain es more) ≡ after p.events (run_of code n place s (before es more))
    goes_from es more n = ap (all (i + n)) (heard_both cable base from old p.events es more) ∙ p.goes (tdos (clocks_in (signals_of es)) ++ more) n

    stands : (es : List Event) (more : List Bool) → all i (whole_chain es more) ≡ after p.events (run_of code 0 place s (before es more))
    stands es more = ap (λ (m : ℕ). all m (whole_chain es more)) (plus_none i) ∙ goes_from es more 0

    turns_on : (es : List Event) (more : List Bool) (n : ℕ) →
        all (i + suc n) (whole_chain es more) ≡ after p.events (goes_on (turn_at code place s (before es more)) s (before es more) (run_of code n))
    turns_on es more n = goes_from es more (suc n)

    is_next : (es : List Event) (more : List Bool) (own : List Event) → happened_events (turn_at code place s (before es more)) ≡ own →
        IsNextCodeTurn code table (all (length p.turns) (whole_chain es more)) (all (suc (length p.turns)) (whole_chain es more)) (turn_of own)
    is_next es more own e =
        let here_run : all (length p.turns) (whole_chain es more) ≡ after p.events (run_of code 0 place s (before es more)) =
        ap (λ (m : ℕ). all m (whole_chain es more)) p.count ∙ stands es more in
        let count : suc (length p.turns) ≡ i + suc 0 = omega (arith, p.count) in
        let next_run : all (suc (length p.turns)) (whole_chain es more)
        ≡ after p.events (goes_on (turn_at code place s (before es more)) s (before es more) (run_of code 0)) =
        ap (λ (m : ℕ). all m (whole_chain es more)) count ∙ turns_on es more 0 in
        record {
          at = place;
          goes = ap (λ (r : Run). r.outcome) here_run;
          piece = here.at_piece;
          said = said;
          in_table = here.in_table;
          scans = refl;
          from = ap (λ (r : Run). r.chain.tap) here_run;
          events = ap (λ (r : Run). r.events) next_run
              ∙ ap (λ (xs : List Event). p.events ++ xs) (one_turn code (turn_at code place s (before es more)) s (before es more) ∙ e)
              ∙ ap (λ (xs : List Event). xs ++ own) (sym (append-nil p.events) ∙ sym (ap (λ (r : Run). r.events) here_run));
        }

    are_next : (es : List Event) (more : List Bool) (own : List Event) → happened_events (turn_at code place s (before es more)) ≡ own →
        AreNextCodeTurns code table (λ n. all n (whole_chain es more)) (p.turns ++ turn_of own ∷ [])
    are_next es more own e =
        are_more code table p.turns (λ n. all n (whole_chain es more)) (turn_of own)
        (subst (λ (k : Chain). AreNextCodeTurns code table (λ n. all n k) p.turns) (sym (heard_both cable base from old p.events es more))
        (p.are (tdos (clocks_in (signals_of es)) ++ more)))
        (is_next es more own e)

    text_more : (own : List Event) → turns_text table base p.turns ++ turn_text said base at own ≡ turns_text table base (p.turns ++ turn_of own ∷ [])
    text_more own =
        let text : MadeTurn → List ℕ = λ (t : MadeTurn). turn_text (said_in table t.place) base t.from t.events in
        ap (λ (x : TurnPlace). turns_text table base p.turns ++ turn_text x base at own) (sym told)
        ∙ ap (λ (xs : List ℕ). turns_text table base p.turns ++ xs) (sym (append-nil (turn_text (said_in table here.piece) base at own)))
        ∙ sym (flat_map-append text p.turns (turn_of own ∷ []))

    scans_more : (ir : Bool) (own : List Event) →
        turns_scans table ir (p.turns ++ turn_of own ∷ []) ≡ turns_scans table ir p.turns + turn_scans said ir at own
    scans_more ir own =
        let scans : MadeTurn → ℕ = λ (t : MadeTurn). turn_scans (said_in table t.place) ir t.from t.events in
        sum_by-append scans p.turns (turn_of own ∷ [])
        ∙ ap (λ n. turns_scans table ir p.turns + n) (sym (from_none (scans (turn_of own))))
        ∙ ap (λ (x : TurnPlace). turns_scans table ir p.turns + turn_scans x ir at own) told

    -- there is room for it
    pub next_finds : TurnsFindRoom cable code table base all from old runs → TurnFindsRoom cable base (turn_at code place s) at new new_runs
    next_finds finds = λ es more.
        (let own : List Event = happened_events (turn_at code place s (before es more)) in
        let fits : HasRoomFor runs at own =
        last_of (λ (t : MadeTurn). HasRoomFor runs t.from t.events) p.turns (turn_of own) (finds (p.events ++ es) more (p.turns ++ turn_of own ∷ []) (are_next es more own refl)) in
        subst (λ (r : Room). FitIn r.bits r.runs (shift_runs at (clocks_among own))) (sym p.sums.same_room) fits)

    one_more : (own : List Event) → length (p.turns ++ turn_of own ∷ []) ≡ i + 1
    one_more own = length-append p.turns (turn_of own ∷ []) ∙ ap (λ n. n + 1) p.count

    -- a front of its text was put
    pub played_front : (most : ℕ) → i < most → (last_out : Lines K) → AccountsFront cable sink base said (turn_at code place s) at new new_out last_out →
        PlayedFront cable sink code table base all from old runs out most last_out
    played_front most h last_out a =
        let own : List Bool → List Event = λ more. happened_events (turn_at code place s (before a.events more)) in
        record {
          events = p.events ++ a.events;
          turns = λ more. p.turns ++ turn_of (own more) ∷ [];
          are = λ more. are_next a.events more (own more) refl;
          few = λ more. omega (arith, one_more (own more), h);
          put = λ more. subst (λ x. PutsFront sink out x last_out) (text_more (own more)) (then_front p.put (a.put more));
        }

    module _ (both : (x y z : C) (front back : List Signal) → cable.made x front y → cable.made y back z → cable.made x (front ++ back) z)
        (last : C) (last_runs : Kept) (last_out : Lines K) (to : Tap) (w : Went) (u : State)
        (a : AccountsTurn cable sink base said (turn_at code place s) at new new_runs new_out (led_on w u) to last last_runs last_out) where
      own_events : (more : List Bool) → happened_events (turn_at code place s (before a.events more)) ≡ a.events
      own_events more =
          ap happened_events (a.does more) ∙ happened_after a.events (led_on w u (chain_of cable base to last more))
          ∙ ap (λ (es : List Event). a.events ++ es) (led_without w u (chain_of cable base to last more)) ∙ append-nil a.events

      made_both : cable.made old (signals_of (p.events ++ a.events)) last
      made_both =
          subst (λ (ss : List Signal). cable.made old ss last) (sym (signals_both p.events a.events))
          (both old new last (signals_of p.events) (signals_of a.events) p.made a.made)

      put_both : Puts sink out (turns_text table base (p.turns ++ turn_of a.events ∷ [])) last_out
      put_both = puts_same (text_more a.events) (put_then p.put a.put)

      goes_then : (more : List Bool) (n : ℕ) → all (i + suc n) (whole_chain a.events more)
          ≡ after (p.events ++ a.events) (goes_on (led_on w u (chain_of cable base to last more)) s (before a.events more) (run_of code n))
      goes_then more n =
          let k : Chain = before a.events more in let rest : Happened = led_on w u (chain_of cable base to last more) in
          turns_on a.events more n ∙ ap (λ (h : Happened). after p.events (goes_on h s k (run_of code n))) (a.does more)
          ∙ ap (after p.events) (goes_after a.events rest s k (run_of code n)) ∙ after_twice p.events a.events (goes_on rest s k (run_of code n))

      sums_more : TurnsGoOn table runs (p.events ++ a.events) (p.turns ++ turn_of a.events ∷ []) last_runs
      sums_more =
          sums_both runs new_runs last_runs p.events a.events (turns_scans table true p.turns) (turns_scans table false p.turns) (turn_scans said true at a.events)
          (turn_scans said false at a.events) (turns_scans table true (p.turns ++ turn_of a.events ∷ [])) (turns_scans table false (p.turns ++ turn_of a.events ∷ []))
          p.sums a.sums (scans_more true a.events) (scans_more false a.events)

      -- and the run goes on
      pub so_far_more : (place' : ℕ) → w ≡ went.On place' → PlayedSoFar cable sink code table base all from old runs out (i + 1) place' u to last last_runs last_out
      so_far_more place' is = record {
        events = p.events ++ a.events;
        turns = p.turns ++ turn_of a.events ∷ [];
        made = made_both;
        put = put_both;
        count = one_more a.events;
        goes = λ more n.
            ap (λ (m : ℕ). all m (whole_chain a.events more)) (next_count i n) ∙ goes_then more n
            ∙ ap (λ (v : Went). after (p.events ++ a.events) (goes_on (led_on v u (chain_of cable base to last more)) s (before a.events more) (run_of code n))) is;
        are = λ more. are_next a.events more a.events (own_events more);
        sums = sums_more;
      }

      -- and the run is over
      pub played_over : (most : ℕ) (ending : Option Ending) → w ≡ went.Over ending → i < most →
          PlayedTurns cable sink code table base all from old runs out most (record { ending = ending; turns = i + 1 }) last last_runs last_out
      played_over most ending is h =
          let m : ℕ = most - (i + 1) in
          let over : (more : List Bool) (n : ℕ) → all (i + suc n) (whole_chain a.events more)
          ≡ after (p.events ++ a.events) (goes_on (led_on (went.Over ending) u (chain_of cable base to last more)) s (before a.events more) (run_of code n)) =
          λ more n. goes_then more n
          ∙ ap (λ (v : Went). after (p.events ++ a.events) (goes_on (led_on v u (chain_of cable base to last more)) s (before a.events more) (run_of code n))) is in
          let most_is : most ≡ i + suc m = omega (arith, h) in
          let last_run : (more : List Bool) → all most (whole_chain a.events more)
          ≡ after (p.events ++ a.events) (goes_on (led_on (went.Over ending) u (chain_of cable base to last more)) s (before a.events more) (run_of code m)) =
          λ more. ap (λ (n : ℕ). all n (whole_chain a.events more)) most_is ∙ over more m in
          record {
            events = p.events ++ a.events;
            turns = p.turns ++ turn_of a.events ∷ [];
            made = made_both;
            put = put_both;
            are = λ more. are_next a.events more a.events (own_events more);
            few = omega (arith, one_more a.events, h);
            counted = one_more a.events;
            whole = λ more.
                inr (subst HasStopped (sym (ap (λ (n : ℕ). all n (whole_chain a.events more)) (one_more a.events) ∙ over more 0))
                (over_stops code ending 0 s u (before a.events more) (chain_of cable base to last more)));
            gives = λ more.
                ap (λ (r : Run). r.events) (last_run more)
                ∙ ap (λ (es : List Event). (p.events ++ a.events) ++ es) (over_without code ending m s u (before a.events more) (chain_of cable base to last more))
                ∙ append-nil (p.events ++ a.events);
            ended = λ more.
                ap (λ (r : Run). ending_of r.outcome) (last_run more)
                ∙ over_ends code ending m s u (before a.events more) (chain_of cable base to last more);
            sums = sums_more;
          }

  -- all turns are spent
  pub played_spent : (most i place : ℕ) (s : State) (at : Tap) (new : C) (new_runs : Kept) (new_out : Lines K) → i ≡ most →
      PlayedSoFar cable sink code table base all from old runs out i place s at new new_runs new_out →
      PlayedTurns cable sink code table base all from old runs out most (record { ending = Some Spent; turns = most }) new new_runs new_out
  played_spent most i place s at new new_runs new_out e p =
      let last_run : (more : List Bool) → all most (chain_heard cable base from old p.events more)
      ≡ after p.events (run_of code 0 place s (chain_of cable base at new more)) =
      λ more. ap (λ (n : ℕ). all n (chain_heard cable base from old p.events more)) (sym e ∙ plus_none i) ∙ p.goes more 0 in
      record {
        events = p.events;
        turns = p.turns;
        made = p.made;
        put = p.put;
        are = p.are;
        few = omega (arith, p.count, e);
        counted = p.count ∙ e;
        whole = λ more. inl (p.count ∙ e);
        gives = λ more. ap (λ (r : Run). r.events) (last_run more) ∙ append-nil p.events;
        ended = λ more. ap (λ (r : Run). ending_of r.outcome) (last_run more);
        sums = p.sums;
      }
