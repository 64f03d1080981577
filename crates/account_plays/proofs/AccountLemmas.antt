-- On the account of a turn.
use Rattle.std.specs.Prelude.{count_by}
use Rattle.std.specs.Bool.{beq}
use Rattle.std.proofs.Common.{◌≡◌, ℕ, ◌+◌, true, ap₂, false, Bool, List, [], ◌++◌, length, Some, None, refl, sym, ap, subst, ◌∙◌}
use Rattle.std.proofs.lemmas.List.{append-nil}
use Rattle.tap_states.specs.declared.Tap.{Tap}
use Rattle.tool_io.specs.declared.lines.Lines.{Lines}
use Rattle.tool_io.specs.declared.outside.Sink.{Ghosts as SinkOf}
use Rattle.tool_io.specs.Lines.{Puts, PutsFront, PutsBroken, IsOverSame, IsWhole, SinkNeverFalls, SinkHasRisen}
use Rattle.tool_io.proofs.PutLemmas.{put_then, put_then_front, puts_same, front_same, front_more}
use Rattle.dev_card.specs.Padding.{BaseLengths}
use Rattle.scan_paths.specs.declared.cable.Cable.{Ghosts as CableOf}
use Rattle.stapl_meaning.specs.declared.events.Event.{Event}
use Rattle.stapl_meaning.specs.Deeds.{Chain}
use Rattle.stapl_meaning.specs.States.{State, Happened}
use Rattle.stapl_meaning.specs.Texts.{events_text}
use Rattle.stapl_instructions.specs.declared.control.Went.{Went}
use Rattle.stapl_instructions.specs.declared.control.Went.TheVariants as went
use Rattle.stapl_instructions.specs.Moves.{led_on}
use Rattle.written_cable.specs.OnPaper.{lines_paper}
use Rattle.written_cable.specs.PaperLaws.{puts_back, front_back}
use Rattle.written_cable.specs.Signals.{signals_of}
use Rattle.scan_accounts.specs.ShiftRuns.{ShiftRun, shift_runs}
use Rattle.scan_accounts.specs.MadeTurns.{clocks_among, usec_among, happened_events}
use Rattle.scan_accounts.specs.Rooms.{FitIn}
use Rattle.scan_accounts.specs.AccountTexts.{counted}
use Rattle.scan_accounts.proofs.OtherLines.{text_both}
use Rattle.account_lines.specs.declared.lines.TurnPlace.{TurnPlace}
use Rattle.run_cable.specs.HeardRuns.{Heard, all_runs, closed, scans_counted, heard_all}
use Rattle.run_cable.proofs.HeardLemmas.{scans_stay}
use Rattle.run_cable.specs.KeptRuns.{Kept, Room, IsKnown, Becomes, StaysIfRoom, begun}
use Rattle.run_cable.specs.RunCableLaws.{closed_same}
use Rattle.account_plays.specs.RunTexts.{runs_text}
use Rattle.account_plays.specs.AccountTurns.{chain_of, chain_heard, begun_at, TurnsFront, TurnsKept}
use Rattle.account_plays.specs.AccountedTurns.{turn_text, turn_scans, scans_if, SumsGoOn, HasRoomFor, TurnFindsRoom, AccountsTurn, AccountsFront}
use Rattle.account_plays.proofs.HeardTurns.{counted_none, counted_once, turn_runs, clocks_go_on, usec_goes_on, happened_after}

-- where a turn led has no events
pub led_without : (w : Went) (s : State) (k : Chain) → happened_events (led_on w s k) ≡ []
led_without (went.On place) s k = refl
led_without (went.Over (Some ending)) s k = refl
led_without (went.Over None) s k = refl

-- what counting scans leaves, and what it adds
same_ended : (b : Bool) (h : Heard) → (scans_counted b h).ended ≡ h.ended
same_ended true h = refl
same_ended false h = refl

same_clocks : (b : Bool) (h : Heard) → (scans_counted b h).clocks ≡ h.clocks
same_clocks true h = refl
same_clocks false h = refl

same_usec : (b : Bool) (h : Heard) → (scans_counted b h).usec ≡ h.usec
same_usec true h = refl
same_usec false h = refl

abbrev count_of : Bool → Heard → ℕ
count_of ir h = count_by (λ (r : ShiftRun). beq r.ir ir) h.ended

ir_counted : (b : Bool) (h : Heard) → counted (scans_counted b h).ir_scans ≡ counted (h.ir_scans + scans_if b (count_of true h))
ir_counted true h = counted_once (h.ir_scans + count_of true h)
ir_counted false h = counted_none h.ir_scans

dr_counted : (b : Bool) (h : Heard) → counted (scans_counted b h).dr_scans ≡ counted (h.dr_scans + scans_if b (count_of false h))
dr_counted true h = counted_once (h.dr_scans + count_of false h)
dr_counted false h = counted_none h.dr_scans

module _ {C K : Type 0} (cable : CableOf C) (sink : SinkOf K) (base : BaseLengths) (said : TurnPlace) (at to : Tap) (turn : Chain → Happened)
    (old new : C) (runs mid_runs new_runs : Kept) (out mid_out : Lines K) where
  -- a turn that was played on lines, and what was kept of it
  module _ (w : Went) (s : State) (t : TurnsKept cable (lines_paper sink) base turn at old runs out (led_on w s) to new mid_runs mid_out)
      (same : IsOverSame out mid_out) (whole : IsWhole mid_out) (kept : SinkNeverFalls sink out mid_out) where
    abbrev events : List Event
    events = t.turns.events

    first_put : Puts sink out (events_text false [] events) mid_out
    first_put = puts_back sink out mid_out (events_text false [] events) same whole kept t.turns.put

    own_events : (more : List Bool) → happened_events (turn (chain_heard cable base at old events more)) ≡ events
    own_events more =
        ap happened_events (t.turns.does more) ∙ happened_after events (led_on w s (chain_of cable base to new more))
        ∙ ap (λ es. events ++ es) (led_without w s (chain_of cable base to new more)) ∙ append-nil events

    module _ (closed_runs : Kept) (closes : Becomes mid_runs (closed mid_runs.heard) closed_runs) (closes_fit : StaysIfRoom mid_runs (closed mid_runs.heard) closed_runs)
        (counts : new_runs ≡ record closed_runs { heard = scans_counted said.scans closed_runs.heard }) (none_lost : runs.lost ≡ false)
        (finds : TurnFindsRoom cable base turn at old runs) (ended : List ShiftRun) (ended_is : ended ≡ new_runs.heard.ended) where
      abbrev begins : Heard
      begins = begun at runs.heard

      abbrev own_runs : List ShiftRun
      own_runs = shift_runs at (clocks_among events)

      room : FitIn runs.room.bits runs.room.runs own_runs
      room = subst (λ es. HasRoomFor runs at es) (own_events []) (finds events [])

      mid_kept : mid_runs.lost ≡ false
      mid_kept = t.fits none_lost (subst (λ rs. FitIn runs.room.bits runs.room.runs rs) (sym (turn_runs at runs.heard events)) room)

      first : IsKnown (begun_at at runs) (heard_all begins (signals_of events)) mid_runs
      first = t.heard.known mid_kept

      mid_said : all_runs mid_runs.heard ≡ own_runs
      mid_said = ap all_runs first.heard ∙ turn_runs at runs.heard events

      closed_kept : closed_runs.lost ≡ false
      closed_kept =
          closes_fit mid_kept
          (subst (λ (r : Room). FitIn r.bits r.runs (all_runs (closed mid_runs.heard))) (sym t.heard.room)
          (subst (λ rs. FitIn runs.room.bits runs.room.runs rs) (sym (closed_same (all_runs mid_runs.heard) ∙ mid_said)) room))

      last : IsKnown mid_runs (closed mid_runs.heard) closed_runs
      last = closes.known closed_kept

      -- what is counted of the turn, before its scans are
      closed_heard : closed_runs.heard ≡ closed (heard_all begins (signals_of events))
      closed_heard = last.heard ∙ ap closed first.heard

      counts_heard : new_runs.heard ≡ scans_counted said.scans closed_runs.heard
      counts_heard = ap (λ (k : Kept). k.heard) counts

      closed_said : closed_runs.heard.ended ≡ own_runs
      closed_said = ap (λ (h : Heard). h.ended) last.heard ∙ mid_said

      runs_said : ended ≡ own_runs
      runs_said = ended_is ∙ ap (λ (h : Heard). h.ended) counts_heard ∙ same_ended said.scans closed_runs.heard ∙ closed_said

      sums : SumsGoOn runs (length (clocks_among events)) (usec_among events) (turn_scans said true at events) (turn_scans said false at events) new_runs
      sums = record {
        none_lost = ap (λ (k : Kept). k.lost) counts ∙ closed_kept;
        same_room = ap (λ (k : Kept). k.room) counts ∙ closes.room ∙ t.heard.room;
        more_clocks = ap (λ (h : Heard). counted h.clocks) counts_heard ∙ ap counted (same_clocks said.scans closed_runs.heard)
            ∙ ap (λ (h : Heard). counted h.clocks) closed_heard ∙ clocks_go_on events begins;
        more_usec = ap (λ (h : Heard). counted h.usec) counts_heard ∙ ap counted (same_usec said.scans closed_runs.heard)
            ∙ ap (λ (h : Heard). counted h.usec) closed_heard ∙ usec_goes_on events begins;
        more_ir = ap (λ (h : Heard). counted h.ir_scans) counts_heard ∙ ir_counted said.scans closed_runs.heard
            ∙ ap₂ (λ n m. counted (n + scans_if said.scans m)) (ap (λ (h : Heard). h.ir_scans) closed_heard ∙ (scans_stay (signals_of events) begins).0)
            (ap (count_by (λ (r : ShiftRun). beq r.ir true)) closed_said);
        more_dr = ap (λ (h : Heard). counted h.dr_scans) counts_heard ∙ dr_counted said.scans closed_runs.heard
            ∙ ap₂ (λ n m. counted (n + scans_if said.scans m)) (ap (λ (h : Heard). h.dr_scans) closed_heard ∙ (scans_stay (signals_of events) begins).1)
            (ap (count_by (λ (r : ShiftRun). beq r.ir false)) closed_said);
      }

      pub accounted : (new_out : Lines K) → Puts sink mid_out (runs_text said base ended) new_out →
          AccountsTurn cable sink base said turn at old runs out (led_on w s) to new new_runs new_out
      accounted new_out p = record {
        events = events;
        made = t.turns.made;
        put = put_then first_put (puts_same (ap (runs_text said base) runs_said) p);
        does = t.turns.does;
        sums = sums;
      }

      -- a front of the lines of its runs was put
      pub runs_torn : (new_out : Lines K) → PutsBroken sink mid_out (runs_text said base ended) new_out →
          AccountsFront cable sink base said turn at old out new_out
      runs_torn new_out p = record {
        events = events;
        put = λ more. subst (λ es. PutsFront sink out (turn_text said base at es) new_out) (sym (own_events more))
            (put_then_front first_put (front_same (ap (runs_text said base) runs_said) p)).put;
      }

  -- a front of what it writes besides was put
  pub turn_torn : TurnsFront cable (lines_paper sink) base turn at old out new mid_out → IsOverSame out mid_out → SinkNeverFalls sink out mid_out →
      SinkHasRisen sink out mid_out → AccountsFront cable sink base said turn at old out mid_out
  turn_torn t same kept rose = record {
    events = t.events;
    put = λ more.
        (let rest : List Event = happened_events (t.rest more) in
        let all : happened_events (turn (chain_heard cable base at old t.events more)) ≡ t.events ++ rest =
        ap happened_events (t.does more) ∙ happened_after t.events (t.rest more) in
        let front : PutsFront sink out (events_text false [] t.events) mid_out =
        front_back sink out mid_out (events_text false [] t.events) same kept rose t.put in
        subst (λ es. PutsFront sink out (turn_text said base at es) mid_out) (sym all)
        (front_more (runs_text said base (shift_runs at (clocks_among (t.events ++ rest))))
        (subst (λ x. PutsFront sink out x mid_out) (sym (text_both t.events rest)) (front_more (events_text false [] rest) front))));
  }
