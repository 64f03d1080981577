-- What a play over a watch says of the play of a program on the devices alone.
use Rattle.std.proofs.Common.{◌≡◌, ◌≤◌, ◌⊎◌, ◌-◌, ◌+◌, ℕ, zero, suc, Bool, List, [], ◌++◌, refl, sym, ap, subst, ◌∙◌, inl, inr, arith}
use Rattle.std.specs.Prelude.{Option, Some, None}
use Rattle.tap_states.specs.declared.Tap.TheVariants.{Reset}
use Rattle.dev_card.specs.declared.desc.Kind.{Kind}
use Rattle.dev_card.specs.declared.desc.Desc.{Desc}
use Rattle.dev_card.specs.Board.{tdos}
use Rattle.dev_card.specs.FarEnds.{FarEnd, Heard, heard_after}
use Rattle.dev_card.specs.Sound.{SoundCard}
use Rattle.stapl_meaning.specs.declared.events.Event.{Event}
use Rattle.stapl_meaning.specs.declared.events.Ending.{Ending}
use Rattle.stapl_meaning.specs.Deeds.{deeds_events}
use Rattle.stapl_meaning.specs.Scopes.{Played}
use Rattle.stapl_meaning.specs.Plays.{Outcome, Ended, Going, Stopped, Run, ending_of, reset_events, reset_inputs, procedures_run}
use Rattle.stapl_code.specs.declared.raw.CodeLists.{CodeLists}
use Rattle.stapl_codegen.specs.Emit.{start_of}
use Rattle.stapl_codegen.specs.Correct.{placed_outcome, placed_run}
use Rattle.stapl_codegen.specs.Generated.{IsCodeOf}
use Rattle.stapl_machine.specs.declared.running.Machine.{Machine}
use Rattle.stapl_machine.specs.Machines.{play_of}
use Rattle.stapl_player.specs.Plays.{whole_play, HasPlayed}
use Rattle.written_cable.specs.Papers.{Shown}
use Rattle.written_cable.specs.Signals.{signals_of}
use Rattle.quiet_runs.proofs.FirstZeros.{same_zeros}
use Rattle.padded_plays.specs.QuietPlays.{deeds_of_play, IsQuietPlay}
use Rattle.padded_plays.proofs.QuietTurns.{events_of_play}
use Rattle.padded_plays.specs.declared.unquiet.Unquiet.{Unquiet}
use Rattle.padded_plays.specs.FirstDeeds.{at_the_beginning, in_a_turn}
use Rattle.padded_plays.proofs.Firsts.{GoesOn, goes_on_if}
use Rattle.quiet_watch.specs.Watches.{marks, Watched, WatchFollows, seen_by}
use Rattle.quiet_watch.specs.HeardPlays.{marked_chain, new_watch, HasSeenPlay}
use Rattle.quiet_watch.specs.declared.watch.Watch.{Watch}
use Rattle.quiet_watch.specs.WatchedDevices.{untold, watched_of, HasFollowed}
use Rattle.quiet_watch.proofs.WatchedPlays.{has_seen}
use Rattle.quiet_runs.specs.declared.judging.Judged.{Judged}
use Rattle.quiet_runs.specs.WatchedPlays.{HasWatchedPlay}
use Rattle.quiet_runs.specs.Verdicts.{IsJudgedPlay, IsUnquietAt, IsBetween}
use Rattle.quiet_runs.proofs.HeardFollows.{hears_play}

-- a play over a watch, of which this run is told
pub watched_play : {D O : Type 0} (fitted : D → Option SoundCard) (kind_of : D → Kind) (shown : O → Shown) (pins : Bool) (run : FarEnd → Run) (count : FarEnd → ℕ)
    (old : Watch D) (out : O) (steps : ℕ) (ending : Ending) (new : Watch D) (new_out : O) (now : ℕ) (machine : Machine) →
    HasPlayed untold (HasFollowed fitted kind_of) shown pins run count old out steps ending new new_out now machine → HasWatchedPlay fitted kind_of run old ending new
watched_play fitted kind_of shown pins run count old out steps ending new new_out now machine p = record {
  answers = tdos p.clocks ++ [];
  follows = subst (λ (es : List Event). HasFollowed fitted kind_of old (signals_of es) new) (sym (p.runs [])) p.made;
  ended = p.ended [];
}

ending_placed : (place : ℕ → ℕ) (o : Outcome) → ending_of (placed_outcome place o) ≡ ending_of o
ending_placed place (Ended ending) = refl
ending_placed place (Going i) = refl
ending_placed place Stopped = refl

module _ (program : Played) (code : CodeLists) (is : IsCodeOf program code) (chosen : List ℕ) (n : ℕ) (bs : List Bool) where
  abbrev rest : List Bool
  rest = heard_after bs reset_inputs

  abbrev source : Run
  source = procedures_run program chosen n (marked_chain Reset rest)

  code_run_is : play_of code chosen n (marked_chain Reset rest) ≡ placed_run (start_of program) source
  code_run_is = rw (same_zeros program code is) (is.stands chosen n (marked_chain Reset rest))

  events_are : (whole_play code chosen n marks (Heard bs)).events
      ≡ reset_events (Heard bs) ++ deeds_events (marked_chain Reset rest) (deeds_of_play program chosen n (marked_chain Reset rest))
  events_are = ap (λ (r : Run). reset_events (Heard bs) ++ r.events) code_run_is ∙ events_of_play program chosen n marks (Heard bs)

  ending_is : ending_of (whole_play code chosen n marks (Heard bs)).outcome ≡ ending_of source.outcome
  ending_is = ap (λ (r : Run). ending_of r.outcome) code_run_is ∙ ending_placed (start_of program) source.outcome

-- what was watched of a play of the code of a program
module _ {D : Type 0} (fitted : D → Option SoundCard) (kind_of : D → Kind) (code : CodeLists) (chosen : List ℕ) (n : ℕ) (run : List Desc) (old new : Watch D)
    (ending : Ending) (first : watched_of fitted kind_of old ≡ new_watch run) (p : HasWatchedPlay fitted kind_of (whole_play code chosen n marks) old ending new) where
  seen : (program : Played) → IsCodeOf program code → HasSeenPlay program chosen n run (heard_after p.answers reset_inputs) (watched_of fitted kind_of new)
  seen program is =
      let events = events_are program code is chosen n p.answers in
      has_seen program chosen n run (heard_after p.answers reset_inputs) (watched_of fitted kind_of new)
      (hears_play program chosen n run p.answers (watched_of fitted kind_of new)
      (subst (λ (es : List Event). WatchFollows (new_watch run) (signals_of es) (watched_of fitted kind_of new)) events
      (subst (λ (w : Watched). WatchFollows w (signals_of (whole_play code chosen n marks (Heard p.answers)).events) (watched_of fitted kind_of new)) first p.follows.follows)))

  pub judges : (unquiet : Option Unquiet) → unquiet ≡ seen_by (watched_of fitted kind_of new) → (program : Played) → IsCodeOf program code →
      IsJudgedPlay program chosen n run (record { ending = ending; unquiet = unquiet })
  judges unquiet e program is =
      let s = seen program is in
      record {
        ended = ap ending_of (sym s.outcome) ∙ sym (ending_is program code is chosen n p.answers) ∙ p.ended;
        quiet = λ none. s.none (sym e ∙ none);
        unquiet = λ why some. s.some why (sym e ∙ some);
      }

-- ---- the turn

pub first_at : (program : Played) (chosen : List ℕ) (n : ℕ) (run : List Desc) (low high : ℕ) (why : Unquiet) → IsBetween program chosen run low high why →
    high ≤ low → low ≤ high → high ≤ n → IsUnquietAt program chosen n run high why
first_at program chosen n run low zero why b above below within = record { piece = 0; first = at_the_beginning why b.unquiet; within = within }
first_at program chosen n run low (suc h) why b above below within = by b.quiet
  where
    by : (low ≡ 0) ⊎ IsQuietPlay program chosen (low - 1) run → IsUnquietAt program chosen n run (suc h) why
    by (inl e) = absurd (omega arith)
    by (inr q) =
        let less : low - 1 ≡ h = omega arith in
        let quiet : IsQuietPlay program chosen h run = subst (λ (m : ℕ). IsQuietPlay program chosen m run) less q in
        let g : GoesOn program chosen run h = goes_on_if program chosen run h why quiet b.unquiet in
        record { piece = g.place + 1; first = in_a_turn h g.place why quiet g.goes b.unquiet; within = within }

-- a play that was judged for a number between
pub lower_high : (program : Played) (chosen : List ℕ) (run : List Desc) (low high middle : ℕ) (why found : Unquiet) (judged : Judged) →
    IsBetween program chosen run low high why → IsJudgedPlay program chosen middle run judged → judged.unquiet ≡ Some found → IsBetween program chosen run low middle found
lower_high program chosen run low high middle why found judged b j e = record { unquiet = j.unquiet found e; quiet = b.quiet }

pub higher_low : (program : Played) (chosen : List ℕ) (run : List Desc) (low high middle : ℕ) (why : Unquiet) (judged : Judged) →
    IsBetween program chosen run low high why → IsJudgedPlay program chosen middle run judged → judged.unquiet ≡ None → IsBetween program chosen run (middle + 1) high why
higher_low program chosen run low high middle why judged b j e =
    let same : middle ≡ middle + 1 - 1 = omega arith in
    record { unquiet = b.unquiet; quiet = inr (subst (λ (m : ℕ). IsQuietPlay program chosen m run) same (j.quiet e)) }

pub more_turns : (program : Played) (chosen : List ℕ) (n m : ℕ) (run : List Desc) (turn : ℕ) (why : Unquiet) → n ≤ m → IsUnquietAt program chosen n run turn why →
    IsUnquietAt program chosen m run turn why
more_turns program chosen n m run turn why h u = record { piece = u.piece; first = u.first; within = (let w = u.within in omega arith) }
