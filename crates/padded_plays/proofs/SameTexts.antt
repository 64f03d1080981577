-- Plays that are the same have the same text, ending and report.
use Rattle.std.proofs.Common.{◌≡◌, ◌≤◌, ◌-◌, ℕ, suc, false, All, List, [], ◌∷◌, ◌++◌, length, take, drop, Some, refl, sym, ap, subst, ◌∙◌, arith}
use Rattle.std.proofs.lemmas.List.{length-map}
use Rattle.std.proofs.Math.Seq.{drop-append_seam, take-append_seam}
use Rattle.dev_card.specs.declared.desc.Desc.{Desc}
use Rattle.dev_card.specs.Descriptions.{IsGood}
use Rattle.dev_card.specs.Card.{Card}
use Rattle.dev_card.specs.FarEnds.{FarEnd, Told, Heard}
use Rattle.dev_card.specs.Padding.{Neighbours, in_run, before_run, after_run, base_lengths}
use Rattle.dev_card.proofs.RunsOfNeighbours.{around_run, before_counted, run_counted}
use Rattle.dev_card.specs.PaddedScan.{descriptions_of}
use Rattle.dev_card.specs.Reports.{report_of}
use Rattle.padded_plays.specs.PaddedRuns.{fresh_board}
use Rattle.stapl_meaning.specs.declared.events.Event.{Event}
use Rattle.stapl_meaning.specs.declared.events.Event.TheVariants.{Print, Export, Clock, Usec, Hertz}
use Rattle.stapl_meaning.specs.Scopes.{Played}
use Rattle.stapl_meaning.specs.Plays.{Run, play, ending_of}
use Rattle.stapl_meaning.specs.Texts.{event_bytes, bytes_of, waiting, pin_line, events_text, far_report}
use Rattle.padded_plays.specs.QuietPlays.{told_cards, IsQuietPlay, play_alone, padded_play}
use Rattle.padded_plays.specs.SamePlays.{without_clocks, IsChainOfRun, IsSamePlay, cards_from, IsSameText}
use Rattle.padded_plays.proofs.SameTurns.{plays_are_same}

-- without pins, clocks have no text
bytes_without : (digits : List ℕ) (es : List Event) → bytes_of false digits es ≡ bytes_of false digits (without_clocks es)
bytes_without digits [] = refl
bytes_without digits (Print bytes ∷ es) = ap (λ t. event_bytes false digits (Print bytes) ++ t) (bytes_without [] es)
bytes_without digits (Export key value ∷ es) = ap (λ t. event_bytes false digits (Export key value) ++ t) (bytes_without [] es)
bytes_without digits (Clock tms tdi tdo ∷ es) = bytes_without digits es
bytes_without digits (Usec n ∷ es) = ap (λ t. event_bytes false digits (Usec n) ++ t) (bytes_without [] es)
bytes_without digits (Hertz n ∷ es) = ap (λ t. event_bytes false digits (Hertz n) ++ t) (bytes_without [] es)

waiting_without : (digits : List ℕ) (es : List Event) → waiting false digits es ≡ waiting false digits (without_clocks es)
waiting_without digits [] = refl
waiting_without digits (Print bytes ∷ es) = waiting_without [] es
waiting_without digits (Export key value ∷ es) = waiting_without [] es
waiting_without digits (Clock tms tdi tdo ∷ es) = waiting_without digits es
waiting_without digits (Usec n ∷ es) = waiting_without [] es
waiting_without digits (Hertz n ∷ es) = waiting_without [] es

text_without : (es : List Event) → events_text false [] es ≡ events_text false [] (without_clocks es)
text_without es = ap (λ t. t ++ pin_line (waiting false [] es)) (bytes_without [] es) ∙ ap (λ d. bytes_of false [] (without_clocks es) ++ pin_line d) (waiting_without [] es)

-- a part of a board, by the lengths of its parts
middle : (front cards back : List Card) (n m : ℕ) → length front ≡ n → length cards ≡ m → take m (drop n (front ++ (cards ++ back))) ≡ cards
middle front cards back n m e f =
    ap (λ k. take m (drop k (front ++ (cards ++ back)))) (sym e) ∙ ap (take m) (drop-append_seam front (cards ++ back))
    ∙ ap (λ k. take k (cards ++ back)) (sym f) ∙ take-append_seam cards back

as_many : (cs : List Card) (ds : List Desc) → descriptions_of cs ≡ ds → length cs ≡ length ds
as_many cs ds e = sym (length-map cs (λ (c : Card). c.desc)) ∙ ap (λ t. length t) e

report_of_told : (far : FarEnd) → report_of (told_cards far) ≡ far_report far
report_of_told (Told cs) = refl
report_of_told (Heard answers) = refl

text_of : (before run after : List Desc) (padded alone : Run) → IsSamePlay before run after padded alone → IsSameText (length before) (length run) padded alone
text_of before run after padded alone h =
    let c : IsChainOfRun before run after padded.chain alone.chain = h.chain in
    let cards : cards_from (length before) (length run) padded.chain.far ≡ told_cards alone.chain.far =
    ap (cards_from (length before) (length run)) c.board_is
    ∙ middle c.front c.cards c.back (length before) (length run) (as_many c.front before c.front_is) (as_many c.cards run c.cards_are)
    ∙ ap told_cards (sym c.alone_is) in
    record {
      same_text = text_without padded.events ∙ ap (events_text false []) h.same_events ∙ sym (text_without alone.events);
      same_ending = ap ending_of h.same_outcome;
      same_cards = cards;
      same_report = ap report_of cards ∙ report_of_told alone.chain.far;
    }

pub text_of_same : (program : Played) (chosen : List ℕ) (before run after : List Desc) (k : ℕ)
    → IsSamePlay before run after (padded_play program chosen k before run after) (play_alone program chosen k run)
    → IsSameText (length before) (length run) (padded_play program chosen k before run after) (play_alone program chosen k run)
text_of_same program chosen before run after k h = text_of before run after (padded_play program chosen k before run after) (play_alone program chosen k run) h

-- The same of a run of a board, by its places.
module _ (program : Played) (chosen : List ℕ) (devices : List Desc) (run : Neighbours) (n k : ℕ) (good : All IsGood devices) (one : 1 ≤ run.first)
    (order : run.first ≤ run.last) (within : run.last ≤ length devices) (quiet : IsQuietPlay program chosen n (in_run run devices)) (le : k ≤ n) where
  count : length (in_run run devices) ≡ suc run.last - run.first
  count = run_counted run devices one order within

  pub same_for_run : IsSamePlay (before_run run devices) (in_run run devices) (after_run run devices)
      (play program chosen k (base_lengths devices (Some run)) (Told (fresh_board devices))) (play_alone program chosen k (in_run run devices))
  same_for_run =
      let whole = around_run run devices one order in
      subst (λ ds. IsSamePlay (before_run run devices) (in_run run devices) (after_run run devices)
      (play program chosen k (base_lengths devices (Some run)) (Told (fresh_board ds))) (play_alone program chosen k (in_run run devices))) (sym whole)
      (plays_are_same program chosen (before_run run devices) (in_run run devices) (after_run run devices) n k
      (subst (λ ds. All IsGood ds) whole good) (omega (arith, count, order)) quiet le)

  pub text_of_run : IsSameText (run.first - 1) (suc run.last - run.first) (play program chosen k (base_lengths devices (Some run)) (Told (fresh_board devices)))
      (play_alone program chosen k (in_run run devices))
  text_of_run =
      let padded : Run = play program chosen k (base_lengths devices (Some run)) (Told (fresh_board devices)) in
      let alone : Run = play_alone program chosen k (in_run run devices) in
      subst (λ m. IsSameText m (suc run.last - run.first) padded alone) (before_counted run devices one order within)
      (subst (λ m. IsSameText (length (before_run run devices)) m padded alone) count
      (text_of (before_run run devices) (in_run run devices) (after_run run devices) padded alone same_for_run))
