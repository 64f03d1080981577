-- Quiet deeds keep a padded run, say the same events but for the clocks, and capture the same.
use Rattle.std.proofs.Common.{◌≡◌, ◌<◌, Bool, true, false, List, [], ◌∷◌, ◌++◌, length, replicate, refl, sym, ap, ◌∙◌}
use Rattle.tap_states.specs.declared.Tap.{Tap}
use Rattle.tap_states.specs.Tap.{is_stable_state}
use Rattle.tap_states.specs.Path.{path_of}
use Rattle.dev_card.specs.declared.desc.Desc.{Desc}
use Rattle.dev_card.specs.Card.{Card}
use Rattle.dev_card.specs.Board.{Clock, board_after, clocks_of}
use Rattle.dev_card.specs.Clocks.{move_inputs, stay_inputs, rest_tms}
use Rattle.dev_card.specs.Padding.{base_around, base_pre_of, base_post_of}
use Rattle.dev_card.specs.FarEnds.{Told}
use Rattle.dev_card.specs.Scans.{BoardScan, inputs_of_scan, captured_from, scan_alone}
use Rattle.padded_plays.specs.QuietClocks.{IsQuietScan, loaded_after, loaded_by_scan}
use Rattle.padded_plays.specs.PaddedRuns.{IsPaddedRun, KeepsPaddedRun}
use Rattle.padded_plays.proofs.KeptWalks.{move_keeps, stay_keeps}
use Rattle.padded_plays.proofs.KeptScans.{scan_keeps}
use Rattle.stapl_meaning.specs.declared.events.Event.{Event}
use Rattle.stapl_meaning.specs.declared.events.Event.TheVariants.{Print, Export, Usec, Hertz}
use Rattle.stapl_meaning.specs.declared.events.Event.TheVariants as events
use Rattle.stapl_meaning.specs.Deeds.{Deed, Says, Goes, Stays, Scans, Chain, based, pulses, deed_chain, deeds_events, deeds_chain, captured_on}
use Rattle.padded_plays.specs.QuietPlays.{no_base, AreQuietDeeds, loaded_by_deeds}
use Rattle.padded_plays.specs.SamePlays.{without_clocks}
use Rattle.padded_plays.proofs.StableStays.{StayInStable}

-- events without clocks

pub no_clocks : (ks : List Clock) → without_clocks (pulses ks) ≡ []
no_clocks [] = refl
no_clocks (k ∷ ks) = no_clocks ks

pub without_both : (xs ys : List Event) → without_clocks (xs ++ ys) ≡ without_clocks xs ++ without_clocks ys
without_both [] ys = refl
without_both (Print bytes ∷ xs) ys = ap (λ t. Print bytes ∷ t) (without_both xs ys)
without_both (Export key value ∷ xs) ys = ap (λ t. Export key value ∷ t) (without_both xs ys)
without_both (events.Clock tms tdi tdo ∷ xs) ys = without_both xs ys
without_both (Usec n ∷ xs) ys = ap (λ t. Usec n ∷ t) (without_both xs ys)
without_both (Hertz n ∷ xs) ys = ap (λ t. Hertz n ∷ t) (without_both xs ys)

pub same_both : (xs xs1 ys ys1 : List Event) → without_clocks xs ≡ without_clocks xs1 → without_clocks ys ≡ without_clocks ys1
    → without_clocks (xs ++ ys) ≡ without_clocks (xs1 ++ ys1)
same_both xs xs1 ys ys1 e f =
    without_both xs ys ∙ ap (λ t. t ++ without_clocks ys) e ∙ ap (λ t. without_clocks xs1 ++ t) f ∙ sym (without_both xs1 ys1)

pub same_pulses : (ks js : List Clock) → without_clocks (pulses ks) ≡ without_clocks (pulses js)
same_pulses ks js = no_clocks ks ∙ sym (no_clocks js)

-- the chains of a padded board and of a run that stands alone
abbrev pub chain_alone : Tap → List Card → Chain
chain_alone at cards = record { tap = at; base = no_base; far = Told cards }

no_pre : (ir : Bool) → base_pre_of ir no_base ≡ 0
no_pre true = refl
no_pre false = refl

no_post : (ir : Bool) → base_post_of ir no_base ≡ 0
no_post true = refl
no_post false = refl

alone_scan : (scan : BoardScan) → based no_base scan ≡ record scan { paddings = record scan.paddings { base_pre = 0; base_post = 0 } }
alone_scan scan =
    ap (λ n. record scan { paddings = record scan.paddings { base_pre = n; base_post = base_post_of scan.ir no_base } }) (no_pre scan.ir)
    ∙ ap (λ n. record scan { paddings = record scan.paddings { base_pre = 0; base_post = n } }) (no_post scan.ir)

module _ (before run after : List Desc) where
  abbrev pub padded_chain : Tap → List Card → Chain
  padded_chain at board = record { tap = at; base = base_around before after; far = Told board }

  -- a scan
  pub record IsSameScan (loaded : Bool) (at : Tap) (board alone : List Card) (scan : BoardScan) : Type 0 where
    pub board_then : List Card
    pub alone_then : List Card
    pub board_is : deed_chain (padded_chain at board) (Scans scan) ≡ padded_chain scan.stop board_then
    pub alone_is : deed_chain (chain_alone at alone) (Scans scan) ≡ chain_alone scan.stop alone_then
    pub kept : IsPaddedRun before run after (loaded_by_scan loaded scan) scan.stop board_then alone_then
    pub same_captured : captured_on (padded_chain at board) scan ≡ captured_on (chain_alone at alone) scan

  pub scans_are_same : (loaded : Bool) (at : Tap) (board alone : List Card) (scan : BoardScan) → 0 < length run → is_stable_state at ≡ true
      → IsQuietScan loaded at alone scan → IsPaddedRun before run after loaded at board alone → IsSameScan loaded at board alone scan
  scans_are_same loaded at board alone scan some st q h =
      let s : BoardScan = based (base_around before after) scan in
      let k : KeepsPaddedRun before run after loaded at board alone s =
      scan_keeps before run after loaded at board alone s some st (record { pre = refl; post = refl })
      (record { as_long = q.as_long; loaded_before = q.loaded_before; quiet_stop = q.quiet_stop }) h in
      let e : scan_alone s ≡ based no_base scan = sym (alone_scan scan) in
      record {
        board_then = board_after board (inputs_of_scan at s);
        alone_then = board_after alone (inputs_of_scan at (scan_alone s));
        board_is = refl;
        alone_is = ap (λ x. chain_alone scan.stop (board_after alone (inputs_of_scan at x))) (sym e);
        kept = k.kept;
        same_captured = k.same_captured ∙ ap (λ x. captured_from at x (clocks_of alone (inputs_of_scan at x))) e;
      }

  -- deeds one after another
  pub record AreSameDeeds (loaded : Bool) (at : Tap) (board alone : List Card) (ds : List Deed) : Type 0 where
    pub tap_then : Tap
    pub board_then : List Card
    pub alone_then : List Card
    pub board_is : deeds_chain (padded_chain at board) ds ≡ padded_chain tap_then board_then
    pub alone_is : deeds_chain (chain_alone at alone) ds ≡ chain_alone tap_then alone_then
    pub kept : IsPaddedRun before run after (loaded_by_deeds loaded (chain_alone at alone) ds) tap_then board_then alone_then
    pub same_events : without_clocks (deeds_events (padded_chain at board) ds) ≡ without_clocks (deeds_events (chain_alone at alone) ds)

  pub deeds_are_same : (ds : List Deed) (b loaded : Bool) (at : Tap) (board alone : List Card) → (b ≡ true → is_stable_state at ≡ true) → StayInStable b ds →
      AreQuietDeeds loaded (chain_alone at alone) ds
      → IsPaddedRun before run after loaded at board alone → AreSameDeeds loaded at board alone ds
  deeds_are_same [] b loaded at board alone st w q h =
      record { tap_then = at; board_then = board; alone_then = alone; board_is = refl; alone_is = refl; kept = h; same_events = refl }
  deeds_are_same (Says event ∷ ds) b loaded at board alone st w q h =
      let k = deeds_are_same ds b loaded at board alone st w q.1 h in
      record {
        tap_then = k.tap_then;
        board_then = k.board_then;
        alone_then = k.alone_then;
        board_is = k.board_is;
        alone_is = k.alone_is;
        kept = k.kept;
        same_events = same_both (event ∷ []) (event ∷ []) (deeds_events (padded_chain at board) ds) (deeds_events (chain_alone at alone) ds) refl k.same_events;
      }
  deeds_are_same (Goes to ∷ ds) b loaded at board alone st w q h =
      let board1 : List Card = board_after board (move_inputs at to) in
      let alone1 : List Card = board_after alone (move_inputs at to) in
      let k = deeds_are_same ds (is_stable_state to) (loaded_after at (path_of at to) loaded) to board1 alone1 (λ e. e) w q.1 (move_keeps before run after loaded at to board alone q.0 h) in
      record {
        tap_then = k.tap_then;
        board_then = k.board_then;
        alone_then = k.alone_then;
        board_is = k.board_is;
        alone_is = k.alone_is;
        kept = k.kept;
        same_events = same_both (pulses (clocks_of board (move_inputs at to))) (pulses (clocks_of alone (move_inputs at to))) (deeds_events (padded_chain to board1) ds)
            (deeds_events (chain_alone to alone1) ds)
            (same_pulses (clocks_of board (move_inputs at to)) (clocks_of alone (move_inputs at to))) k.same_events;
      }
  deeds_are_same (Stays n ∷ ds) b loaded at board alone st w q h =
      let board1 : List Card = board_after board (stay_inputs at n) in
      let alone1 : List Card = board_after alone (stay_inputs at n) in
      let k = deeds_are_same ds b (loaded_after at (replicate n (rest_tms at)) loaded) at board1 alone1 st w.1 q.1 (stay_keeps before run after loaded at n board alone (st w.0) h) in
      record {
        tap_then = k.tap_then;
        board_then = k.board_then;
        alone_then = k.alone_then;
        board_is = k.board_is;
        alone_is = k.alone_is;
        kept = k.kept;
        same_events = same_both (pulses (clocks_of board (stay_inputs at n))) (pulses (clocks_of alone (stay_inputs at n))) (deeds_events (padded_chain at board1) ds)
            (deeds_events (chain_alone at alone1) ds)
            (same_pulses (clocks_of board (stay_inputs at n)) (clocks_of alone (stay_inputs at n))) k.same_events;
      }
  deeds_are_same (Scans scan ∷ ds) b loaded at board alone st w q h = absurd w
