-- A run of new devices is padded after the clocks that bring them to reset.
use Rattle.std.proofs.Common.{◌≡◌, false, All, List, [], ◌∷◌, ◌++◌, refl, ap, ◌∙◌}
use Rattle.std.proofs.lemmas.List.{map-append}
use Rattle.std.proofs.lemmas.List.Elements.{All-head, All-tail}
use Rattle.std.proofs.lemmas.Bool.{false≢true}
use Rattle.tap_states.specs.declared.Tap.TheVariants.{Reset}
use Rattle.tap_states.specs.Path.{five_ones}
use Rattle.dev_card.specs.declared.desc.Desc.{Desc}
use Rattle.dev_card.specs.Descriptions.{IsGood}
use Rattle.dev_card.specs.Card.{fresh}
use Rattle.dev_card.specs.Board.{board_after, EachCard, AllIn}
use Rattle.dev_card.specs.Clocks.{with_zero}
use Rattle.dev_card.specs.PaddedScan.{descriptions_of}
use Rattle.dev_card.specs.Sound.{AllSound}
use Rattle.dev_card.proofs.Soundness.{fresh_sound}
use Rattle.padded_plays.specs.PaddedRuns.{IsPassing, IsPaddedRun, fresh_board}
use Rattle.padded_plays.proofs.KeptWalks.{walk_keeps}

fresh_passes : (ds : List Desc) → EachCard (IsPassing false Reset) (fresh_board ds)
fresh_passes [] = tt
fresh_passes (d ∷ ds) = (record { state = refl; waiting = λ x. absurd (false≢true x); in_force = λ l x. absurd (false≢true l) }, fresh_passes ds)

fresh_in_reset : (ds : List Desc) → AllIn Reset (fresh_board ds)
fresh_in_reset [] = tt
fresh_in_reset (d ∷ ds) = (refl, fresh_in_reset ds)

all_fresh_sound : (ds : List Desc) → All IsGood ds → AllSound (fresh_board ds)
all_fresh_sound [] h = tt
all_fresh_sound (d ∷ ds) h = (fresh_sound d (All-head IsGood d ds h), all_fresh_sound ds (All-tail IsGood d ds h))

descriptions_of_fresh : (ds : List Desc) → descriptions_of (fresh_board ds) ≡ ds
descriptions_of_fresh [] = refl
descriptions_of_fresh (d ∷ ds) = ap (λ t. d ∷ t) (descriptions_of_fresh ds)

pub reset_is_padded : (before run after : List Desc) → All IsGood (before ++ (run ++ after))
    → IsPaddedRun before run after false Reset (board_after (fresh_board (before ++ (run ++ after))) (with_zero five_ones)) (board_after (fresh_board run) (with_zero five_ones))
reset_is_padded before run after g =
    let new : IsPaddedRun before run after false Reset (fresh_board (before ++ (run ++ after))) (fresh_board run) = record {
      front = fresh_board before;
      back = fresh_board after;
      whole = map-append fresh before (run ++ after) ∙ ap (λ t. fresh_board before ++ t) (map-append fresh run after);
      front_is = descriptions_of_fresh before;
      alone_is = descriptions_of_fresh run;
      back_is = descriptions_of_fresh after;
      between = refl;
      states = fresh_in_reset run;
      sound = all_fresh_sound (before ++ (run ++ after)) g;
      front_passes = fresh_passes before;
      back_passes = fresh_passes after;
    } in
    walk_keeps before run after false Reset (fresh_board (before ++ (run ++ after))) (fresh_board run) five_ones (refl, (refl, (refl, (refl, (refl, tt))))) new
