-- A block of the devices at some places, one after another, the last one first.
use Rattle.std.proofs.Common.{◌≡◌, ◌≢◌, ◌<◌, ℕ, Bool, false, List, [], ◌∷◌, map, length, get_or, Option, Some, None, IsSome, slice_get, refl, sym, ap, ◌∙◌, subst}
use Rattle.std.specs.Option.{option_map}
use Rattle.std.proofs.lemmas.Bool.{false≢true}
use Rattle.base.specs.Bits.{low_bits, number_of}
use Rattle.dev_card.specs.declared.desc.Kind.{Kind}
use Rattle.dev_card.specs.Card.{Card}
use Rattle.dev_card.specs.Board.{Clock, Input, clock_with, after_input, clocks_of, board_after, tdos}
use Rattle.dev_card.specs.Sound.{SoundCard, card_in}
use Rattle.dev_card.specs.Blocks.{block_inputs, card_after_block, card_block, board_after_block, board_block}
use Rattle.dev_card.proofs.BlockSteps.{shifts_card_by_card, nothing_after, block_of_nothing}
use Rattle.scan_paths.specs.Cables.{Signal, pulsed, clocks_in, input_of, HasShifted}
use Rattle.scan_paths.proofs.Signals.{clocks_in_pulsed}
use Rattle.chain_sim.specs.Places.{card_at, joined, cards_at, IsAbsent, AreApart}
use Rattle.chain_sim.specs.Runs.{HasRun}
use Rattle.chain_sim.proofs.Clocking.{card_read, card_kept, cards_kept, first_is_some, rest_is_some}
use Rattle.std.proofs.lemmas.Option.{same_Some}

-- what is seen of the device at one place
pub card_seen : {A T : Type 0} (f : A → Option SoundCard) (xs : List A) (i : ℕ) (x : A) (see : Card → T) (t : T) → i < length xs → x ≡ get_or xs i x →
    option_map see (card_in (f x)) ≡ Some t → option_map see (card_at (map f xs) i) ≡ Some t
card_seen f xs i x see t h e s = ap (λ o. option_map see o) (card_read f xs i x h e) ∙ s

-- no place
pub no_places : (rack : List (Option SoundCard)) (places : List ℕ) (tdi n : ℕ) (last : Bool) → places ≡ [] →
    cards_at rack places ≡ option_map (λ cs. board_after_block cs tdi n last) (cards_at rack places)
no_places rack places tdi n last e =
    let at_none : cards_at rack [] ≡ option_map (λ cs. board_after_block cs tdi n last) (cards_at rack []) =
    ap Some (sym (nothing_after (block_inputs tdi n last))) in
    subst (λ ps. cards_at rack ps ≡ option_map (λ cs. board_after_block cs tdi n last) (cards_at rack ps)) (sym e) at_none

pub no_places_seen : (rack : List (Option SoundCard)) (places : List ℕ) (tdi n r : ℕ) (last : Bool) → places ≡ [] → r ≡ number_of (low_bits n tdi) →
    option_map (λ cs. board_block cs tdi n last) (cards_at rack places) ≡ Some r
no_places_seen rack places tdi n r last e v =
    ap (λ ps. option_map (λ cs. board_block cs tdi n last) (cards_at rack ps)) e ∙ ap Some (block_of_nothing tdi n last ∙ sym v)

-- the first place and the rest
joined_block : (o : Option Card) (os : Option (List Card)) (tdi n after : ℕ) (last : Bool) → IsSome (joined o os) →
    option_map (λ cs. board_block cs tdi n last) os ≡ Some after →
    joined (option_map (λ c. card_after_block c after n last) o) (option_map (λ cs. board_after_block cs tdi n last) os)
    ≡ option_map (λ cs. board_after_block cs tdi n last) (joined o os)
joined_block None os tdi n after last h e = absurd (false≢true h)
joined_block (Some c) None tdi n after last h e = absurd (false≢true h)
joined_block (Some c) (Some cs) tdi n after last h e =
    ap (λ x. Some (card_after_block c x n last ∷ board_after_block cs tdi n last)) (sym (same_Some _ _ e))
    ∙ ap Some (sym (shifts_card_by_card c cs tdi n last).board)

joined_seen : (o : Option Card) (os : Option (List Card)) (tdi n after r : ℕ) (last : Bool) → IsSome (joined o os) →
    option_map (λ cs. board_block cs tdi n last) os ≡ Some after → option_map (λ c. card_block c after n last) o ≡ Some r →
    option_map (λ cs. board_block cs tdi n last) (joined o os) ≡ Some r
joined_seen None os tdi n after r last h e s = absurd (false≢true h)
joined_seen (Some c) None tdi n after r last h e s = absurd (false≢true h)
joined_seen (Some c) (Some cs) tdi n after r last h e s =
    ap Some ((shifts_card_by_card c cs tdi n last).tdo) ∙ ap (λ x. Some (card_block c x n last)) (same_Some _ _ e) ∙ s

module _ {A : Type 0} (f : A → Option SoundCard) (rack next : List A) (places : List ℕ) (p : ℕ) (ps : List ℕ) where
  -- what the devices after the first are to be
  pub after_fitted : places ≡ p ∷ ps → AreApart places → IsSome (cards_at (map f rack) places) → IsSome (cards_at (map f rack) ps) × AreApart ps
  after_fitted e a s =
      let g : IsSome (cards_at (map f rack) (p ∷ ps)) = subst (λ z. IsSome (cards_at (map f rack) z)) e s in
      (rest_is_some (card_at (map f rack) p) (cards_at (map f rack) ps) g, (subst AreApart e a).1)

  -- the first is as it was while the others were shifted
  pub first_stays : places ≡ p ∷ ps → AreApart places →
      ((k : ℕ) → IsAbsent k ps → slice_get next k ≡ slice_get rack k) → card_at (map f next) p ≡ card_at (map f rack) p
  first_stays e a stay = card_kept f rack next p (stay p (subst AreApart e a).0)

  pub first_fitted : places ≡ p ∷ ps → AreApart places → IsSome (cards_at (map f rack) places) →
      ((k : ℕ) → IsAbsent k ps → slice_get next k ≡ slice_get rack k) →
      IsSome (card_at (map f next) p)
  first_fitted e a s stay =
      let g : IsSome (cards_at (map f rack) (p ∷ ps)) = subst (λ z. IsSome (cards_at (map f rack) z)) e s in
      subst (λ o. IsSome o) (sym (first_stays e a stay)) (first_is_some (card_at (map f rack) p) (cards_at (map f rack) ps) g)

  module _ (tdi n after : ℕ) (last : Bool) where
    -- the others were shifted, and then the first
    pub all_shifted : (end : List A) → places ≡ p ∷ ps → AreApart places → IsSome (cards_at (map f rack) places) →
        ((k : ℕ) → IsAbsent k ps → slice_get next k ≡ slice_get rack k) →
        cards_at (map f next) ps ≡ option_map (λ cs. board_after_block cs tdi n last) (cards_at (map f rack) ps) →
        option_map (λ cs. board_block cs tdi n last) (cards_at (map f rack) ps) ≡ Some after →
        card_at (map f end) p ≡ option_map (λ c. card_after_block c after n last) (card_at (map f next) p) →
        ((k : ℕ) → k ≢ p → slice_get end k ≡ slice_get next k) →
        cards_at (map f end) places ≡ option_map (λ cs. board_after_block cs tdi n last) (cards_at (map f rack) places)
    all_shifted end e a s stay cards seen card others =
        let b : AreApart (p ∷ ps) = subst AreApart e a in
        let g : IsSome (cards_at (map f rack) (p ∷ ps)) = subst (λ z. IsSome (cards_at (map f rack) z)) e s in
        let here : card_at (map f end) p ≡ option_map (λ c. card_after_block c after n last) (card_at (map f rack) p) =
        card ∙ ap (λ o. option_map (λ c. card_after_block c after n last) o) (first_stays e a stay) in
        let there : cards_at (map f end) ps ≡ option_map (λ cs. board_after_block cs tdi n last) (cards_at (map f rack) ps) =
        cards_kept f next end p ps b.0 others ∙ cards in
        let both : cards_at (map f end) (p ∷ ps) ≡ option_map (λ cs. board_after_block cs tdi n last) (cards_at (map f rack) (p ∷ ps)) =
        ap (λ o. joined o (cards_at (map f end) ps)) here ∙ ap (joined (option_map (λ c. card_after_block c after n last) (card_at (map f rack) p))) there
        ∙ joined_block (card_at (map f rack) p) (cards_at (map f rack) ps) tdi n after last g seen in
        subst (λ z. cards_at (map f end) z ≡ option_map (λ cs. board_after_block cs tdi n last) (cards_at (map f rack) z)) (sym e) both

    pub all_seen : (r : ℕ) → places ≡ p ∷ ps → AreApart places → IsSome (cards_at (map f rack) places) →
        ((k : ℕ) → IsAbsent k ps → slice_get next k ≡ slice_get rack k) →
        option_map (λ cs. board_block cs tdi n last) (cards_at (map f rack) ps) ≡ Some after →
        option_map (λ c. card_block c after n last) (card_at (map f next) p) ≡ Some r →
        option_map (λ cs. board_block cs tdi n last) (cards_at (map f rack) places) ≡ Some r
    all_seen r e a s stay seen first =
        let g : IsSome (cards_at (map f rack) (p ∷ ps)) = subst (λ z. IsSome (cards_at (map f rack) z)) e s in
        ap (λ z. option_map (λ cs. board_block cs tdi n last) (cards_at (map f rack) z)) e
        ∙ joined_seen (card_at (map f rack) p) (cards_at (map f rack) ps) tdi n after r last g seen
        (ap (λ o. option_map (λ c. card_block c after n last) o) (sym (first_stays e a stay)) ∙ first)

  -- places absent from all are kept
  pub rest_stays : (end : List A) → places ≡ p ∷ ps → ((k : ℕ) → IsAbsent k ps → slice_get next k ≡ slice_get rack k) →
      ((k : ℕ) → k ≢ p → slice_get end k ≡ slice_get next k) →
      (k : ℕ) → IsAbsent k places → slice_get end k ≡ slice_get rack k
  rest_stays end e stay others k h = let b : IsAbsent k (p ∷ ps) = subst (IsAbsent k) e h in others k (λ q. b.0 (sym q)) ∙ stay k b.1

-- The clocks of a block of a chain.

-- those of its board
pub told_clocks : Option (List Card) → List Input → List Clock
told_clocks None is = map (λ i. clock_with i false) is
told_clocks (Some cs) is = clocks_of cs is

inputs_of_none : (is : List Input) → map input_of (map (λ i. clock_with i false) is) ≡ is
inputs_of_none [] = refl
inputs_of_none (i ∷ is) = ap (λ z. i ∷ z) (inputs_of_none is)

inputs_of_clocks : (cs : List Card) (is : List Input) → map input_of (clocks_of cs is) ≡ is
inputs_of_clocks cs [] = refl
inputs_of_clocks cs (i ∷ is) = ap (λ z. i ∷ z) (inputs_of_clocks (after_input cs i) is)

went_in : (o : Option (List Card)) (is : List Input) → map input_of (told_clocks o is) ≡ is
unfolding told_clocks
went_in None is = inputs_of_none is
went_in (Some cs) is = inputs_of_clocks cs is

told_seen : (o : Option (List Card)) (is : List Input) (cs : List Card) → o ≡ Some cs → told_clocks o is ≡ clocks_of cs is
unfolding told_clocks
told_seen o is cs e = ap (λ z. told_clocks z is) e

told_bits : (o : Option (List Card)) (is : List Input) (r : ℕ) → option_map (λ cs. number_of (tdos (clocks_of cs is))) o
    ≡ Some r → r ≡ number_of (tdos (told_clocks o is))
unfolding told_clocks
told_bits None is r e = absurd (let x : None ≡ Some r = e in cc)
told_bits (Some cs) is r e = sym (same_Some _ _ e)

pub chain_run : {X : Type 0} (fitted : X → Option SoundCard) (kind_of : X → Kind) (old new : List X) (places : List ℕ) (is : List Input) →
    map kind_of new ≡ map kind_of old → ((k : ℕ) → IsAbsent k places → slice_get new k ≡ slice_get old k) →
    cards_at (map fitted new) places ≡ option_map (λ cs. board_after cs is) (cards_at (map fitted old) places) →
    HasRun fitted kind_of old new places places (clocks_in (pulsed (told_clocks (cards_at (map fitted old) places) is)))
chain_run fitted kind_of old new places is kinds others cards =
    let o : Option (List Card) = cards_at (map fitted old) places in
    let w : map input_of (told_clocks o is) ≡ is = went_in o is in
    rw (clocks_in_pulsed (told_clocks o is)) record {
      same_places = refl;
      kinds = kinds;
      others = others;
      cards = cards ∙ ap (λ js. option_map (λ cs. board_after cs js) o) (sym w);
      seen = λ cs e. told_seen o is cs e ∙ ap (clocks_of cs) (sym w);
    }

pub chain_shifted : {C : Type 0} (board : C → Option (List Card)) (makes : C → List Signal → C → Type 0) (old new : C)
    (is : List Input) (r : ℕ) →
    makes old (pulsed (told_clocks (board old) is)) new → board new ≡ option_map (λ cs. board_after cs is) (board old) →
    option_map (λ cs. number_of (tdos (clocks_of cs is))) (board old) ≡ Some r → HasShifted board makes old new is r
chain_shifted board makes old new is r made cards seen = record {
  clocks = told_clocks (board old) is;
  made = record { made = made; went_in = went_in (board old) is; seen = λ cs e. told_seen (board old) is cs e; cards = cards };
  bits = told_bits (board old) is r seen;
}
