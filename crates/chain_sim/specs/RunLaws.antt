-- The meanings of a chain are as a cable's must be: its cards are sound, and clocks that lead on can be joined.
use Rattle.std.proofs.Common.{◌≡◌, ℕ, List, [], ◌∷◌, ◌++◌, map, Option, Some, None, slice_get, refl, sym, ap, subst, ◌∙◌}
use Rattle.std.proofs.lemmas.List.{map-append}
use Rattle.std.specs.Option.{option_map}
use Rattle.dev_card.specs.declared.desc.Kind.{Kind}
use Rattle.dev_card.specs.Card.{Card}
use Rattle.dev_card.specs.Board.{Clock, clocks_of, board_after}
use Rattle.dev_card.specs.Sound.{AllSound, SoundCard, card_in}
use Rattle.dev_card.proofs.ScanLines.{clocks-append, after_none, after_both}
use Rattle.scan_paths.specs.Cables.{Signal, clocks_in, input_of}
use Rattle.scan_paths.proofs.Signals.{clocks_in_both}
use Rattle.chain_sim.specs.Places.{inside_or_unfitted, joined, cards_at}
use Rattle.chain_sim.specs.Runs.{HasRun}

-- told cards are sound
abbrev IsToldSound : Option (List Card) → Type 0
IsToldSound None = Unit {0}
IsToldSound (Some cs) = AllSound cs

joined_sound : (device : Option SoundCard) (rest : Option (List Card)) → IsToldSound rest →
    IsToldSound (joined (card_in device) rest)
joined_sound None rest h = tt
joined_sound (Some s) None h = tt
joined_sound (Some s) (Some cs) h = (s.sound, h)

sound_at : (rack : List (Option SoundCard)) (places : List ℕ) → IsToldSound (cards_at rack places)
sound_at rack [] = tt
sound_at rack (p ∷ ps) = joined_sound (inside_or_unfitted (slice_get rack p)) (cards_at rack ps) (sound_at rack ps)

pub told_sound : (rack : List (Option SoundCard)) (places : List ℕ) (cs : List Card) → cards_at rack places ≡ Some cs →
    AllSound cs
told_sound rack places cs told = subst IsToldSound told (sound_at rack places)

pub run_none : {X : Type 0} (fitted : X → Option SoundCard) (kind_of : X → Kind) (rack : List X) (places : List ℕ) →
    HasRun fitted kind_of rack rack places places []
run_none fitted kind_of rack places = record {
  same_places = refl;
  kinds = refl;
  others = λ k h. refl;
  cards = after_none (cards_at (map fitted rack) places);
  seen = λ cs e. refl;
}

joined_runs : {X : Type 0} (fitted : X → Option SoundCard) (kind_of : X → Kind) (a b c : List X)
    (places mid_places new_places : List ℕ) (xs ys : List Clock) →
    HasRun fitted kind_of a b places mid_places xs → HasRun fitted kind_of b c places new_places ys →
    HasRun fitted kind_of a c places new_places (xs ++ ys)
joined_runs fitted kind_of a b c places mid_places new_places xs ys p q =
    let both : map input_of (xs ++ ys) ≡ map input_of xs ++ map input_of ys = map-append input_of xs ys in
    record {
      same_places = q.same_places;
      kinds = q.kinds ∙ p.kinds;
      others = λ k h. q.others k h ∙ p.others k h;
      cards = q.cards ∙ ap (λ o. option_map (λ cs. board_after cs (map input_of ys)) o) p.cards
          ∙ after_both (cards_at (map fitted a) places) (map input_of xs) (map input_of ys)
          ∙ ap (λ is. option_map (λ cs. board_after cs is) (cards_at (map fitted a) places)) (sym both);
      seen = λ cs e.
          (let mid : cards_at (map fitted b) places ≡ Some (board_after cs (map input_of xs)) =
          p.cards ∙ ap (λ o. option_map (λ ks. board_after ks (map input_of xs)) o) e in
          ap (λ zs. zs ++ ys) (p.seen cs e)
          ∙ ap (λ zs. clocks_of cs (map input_of xs) ++ zs) (q.seen (board_after cs (map input_of xs)) mid)
          ∙ sym (clocks-append (map input_of xs) (map input_of ys) cs) ∙ ap (clocks_of cs) (sym both));
    }

pub run_both : {X : Type 0} (fitted : X → Option SoundCard) (kind_of : X → Kind) (a b c : List X)
    (places mid_places new_places : List ℕ) (xs ys : List Clock) →
    HasRun fitted kind_of a b places mid_places xs → HasRun fitted kind_of b c mid_places new_places ys →
    HasRun fitted kind_of a c places new_places (xs ++ ys)
run_both fitted kind_of a b c places mid_places new_places xs ys p q =
    joined_runs fitted kind_of a b c places mid_places new_places xs ys p
    (subst (λ ps. HasRun fitted kind_of b c ps new_places ys) p.same_places q)

-- the same of signals, of which the clocks alone touch a rack
pub signals_both : {X : Type 0} (fitted : X → Option SoundCard) (kind_of : X → Kind) (a b c : List X)
    (places mid_places new_places : List ℕ) (xs ys : List Signal) →
    HasRun fitted kind_of a b places mid_places (clocks_in xs) →
    HasRun fitted kind_of b c mid_places new_places (clocks_in ys) →
    HasRun fitted kind_of a c places new_places (clocks_in (xs ++ ys))
signals_both fitted kind_of a b c places mid_places new_places xs ys p q =
    rw (clocks_in_both xs ys)
    (run_both fitted kind_of a b c places mid_places new_places (clocks_in xs) (clocks_in ys) p q)
