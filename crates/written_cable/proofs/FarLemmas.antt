-- On far ends of cables: the clocks that were made are those of their own TDO bits.
use Rattle.std.proofs.Common.{◌≡◌, Bool, List, [], ◌∷◌, ◌++◌, map, Option, Some, None, refl, sym, ap, ◌∙◌, append_assoc}
use Rattle.std.proofs.lemmas.List.{map-append}
use Rattle.std.specs.Option.{option_map}
use Rattle.dev_card.specs.Card.{Card}
use Rattle.dev_card.specs.Board.{Clock, Input, clock_with, clocks_of, board_after, tdos}
use Rattle.dev_card.specs.FarEnds.{FarEnd, Told, Heard, next_heard, then_heard, heard_clocks, heard_after, far_clocks, far_after, far_end}
use Rattle.dev_card.proofs.ScanLines.{clocks-append}
use Rattle.scan_paths.specs.Cables.{input_of}

pub heard_both : (xs ys : List Clock) (more : List Bool) → tdos (xs ++ ys) ++ more ≡ tdos xs ++ (tdos ys ++ more)
heard_both xs ys more = ap (λ (z : List Bool). z ++ more) (map-append (λ (k : Clock). k.tdo) xs ys) ∙ append_assoc (tdos xs) (tdos ys) more

heard_made : (clocks : List Clock) (more : List Bool) → heard_clocks (tdos clocks ++ more) (map input_of clocks) ≡ clocks
heard_made [] more = refl
heard_made (k ∷ ks) more = ap (λ (z : List Clock). k ∷ z) (heard_made ks more)

heard_left : (clocks : List Clock) (more : List Bool) → heard_after (tdos clocks ++ more) (map input_of clocks) ≡ more
heard_left [] more = refl
heard_left (k ∷ ks) more = heard_left ks more

module _ (old new : Option (List Card)) (clocks : List Clock) (inputs : List Input) (went_in : map input_of clocks ≡ inputs) (more : List Bool) where
  pub far_made : ((cs : List Card) → old ≡ Some cs → clocks ≡ clocks_of cs inputs) → far_clocks (far_end old (tdos clocks ++ more)) inputs ≡ clocks
  far_made seen = by old seen
    where
      by : (o : Option (List Card)) → ((cs : List Card) → o ≡ Some cs → clocks ≡ clocks_of cs inputs) → far_clocks (far_end o (tdos clocks ++ more)) inputs ≡ clocks
      by (Some cs) seen = sym (seen cs refl)
      by None seen = ap (heard_clocks (tdos clocks ++ more)) (sym went_in) ∙ heard_made clocks more

  pub far_left : new ≡ option_map (λ cs. board_after cs inputs) old → far_after (far_end old (tdos clocks ++ more)) inputs ≡ far_end new more
  far_left e = by old ∙ sym (ap (λ (o : Option (List Card)). far_end o more) e)
    where
      by : (o : Option (List Card)) → far_after (far_end o (tdos clocks ++ more)) inputs ≡ far_end (option_map (λ cs. board_after cs inputs) o) more
      by (Some cs) = refl
      by None = ap Heard (ap (heard_after (tdos clocks ++ more)) (sym went_in) ∙ heard_left clocks more)

heard_append : (xs ys : List Input) (bs : List Bool) → heard_clocks bs (xs ++ ys) ≡ heard_clocks bs xs ++ heard_clocks (heard_after bs xs) ys
heard_append [] ys bs = refl
heard_append (x ∷ xs) ys bs = ap (λ (z : List Clock). clock_with x (next_heard bs) ∷ z) (heard_append xs ys (then_heard bs))

pub far_append : (far : FarEnd) (xs ys : List Input) → far_clocks far (xs ++ ys) ≡ far_clocks far xs ++ far_clocks (far_after far xs) ys
far_append (Told cs) xs ys = clocks-append xs ys cs
far_append (Heard bs) xs ys = heard_append xs ys bs
