-- Fitted devices are in reset.
use Rattle.std.proofs.Common.{◌≡◌, ℕ, List, [], ◌∷◌, map, Option, Some, sym, ap, ◌∙◌, subst, refl}
use Rattle.tap_states.specs.declared.Tap.TheVariants.{Reset}
use Rattle.dev_card.specs.declared.desc.Desc.{Desc}
use Rattle.dev_card.specs.Card.{Card, fresh}
use Rattle.dev_card.specs.Board.{AllIn}
use Rattle.dev_card.specs.Sound.{SoundCard}
use Rattle.chain_sim.specs.Places.{cards_at}
use Rattle.std.proofs.lemmas.Option.{same_Some}

all_fresh : (ds : List Desc) → AllIn Reset (map fresh ds)
all_fresh [] = tt
all_fresh (d ∷ ds) = (refl, all_fresh ds)

pub fresh_at : (rack : List (Option SoundCard)) (ps qs : List ℕ) (ds : List Desc) → ps ≡ qs → cards_at rack qs ≡ Some (map fresh ds) → (cs : List Card) → cards_at rack ps ≡ Some cs → AllIn Reset cs
fresh_at rack ps qs ds e f cs t =
    subst (λ x. AllIn Reset x) (same_Some _ _ (sym (ap (cards_at rack) e ∙ f) ∙ t)) (all_fresh ds)
