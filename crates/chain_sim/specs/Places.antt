-- The devices at some places of a rack, as the cards of a board (IEEE 1149.1, serial connection). A rack is a list of
-- devices, each unfitted or with a sound card; a place is the number of a device in it, counted from 0. The rack is
-- this profile's.
use Rattle.std.specs.Prelude.{◌≢◌, ℕ, Bool, true, false, not, ◌&&◌, ◌==◌, is_some, List, [], ◌∷◌, Option, Some, None, slice_get}
use Rattle.std.specs.Option.{option_map}
use Rattle.dev_card.specs.Card.{Card}
use Rattle.dev_card.specs.Sound.{SoundCard, card_in}

-- the device at a place, and unfitted where the place is outside
abbrev pub inside_or_unfitted : Option (Option SoundCard) → Option SoundCard
inside_or_unfitted None = None
inside_or_unfitted (Some device) = device

-- the card at a place, where the place is inside and its device is fitted
abbrev pub card_at : List (Option SoundCard) → ℕ → Option Card
card_at rack p = card_in (inside_or_unfitted (slice_get rack p))

-- one more card in front, where both are there
abbrev pub joined : Option Card → Option (List Card) → Option (List Card)
joined None cs = None
joined (Some c) cs = option_map (λ xs. c ∷ xs) cs

-- the cards at these places, where all are inside and fitted
abbrev pub cards_at : List (Option SoundCard) → List ℕ → Option (List Card)
cards_at rack [] = Some []
cards_at rack (p ∷ ps) = joined (card_at rack p) (cards_at rack ps)

-- a place is none of these
abbrev pub IsAbsent : ℕ → List ℕ → Type 0
IsAbsent p [] = Unit {0}
IsAbsent p (q ∷ qs) = (q ≢ p) × IsAbsent p qs

-- no place stands twice
abbrev pub AreApart : List ℕ → Type 0
AreApart [] = Unit {0}
AreApart (p ∷ ps) = IsAbsent p ps × AreApart ps

-- the same as tests
abbrev pub is_absent : ℕ → List ℕ → Bool
is_absent p [] = true
is_absent p (q ∷ qs) = not (q == p) && is_absent p qs

abbrev pub are_apart : List ℕ → Bool
are_apart [] = true
are_apart (p ∷ ps) = is_absent p ps && are_apart ps

abbrev pub is_some_place : List ℕ → Bool
is_some_place [] = false
is_some_place (p ∷ ps) = true

-- whether the devices at these places make a chain: there is a place, the places differ, and all are inside and fitted
abbrev pub is_chain : List (Option SoundCard) → List ℕ → Bool
is_chain rack places = is_some_place places && (are_apart places && is_some (cards_at rack places))
