-- The cards that a rack tells.
use Rattle.std.specs.Prelude.{List, [], Option, None, Some}
use Rattle.dev_card.specs.Card.{Card}

abbrev pub cards_there : Option (List Card) → List Card
cards_there None = []
cards_there (Some cs) = cs
