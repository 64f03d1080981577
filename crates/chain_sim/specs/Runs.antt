-- What clocks of a chain do to its rack. The rack is this profile's; a clock of the chain is one of its board (IEEE
-- 1149.1, serial connection).
use Rattle.std.specs.Prelude.{◌≡◌, ℕ, List, map, Option, Some, slice_get}
use Rattle.std.specs.Option.{option_map}
use Rattle.dev_card.specs.declared.desc.Kind.{Kind}
use Rattle.dev_card.specs.Card.{Card}
use Rattle.dev_card.specs.Board.{Clock, clocks_of, board_after}
use Rattle.dev_card.specs.Sound.{SoundCard}
use Rattle.scan_paths.specs.Cables.{input_of}
use Rattle.chain_sim.specs.Places.{cards_at, IsAbsent}

-- These clocks lead from one rack to another: they are the clocks of the board at the places, that board is then the
-- one after them, the places and the kind of each device are the same, and the devices at other places stay as they
-- are.
pub record HasRun {X : Type 0} (fitted : X → Option SoundCard) (kind_of : X → Kind) (old new : List X)
    (places new_places : List ℕ) (clocks : List Clock) : Type 0 where
  pub same_places : new_places ≡ places
  pub kinds : map kind_of new ≡ map kind_of old
  pub others : (k : ℕ) → IsAbsent k places → slice_get new k ≡ slice_get old k
  pub cards : cards_at (map fitted new) places
      ≡ option_map (λ cs. board_after cs (map input_of clocks)) (cards_at (map fitted old) places)
  pub seen : (cs : List Card) → cards_at (map fitted old) places ≡ Some cs → clocks ≡ clocks_of cs (map input_of clocks)
