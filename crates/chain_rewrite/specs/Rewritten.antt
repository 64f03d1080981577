-- What becomes of a program that is to carry its padding.
use Rattle.std.specs.Prelude.{◌≡◌, ℕ, List, false}
use Rattle.dev_card.specs.Padding.{BaseLengths}
use Rattle.stapl_syntax.specs.Trees.{StmtTree}
use Rattle.carried_plays.specs.OwnPaddings.{has_own_padding}
use Rattle.carried_plays.specs.CarriedTexts.{IsCarriedText, IsTooLarge}

-- The text is that of the program with this padding; the program has no padding of its own.
pub record IsRewritten (base : BaseLengths) (program : List StmtTree) (text : List ℕ) : Type 0 where
  pub plain : has_own_padding program ≡ false
  pub small : IsTooLarge base program → ⊥
  pub carried : IsCarriedText base program text

-- With this padding the program would be too large; it has no padding of its own.
pub record BecomesTooLarge (base : BaseLengths) (program : List StmtTree) : Type 0 where
  pub plain : has_own_padding program ≡ false
  pub large : IsTooLarge base program
