-- What PRINT writes, by its parts. Source: JESD71, PRINT. That a Boolean is printed as a digit is this profile's rule.
use Rattle.std.specs.Prelude.{◌≤◌, ℕ, ℤ, pos, true, false, List, [], ◌∷◌, ◌++◌}
use Rattle.std.specs.Fmt.{signed_decimal}
use Rattle.stapl_syntax.specs.Trees.{ExprTree, PartTree, string, value, character}
use Rattle.stapl_meaning.specs.declared.values.Value.TheVariants.{Int, Bit}
use Rattle.stapl_meaning.specs.declared.events.ExportValue.{ExportValue}
use Rattle.stapl_meaning.specs.declared.events.ExportValue.TheVariants as exports
use Rattle.stapl_meaning.specs.declared.values.Value.{Value}
use Rattle.stapl_meaning.specs.Values.{Lookup}
use Rattle.stapl_meaning.specs.States.{State}
use Rattle.effect_laws.specs.Given.{HasValue, HasInteger}

-- these parts give these bytes: strings as they are, integers in decimal, bits as the digits 0 and 1, and the character
-- of a number as that one byte
pub data Gives (look : Lookup) (s : State) : List PartTree → List ℕ → Type 0 where
  nothing : Gives look s [] []
  text : {bytes : List ℕ} {parts : List PartTree} {rest : List ℕ} → Gives look s parts rest →
      Gives look s (string bytes ∷ parts) (bytes ++ rest)
  number : {e : ExprTree} {z : ℤ} {parts : List PartTree} {rest : List ℕ} → HasValue look s e (Int z) → Gives look s parts rest →
      Gives look s (value e ∷ parts) (signed_decimal z ++ rest)
  one : {e : ExprTree} {parts : List PartTree} {rest : List ℕ} → HasValue look s e (Bit true) → Gives look s parts rest →
      Gives look s (value e ∷ parts) (49 ∷ rest)
  zero_digit : {e : ExprTree} {parts : List PartTree} {rest : List ℕ} → HasValue look s e (Bit false) → Gives look s parts rest →
      Gives look s (value e ∷ parts) (48 ∷ rest)
  byte : {e : ExprTree} {n : ℕ} {parts : List PartTree} {rest : List ℕ} → HasInteger look s e (pos n) → n ≤ 255 →
      Gives look s parts rest → Gives look s (character e ∷ parts) (n ∷ rest)

-- what is exported of a value
pub data IsExported : Value → ExportValue → Type 0 where
  integer : {z : ℤ} → IsExported (Int z) (exports.Int z)
  one_bit : IsExported (Bit true) (exports.Bit true)
  zero_bit : IsExported (Bit false) (exports.Bit false)
