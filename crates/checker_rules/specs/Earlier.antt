-- What earlier pieces declare, by the numbers that the tables of all names hold.
use Rattle.std.specs.Prelude.{ℕ, List, nat_lt, Bool, false, Option, None, Some}
use Rattle.std.specs.Map.{lookup}
use Rattle.std.specs.Str.{bytes_eq}
use Rattle.stapl_syntax.specs.declared.names.Block.{Block}
use Rattle.stapl_syntax.specs.declared.names.Variable.{Variable}
use Rattle.stapl_syntax.specs.declared.names.Key.{Key}
use Rattle.stapl_syntax.specs.Names.{key_in, key_eq, Names}
use Rattle.stapl_syntax.specs.Rules.{Declared}

-- something is declared, by a piece below this number
abbrev pub stands_below : {V : Type 0} → (V → ℕ) → ℕ → Option V → Bool
stands_below number n None = false
stands_below number n (Some v) = nat_lt (number v) n

abbrev pub piece_of_block : Block → ℕ
piece_of_block block = block.piece

abbrev pub piece_of_variable : Variable → ℕ
piece_of_variable variable = variable.piece

abbrev pub own_number : ℕ → ℕ
own_number n = n

-- what the pieces below this number declare
abbrev pub declared_below : Names → ℕ → Declared
declared_below names n = record {
  block = λ name. stands_below piece_of_block n (lookup (bytes_eq name) names.blocks);
  action = λ name. stands_below own_number n (lookup (bytes_eq name) names.actions);
  variable = λ key. stands_below piece_of_variable n (lookup (key_eq key) names.variables);
  label = λ key. stands_below own_number n (lookup (key_eq key) names.labels);
}

-- a name in a block, if one is open, passes a test
abbrev pub passes_in : (Key → Bool) → Option (List ℕ) → List ℕ → Bool
passes_in test None name = false
passes_in test (Some block) name = test (key_in block name)
