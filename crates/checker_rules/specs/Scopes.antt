-- What is known of names where a block is open.
use Rattle.std.specs.Prelude.{◌<◌, ℕ, List, Option, Some, None, length}
use Rattle.std.specs.Map.{lookup}
use Rattle.stapl_syntax.specs.declared.names.Variable.{Variable}
use Rattle.stapl_syntax.specs.Names.{Names, key_in, key_eq}
use Rattle.stapl_syntax.specs.Rules.{Known, known_from}
use Rattle.stapl_names.specs.Tables.{block_name}

-- the name of the block with this number, or none outside blocks
abbrev pub named : Names → Option ℕ → Option (List ℕ)
named names None = None
named names (Some number) = block_name names number

-- the number, if there is one, is that of a block
abbrev pub IsInside : Names → Option ℕ → Type 0
IsInside names None = Unit {0}
IsInside names (Some number) = number < length names.blocks

-- the names of a program, and the name of the open block
pub record Seen : Type 0 where
  pub names : Names
  pub inside : Option (List ℕ)

-- what is known of names there
unfoldable pub known_of : Seen → Known
known_of seen = known_from seen.names seen.inside

-- the variable of this name in the block that is open, if one is
abbrev pub variable_in_block : Names → Option (List ℕ) → List ℕ → Option Variable
variable_in_block names None name = None
variable_in_block names (Some block) name = lookup (key_eq (key_in block name)) names.variables
