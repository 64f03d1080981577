-- The numbers of procedures, from the blocks of a program.
use Rattle.std.specs.Prelude.{◌≡◌, ◌≢◌, ℕ, suc, List, [], ◌∷◌, AllPairs, if◌then◌else◌}
use Rattle.std.specs.Map.{keys_of}
use Rattle.stapl_syntax.specs.declared.names.Block.{Block}
use Rattle.stapl_meaning.specs.Scopes.{Played}
use Rattle.stapl_meaning.specs.Typed.{procedure_names, plain_blocks}
use Rattle.stapl_codegen.specs.declared.definitions.Numbers.{Numbers}

-- the number of the next procedure at each block, and after them, if it is this one at the first
abbrev pub numbers_from : ℕ → List (List ℕ × Block) → List ℕ
numbers_from n [] = n ∷ []
numbers_from n (e ∷ es) = n ∷ numbers_from (if e.1.is_data then n else suc n) es

-- These are the numbers of the procedures of a program, whose blocks have different names, and whose procedures are
-- those that are no DATA blocks.
pub record AreNumbers (program : Played) (numbers : Numbers) : Type 0 where
  pub next : numbers.next.items ≡ numbers_from 0 numbers.names.now.blocks
  pub apart : AllPairs (λ a b. a ≢ b) (keys_of numbers.names.now.blocks)
  pub procedures : plain_blocks numbers.names.now.blocks ≡ procedure_names program.pieces
