-- The name of the new procedure: CHAIN_PAD_ and the least number from 0 such that no block has it. The form is this
-- profile's.
use Rattle.std.specs.Prelude.{◌≡◌, ℕ, ◌<◌, Bool, true, false, List, ◌++◌, codes}
use Rattle.std.specs.Fmt.{decimal}
use Rattle.std.specs.List.{list_any}
use Rattle.std.specs.Str.{bytes_eq}
use Rattle.stapl_syntax.specs.Trees.{BodyTree, procedure, data_block, StmtTree}

-- the name with this number
abbrev pub pad_name : ℕ → List ℕ
pad_name n = codes "CHAIN_PAD_" ++ decimal n

-- the statement begins a block of this name: a procedure, or a block of data
abbrev pub begins_block : List ℕ → BodyTree → Bool
begins_block name (procedure own uses) = bytes_eq name own
begins_block name (data_block own) = bytes_eq name own
begins_block name _ = false

-- a block of the program has this name
abbrev pub has_block : List StmtTree → List ℕ → Bool
has_block program name = list_any (λ (st : StmtTree). begins_block name st.body) program

-- no block of the program has this name
abbrev pub IsFree : List ℕ → List StmtTree → Type 0
IsFree name program = has_block program name ≡ false

-- the least number whose name no block has
pub record IsPadNumber (program : List StmtTree) (n : ℕ) : Type 0 where
  pub free : has_block program (pad_name n) ≡ false
  pub least : (m : ℕ) → m < n → has_block program (pad_name m) ≡ true
