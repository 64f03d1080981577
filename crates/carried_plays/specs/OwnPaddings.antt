-- Programs with a padding of their own (JESD71, PREIR, POSTIR, PREDR, POSTDR), and the first piece that sets one.
use Rattle.std.specs.Prelude.{◌≡◌, ℕ, ◌<◌, ◌≤◌, ◌-◌, Bool, true, false, List, slice_get}
use Rattle.std.specs.List.{list_any}
use Rattle.std.specs.Option.{option_map_or}
use Rattle.stapl_syntax.specs.Trees.{BodyTree, if_then, pad, StmtTree}

-- a statement of a padding, also inside IF
abbrev pub sets_padding : BodyTree → Bool
sets_padding (pad which count bits) = true
sets_padding (if_then e body) = sets_padding body
sets_padding _ = false

-- some piece of the program is one
abbrev pub has_own_padding : List StmtTree → Bool
has_own_padding program = list_any (λ (st : StmtTree). sets_padding st.body) program

-- the piece with this index is one
abbrev pub sets_padding_at : List StmtTree → ℕ → Bool
sets_padding_at program i = option_map_or (λ (st : StmtTree). sets_padding st.body) (slice_get program i) false

-- the first piece that is one, by its number, which is counted from 1
pub record IsFirstPadding (program : List StmtTree) (number : ℕ) : Type 0 where
  pub counted : 1 ≤ number
  pub sets : sets_padding_at program (number - 1) ≡ true
  pub least : (i : ℕ) → i < number - 1 → sets_padding_at program i ≡ false
