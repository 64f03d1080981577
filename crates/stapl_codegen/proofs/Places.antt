-- The pieces of a program along its statements.
use Rattle.std.proofs.Common.{◌≡◌, ℕ, suc, ◌+◌, List, [], ◌∷◌, length, drop, None, Option, refl, sym, ap, ◌∙◌, add-one, if◌then◌else◌}
use Rattle.stapl_syntax.specs.Trees.{StmtTree}
use Rattle.stapl_meaning.specs.Scopes.{data_after, plays, idle, pieces_from, preset_of, presets_from}
use Rattle.stapl_code.proofs.Heads.{drop_tail}

-- this DATA block is open before a place: the pieces and the initial values from there on are those of the statements
pub record IsOpenAt (sts : List StmtTree) (i : ℕ) (block : Option (List ℕ)) : Type 0 where
  pub same : drop i (pieces_from None sts) ≡ pieces_from block (drop i sts)
  pub presets : drop i (presets_from None sts) ≡ presets_from block (drop i sts)

pub at_start : (sts : List StmtTree) → IsOpenAt sts 0 None
at_start sts = record { same = refl; presets = refl }

module _ (sts : List StmtTree) (i : ℕ) (block : Option (List ℕ)) (st : StmtTree) (rest : List StmtTree) (is : drop i sts ≡ st ∷ rest) (at : IsOpenAt sts i block) where
  -- the piece at the place, and those after it
  abbrev pub piece : StmtTree
  piece = if plays block st.body then st else idle

  pub here : drop i (pieces_from None sts) ≡ piece ∷ pieces_from (data_after block st.body) rest
  here = at.same ∙ ap (pieces_from block) is

  pub after : drop (i + 1) (pieces_from None sts) ≡ pieces_from (data_after block st.body) rest
  after = rw add-one (drop_tail i (pieces_from None sts) ∙ ap (drop 1) here)

  pub piece_first : drop i (pieces_from None sts) ≡ piece ∷ drop (i + 1) (pieces_from None sts)
  piece_first = here ∙ ap (λ l. piece ∷ l) (sym after)

  -- the same of the initial value at the place
  preset_here : drop i (presets_from None sts) ≡ preset_of block st.body ∷ presets_from (data_after block st.body) rest
  preset_here = at.presets ∙ ap (presets_from block) is

  preset_after : drop (i + 1) (presets_from None sts) ≡ presets_from (data_after block st.body) rest
  preset_after = rw add-one (drop_tail i (presets_from None sts) ∙ ap (drop 1) preset_here)

  pub preset_first : drop i (presets_from None sts) ≡ preset_of block st.body ∷ drop (i + 1) (presets_from None sts)
  preset_first = preset_here ∙ ap (λ l. preset_of block st.body ∷ l) (sym preset_after)

  pub next : rest ≡ drop (i + 1) sts → IsOpenAt sts (i + 1) (data_after block st.body)
  next same = record {
    same = after ∙ ap (pieces_from (data_after block st.body)) same;
    presets = preset_after ∙ ap (presets_from (data_after block st.body)) same;
  }

-- each piece may have an initial value
pub presets_count : (block : Option (List ℕ)) (sts : List StmtTree) → length (presets_from block sts) ≡ length sts
presets_count block [] = refl
presets_count block (st ∷ rest) = ap suc (presets_count (data_after block st.body) rest)
