-- The pieces of a program stand in order: those of DATA blocks are put out, so an open block is a procedure.
use Rattle.std.proofs.Common.{◌≡◌, ℕ, suc, ◌+◌, Bool, true, false, not, ◌&&◌, ◌||◌, List, [], ◌∷◌, length, take, map, slice_get, Option, Some, None, is_some, refl, sym, ap, subst, ◌∙◌, All}
use Rattle.std.proofs.lemmas.Bool.{and_parts, or_parts, not-true, true≢false}
use Rattle.std.proofs.lemmas.List.Elements.{All-head, All-tail, All-weaker}
use Rattle.stapl_syntax.specs.Trees.{BodyTree, note, action, procedure, data_block, end_data, crc, end_procedure, StmtTree}
use Rattle.stapl_syntax.specs.Statements.{is_outer, begins_procedure, ends_procedure}
use Rattle.stapl_syntax.specs.Names.{numbered_from, inside_next, inside_from, declaration}
use Rattle.stapl_syntax.specs.Rules.{Place, is_outside as stands_outside, may_stand_inside, may_stand, in_data_block}
use Rattle.stapl_meaning.specs.Scopes.{plays, pieces_from, program_names, block_at}
use Rattle.stapl_meaning.specs.Typed.{IsOrdered}
use Rattle.stapl_meaning.proofs.Blocks.{same_count, all_pieces, unless, block_of_piece, IsAligned, outside_no_data, inside_no_data, data_at, place_at, stands_well, aligned_at, none_at, IsPieceOf, plays_at, idles, piece_at}
use Rattle.stapl_meaning.proofs.Sound.{IsSound}

-- a statement that is no DATA
abbrev pub IsNoData : BodyTree → Type 0
IsNoData (data_block name) = ⊥
IsNoData _ = Unit {0}

abbrev pub HasNoData : List StmtTree → Type 0
HasNoData statements = All (λ (st : StmtTree). IsNoData st.body) statements

-- each piece plays
pub all_play : (program : List StmtTree) → All (λ (st : StmtTree). plays None st.body ≡ true) (pieces_from None program)
all_play program = all_pieces (λ (st : StmtTree). plays None st.body ≡ true) refl (λ now st e. by now st.body e) None program
  where
    by : (now : Option (List ℕ)) (body : BodyTree) → plays now body ≡ true → plays None body ≡ true
    by None body e = e
    by (Some block) body e = absurd (true≢false (sym e))

pub is_no_data : (body : BodyTree) → plays None body ≡ true → IsNoData body
is_no_data (data_block name) e = absurd (true≢false (sym e))
is_no_data _ e = tt

has_no_data : (program : List StmtTree) → HasNoData (pieces_from None program)
has_no_data program =
    All-weaker (λ (st : StmtTree). plays None st.body ≡ true) (λ (st : StmtTree). IsNoData st.body) (λ st e. is_no_data st.body e) (pieces_from None program) (all_play program)

-- ---- an outer statement stands where no block is open, and any other one where one is

outside_is : (p : Place) (rest : Bool) → (stands_outside p && rest) ≡ true → not p.in_procedure ≡ true
outside_is p rest e =
    let both = and_parts (stands_outside p) rest e in
    let none = or_parts p.in_procedure p.in_data (not-true (p.in_procedure || p.in_data) both.0) in
    ap not none.0

inside_is : (p : Place) (label : Option (List ℕ)) (declares : Bool) → p.in_data ≡ false → may_stand_inside p label declares ≡ true → p.in_procedure ≡ true
inside_is p None true none e = by p.in_procedure none e
  where
    by : (b : Bool) → p.in_data ≡ false → (b || p.in_data) ≡ true → b ≡ true
    by true none e = refl
    by false none e = absurd (true≢false (sym e ∙ none))
inside_is p None false none e = e
inside_is p (Some name) declares none e = e

stands : (p : Place) (label : Option (List ℕ)) (body : BodyTree) → p.in_data ≡ false → may_stand p label body ≡ true → is_outer body ≡ not p.in_procedure
stands p label (note key text) none e = sym (outside_is p (not (p.after_action || p.after_block || p.after_crc)) e)
stands p label (action name text items) none e = sym (outside_is p (not (p.after_block || p.after_crc)) e)
stands p label (procedure name uses) none e = sym (outside_is p (not p.after_crc) e)
stands p label (data_block name) none e = sym (outside_is p (not p.after_crc) e)
stands p label (crc n) none e = sym (outside_is p (not p.after_crc) e)
stands p label end_procedure none e = sym (ap not e)
stands p label end_data none e = absurd (true≢false (sym e ∙ none))
stands p label body none e = sym (ap not (inside_is p label (is_some (declaration body)) none e))

-- a labelled statement stands in a procedure
pub label_in_procedure : (p : Place) (name : List ℕ) (body : BodyTree) → is_outer body ≡ false → may_stand p (Some name) body ≡ true → p.in_procedure ≡ true
label_in_procedure p name (note key text) inner e = absurd (true≢false inner)
label_in_procedure p name (action n text items) inner e = absurd (true≢false inner)
label_in_procedure p name (procedure n uses) inner e = absurd (true≢false inner)
label_in_procedure p name (data_block n) inner e = absurd (true≢false inner)
label_in_procedure p name (crc n) inner e = absurd (true≢false inner)
label_in_procedure p name end_data inner e = absurd (true≢false inner)
label_in_procedure p name end_procedure inner e = e
label_in_procedure p name _ inner e = e

-- an ACTION, a PROCEDURE and a DATA stand outside blocks
abbrev pub BeginsOutside : BodyTree → Type 0
BeginsOutside (action name text items) = Unit {0}
BeginsOutside (procedure name uses) = Unit {0}
BeginsOutside (data_block name) = Unit {0}
BeginsOutside _ = ⊥

outside_none : (p : Place) (label : Option (List ℕ)) (body : BodyTree) → BeginsOutside body → may_stand p label body ≡ true → p.in_data ≡ false
outside_none p label (action name text items) begins e = outside_no_data p (not (p.after_block || p.after_crc)) e
outside_none p label (procedure name uses) begins e = outside_no_data p (not p.after_crc) e
outside_none p label (data_block name) begins e = outside_no_data p (not p.after_crc) e
outside_none p label _ begins e = absurd begins

module _ (program : List StmtTree) (sound : IsSound program) where
  pub none_outside : (i : ℕ) (st : StmtTree) → slice_get program i ≡ Some st → BeginsOutside st.body → data_at program sound i ≡ None
  none_outside i st at begins =
      none_at program sound i st at (outside_none (place_at program sound i) st.label st.body begins (stands_well program sound i st at))

  -- before a labelled statement no DATA block is open
  pub none_labelled : (i : ℕ) (st : StmtTree) (name : List ℕ) → slice_get program i ≡ Some st → st.label ≡ Some name → data_at program sound i ≡ None
  none_labelled i st name at has =
      let may : may_stand (place_at program sound i) (Some name) st.body ≡ true =
      ap (λ o. may_stand (place_at program sound i) o st.body) (sym has) ∙ stands_well program sound i st at in
      none_at program sound i st at
      (inside_no_data (is_some (block_at program i)) (in_data_block (program_names program) (block_at program i))
      (label_in_procedure (place_at program sound i) name st.body (sound.labelled i st name at has) may))

  stands_own : (i : ℕ) (st : StmtTree) → slice_get program i ≡ Some st → data_at program sound i ≡ None → is_outer st.body ≡ not (is_some (block_at program i))
  stands_own i st at open_none =
      let none = subst (λ o. IsAligned (program_names program) o (block_at program i)) open_none (aligned_at program sound i st at) in
      stands (place_at program sound i) st.label st.body none (stands_well program sound i st at)
      ∙ ap not (without (is_some (block_at program i)) (in_data_block (program_names program) (block_at program i)) none)
    where
      without : (a b : Bool) → b ≡ false → (a && not b) ≡ a
      without true b e = ap not e
      without false b e = refl

  pub stands_at : (i : ℕ) (st : StmtTree) → slice_get (pieces_from None program) i ≡ Some st → is_outer st.body ≡ not (is_some (block_at (pieces_from None program) i))
  stands_at i st at = by (piece_at program sound i st at)
    where
      by : IsPieceOf program sound i st → is_outer st.body ≡ not (is_some (block_at (pieces_from None program) i))
      by (plays_at own) = stands_own i st own.at own.none ∙ ap (λ o. not (is_some o)) (sym own.inside)
      by (idles is closed) = ap (λ (s : StmtTree). is_outer s.body) is ∙ ap (λ o. not (is_some o)) (sym closed)

-- ---- so statements stand in order

begins_after : (body : BodyTree) → IsNoData body → is_outer body ≡ true → is_some (inside_next None body) ≡ begins_procedure body
begins_after (data_block name) plain e = absurd plain
begins_after _ plain e = refl

ends_after : (block : List ℕ) (body : BodyTree) → is_outer body ≡ false → is_some (inside_next (Some block) body) ≡ not (ends_procedure body)
ends_after block end_data e = absurd (true≢false e)
ends_after block _ e = refl

from_here : (rest : List StmtTree) (now : Option (List ℕ)) (n : ℕ) → HasNoData rest →
    ((i : ℕ) (st : StmtTree) → slice_get rest i ≡ Some st → is_outer st.body ≡ not (is_some (inside_from now (numbered_from n (take i (map Some rest)))))) →
    is_some (inside_from now (numbered_from n (take (length rest) (map Some rest)))) ≡ false → IsOrdered (is_some now) rest
from_here [] now n plain each end = end
from_here (st ∷ rest) now n plain each end =
    by now (each 0 st refl) (from_here rest (inside_next now st.body) (n + 1) (All-tail (λ (z : StmtTree). IsNoData z.body) st rest plain) (λ i s at. each (suc i) s at) end)
  where
    by : (now : Option (List ℕ)) → is_outer st.body ≡ not (is_some now) → IsOrdered (is_some (inside_next now st.body)) rest → IsOrdered (is_some now) (st ∷ rest)
    by None here more =
        (here, subst (λ b. IsOrdered b rest) (begins_after st.body (All-head (λ (z : StmtTree). IsNoData z.body) st rest plain) here) more)
    by (Some block) here more = (here, subst (λ b. IsOrdered b rest) (ends_after block st.body here) more)

pub ordered : (program : List StmtTree) → IsSound program → IsOrdered false (pieces_from None program)
ordered program sound =
    from_here (pieces_from None program) None 1 (has_no_data program) (stands_at program sound) (ap is_some (block_of_piece program (length (pieces_from None program))) ∙ closed)
  where
    at_end : (now : Option (List ℕ)) (n : ℕ) → n ≡ length program → is_some (unless now (block_at program n)) ≡ false
    at_end None n e = ap (λ k. is_some (block_at program k)) e ∙ sound.closed
    at_end (Some block) n e = refl

    closed : is_some (unless (data_at program sound (length (pieces_from None program))) (block_at program (length (pieces_from None program)))) ≡ false
    closed = at_end (data_at program sound (length (pieces_from None program))) (length (pieces_from None program)) (same_count None program)
