-- Which pieces of a program play, and which block is open before them: the blocks of DATA are put out, and all others
-- are as in the program.
use Rattle.std.proofs.Common.{◌≡◌, ℕ, zero, suc, ◌+◌, Bool, true, false, not, ◌&&◌, ◌||◌, if◌then◌else◌, List, [], ◌∷◌, length, take, map, slice_get, Option, Some, None, is_some, refl, sym, ap, subst, ◌∙◌, All, IfSome}
use Rattle.std.specs.Map.{lookup}
use Rattle.std.specs.Str.{bytes_eq}
use Rattle.std.specs.Prelude.{unwrap_or}
use Rattle.std.proofs.lemmas.Bool.{and_parts, or_parts, not-true, not-false, true≢false}
use Rattle.std.proofs.lemmas.List.Elements.{All-nil, All-cons}
use Rattle.std.proofs.lemmas.Option.{same_Some, none-some}
use Rattle.stapl_lexer.specs.declared.reason.Reason.TheVariants as reasons
use Rattle.stapl_syntax.specs.declared.names.Block.{Block}
use Rattle.stapl_syntax.specs.Trees.{BodyTree, procedure, data_block, end_data, end_procedure, StmtTree}
use Rattle.stapl_syntax.specs.Names.{numbered_from, numbered, inside_next, inside_from, block_of_body, Names}
use Rattle.stapl_syntax.specs.Rules.{Place, is_outside, may_stand, is_data_block, in_data_block, place_after}
use Rattle.stapl_meaning.specs.Scopes.{data_after, plays, idle, pieces_from, has_initial_value, Preset, preset_of, presets_from, program_names, block_at}
use Rattle.stapl_meaning.proofs.Declared.{block_here}
use Rattle.stapl_meaning.proofs.Sound.{IsSound}

-- the DATA block that is open after these statements
abbrev pub data_from : Option (List ℕ) → List StmtTree → Option (List ℕ)
data_from now [] = now
data_from now (st ∷ rest) = data_from (data_after now st.body) rest

-- ---- the pieces, place by place

-- the piece stands for a statement of the program
record StandsFor (now : Option (List ℕ)) (rest : List StmtTree) (i : ℕ) (piece : StmtTree) : Type 0 where
  pub statement : StmtTree
  pub at : slice_get rest i ≡ Some statement
  pub is : piece ≡ (if plays (data_from now (take i rest)) statement.body then statement else idle)

stands_for : (now : Option (List ℕ)) (rest : List StmtTree) (i : ℕ) (piece : StmtTree) → slice_get (pieces_from now rest) i ≡ Some piece → StandsFor now rest i piece
stands_for now [] i piece at = absurd (none-some piece at)
stands_for now (st ∷ rest) zero piece at =
    record { statement = st; at = refl; is = sym (same_Some (if plays now st.body then st else idle) piece at) }
stands_for now (st ∷ rest) (suc i) piece at =
    let more = stands_for (data_after now st.body) rest i piece at in
    record { statement = more.statement; at = more.at; is = more.is }

piece_from : (now : Option (List ℕ)) (rest : List StmtTree) (i : ℕ) (st : StmtTree) → slice_get rest i ≡ Some st →
    slice_get (pieces_from now rest) i ≡ Some (if plays (data_from now (take i rest)) st.body then st else idle)
piece_from now [] i st at = absurd (none-some st at)
piece_from now (x ∷ rest) zero st at = ap (λ (s : StmtTree). Some (if plays now s.body then s else idle)) (same_Some x st at)
piece_from now (x ∷ rest) (suc i) st at = piece_from (data_after now x.body) rest i st at

-- there are as many
pub same_count : (now : Option (List ℕ)) (rest : List StmtTree) → length (pieces_from now rest) ≡ length rest
same_count now [] = refl
same_count now (st ∷ rest) = ap suc (same_count (data_after now st.body) rest)

-- no DATA is left, and what holds of each statement and of an idle one holds of each piece
pub all_pieces : (P : StmtTree → Type 0) → P idle → ((now : Option (List ℕ)) (st : StmtTree) → plays now st.body ≡ true → P st) →
    (now : Option (List ℕ)) (rest : List StmtTree) → All P (pieces_from now rest)
all_pieces P none each now [] = All-nil P
all_pieces P none each now (st ∷ rest) =
    All-cons P (if plays now st.body then st else idle) (pieces_from (data_after now st.body) rest) (by (plays now st.body) refl) (all_pieces P none each (data_after now st.body) rest)
  where
    by : (b : Bool) → plays now st.body ≡ b → P (if b then st else idle)
    by true e = each now st e
    by false e = none

-- ---- the block that is open

-- no block where a DATA block is open
abbrev pub unless : Option (List ℕ) → Option (List ℕ) → Option (List ℕ)
unless None inside = inside
unless (Some block) inside = None

after_piece : (now inside : Option (List ℕ)) (b : BodyTree) → inside_next (unless now inside) (if plays now b then b else end_data) ≡ unless (data_after now b) (inside_next inside b)
after_piece None inside (data_block name) = refl
after_piece None inside end_data = refl
after_piece None inside _ = refl
after_piece (Some block) inside end_data = refl
after_piece (Some block) inside _ = refl

pub body_of : (c : Bool) (st : StmtTree) → (if c then st else idle).body ≡ (if c then st.body else end_data)
body_of true st = refl
body_of false st = refl

blocks_from : (now inside : Option (List ℕ)) (n : ℕ) (rest : List StmtTree) (i : ℕ) →
    inside_from (unless now inside) (numbered_from n (take i (map Some (pieces_from now rest))))
    ≡ unless (data_from now (take i rest)) (inside_from inside (numbered_from n (take i (map Some rest))))
blocks_from now inside n rest zero = refl
blocks_from now inside n [] (suc i) = refl
blocks_from now inside n (st ∷ rest) (suc i) =
    ap (λ o. inside_from o (numbered_from (n + 1) (take i (map Some (pieces_from (data_after now st.body) rest)))))
    (ap (inside_next (unless now inside)) (body_of (plays now st.body) st) ∙ after_piece now inside st.body)
    ∙ blocks_from (data_after now st.body) (inside_next inside st.body) (n + 1) rest i

pub block_of_piece : (program : List StmtTree) (i : ℕ) → block_at (pieces_from None program) i ≡ unless (data_from None (take i program)) (block_at program i)
block_of_piece program i = blocks_from None None 1 program i

-- ---- a block is open by the rules exactly if one is by DATA and ENDDATA

-- the DATA block that is open is the open block, and if there is none then no DATA block is open by the rules
abbrev pub IsAligned : Names → Option (List ℕ) → Option (List ℕ) → Type 0
IsAligned names None inside = in_data_block names inside ≡ false
IsAligned names (Some block) inside = (inside ≡ Some block) × (in_data_block names inside ≡ true)

pub none_open : (names : Names) (now inside : Option (List ℕ)) → IsAligned names now inside → in_data_block names inside ≡ false → now ≡ None
none_open names None inside aligned e = refl
none_open names (Some block) inside aligned e = absurd (true≢false (sym aligned.1 ∙ e))

pub outside_no_data : (p : Place) (rest : Bool) → (is_outside p && rest) ≡ true → p.in_data ≡ false
outside_no_data p rest e =
    let both = and_parts (is_outside p) rest e in
    (or_parts p.in_procedure p.in_data (not-true (p.in_procedure || p.in_data) both.0)).1

pub inside_no_data : (some in_data : Bool) → (some && not in_data) ≡ true → in_data ≡ false
inside_no_data some in_data e = not-true in_data (and_parts some (not in_data) e).1

pub aligned_next : (names : Names) (p : Place) (now inside label : Option (List ℕ)) (body : BodyTree) (n : ℕ) →
    p.in_data ≡ in_data_block names inside → p.in_procedure ≡ (is_some inside && not (in_data_block names inside)) → may_stand p label body ≡ true →
    ((e : List ℕ × Block) → block_of_body n body ≡ Some e → lookup (bytes_eq e.0) names.blocks ≡ Some e.1) →
    IsAligned names now inside → IsAligned names (data_after now body) (inside_next inside body)
aligned_next names p now inside label (procedure name uses) n kept own may blocks aligned =
    let none = none_open names now inside aligned (sym kept ∙ outside_no_data p (not p.after_crc) may) in
    subst (λ o. IsAligned names o (Some name)) (sym none)
    (ap is_data_block (blocks (name, record { name = name; piece = n; is_data = false; uses = unwrap_or uses [] }) refl))
aligned_next names p now inside label (data_block name) n kept own may blocks aligned =
    (refl, ap is_data_block (blocks (name, record { name = name; piece = n; is_data = true; uses = [] }) refl))
aligned_next names p now inside label end_procedure n kept own may blocks aligned =
    let none = none_open names now inside aligned (inside_no_data (is_some inside) (in_data_block names inside) (sym own ∙ may)) in
    subst (λ o. IsAligned names o None) (sym none) refl
aligned_next names p now inside label end_data n kept own may blocks aligned = refl
aligned_next names p now inside label body n kept own may blocks aligned = aligned

-- one statement more
pub inside_step : (now : Option (List ℕ)) (n : ℕ) (rest : List StmtTree) (i : ℕ) (st : StmtTree) → slice_get rest i ≡ Some st →
    inside_from now (numbered_from n (take (suc i) (map Some rest))) ≡ inside_next (inside_from now (numbered_from n (take i (map Some rest)))) st.body
inside_step now n [] i st at = absurd (none-some st at)
inside_step now n (x ∷ rest) zero st at = ap (λ (s : StmtTree). inside_next now s.body) (same_Some x st at)
inside_step now n (x ∷ rest) (suc i) st at = inside_step (inside_next now x.body) (n + 1) rest i st at

data_step : (now : Option (List ℕ)) (rest : List StmtTree) (i : ℕ) (st : StmtTree) → slice_get rest i ≡ Some st →
    data_from now (take (suc i) rest) ≡ data_after (data_from now (take i rest)) st.body
data_step now [] i st at = absurd (none-some st at)
data_step now (x ∷ rest) zero st at = ap (λ (s : StmtTree). data_after now s.body) (same_Some x st at)
data_step now (x ∷ rest) (suc i) st at = data_step (data_after now x.body) rest i st at

one_before : (rest : List StmtTree) (i : ℕ) (st : StmtTree) → slice_get rest (suc i) ≡ Some st → (s : StmtTree) × (slice_get rest i ≡ Some s)
one_before [] i st at = absurd (none-some st at)
one_before (x ∷ rest) zero st at = (x, refl)
one_before (x ∷ rest) (suc i) st at = one_before rest i st at

module _ (program : List StmtTree) (sound : IsSound program) where
  -- the DATA block that is open before a place
  abbrev pub data_at : ℕ → Option (List ℕ)
  data_at i = data_from None (take i program)

  -- what stood before a place
  abbrev pub place_at : ℕ → Place
  place_at i = place_after (program_names program) (numbered (take i (map Some program)))

  pub stands_well : (i : ℕ) (st : StmtTree) → slice_get program i ≡ Some st → may_stand (place_at i) st.label st.body ≡ true
  stands_well i st at = not-false (may_stand (place_at i) st.label st.body) (sound.keeps i st reasons.Order at)

  pub aligned_at : (i : ℕ) (st : StmtTree) → slice_get program i ≡ Some st → IsAligned (program_names program) (data_at i) (block_at program i)
  aligned_at zero st at = refl
  aligned_at (suc i) st at =
      let before = one_before program i st at in
      let next = aligned_next (program_names program) (place_at i) (data_at i) (block_at program i) before.0.label before.0.body (1 + i) refl refl
      (stands_well i before.0 before.1) (block_here program sound i before.0 before.1) (aligned_at i before.0 before.1) in
      subst (λ o. IsAligned (program_names program) o (block_at program (suc i))) (sym (data_step None program i before.0 before.1))
      (subst (IsAligned (program_names program) (data_after (data_at i) before.0.body)) (sym (inside_step None 1 program i before.0 before.1)) next)

  -- if no DATA block is open by the rules, none is open
  pub none_at : (i : ℕ) (st : StmtTree) → slice_get program i ≡ Some st → in_data_block (program_names program) (block_at program i) ≡ false → data_at i ≡ None
  none_at i st at e = none_open (program_names program) (data_at i) (block_at program i) (aligned_at i st at) e

  -- the piece at a place that plays is the statement there, and the same block is open before it
  pub record IsOwn (i : ℕ) (piece : StmtTree) : Type 0 where
    pub at : slice_get program i ≡ Some piece
    pub none : data_at i ≡ None
    pub inside : block_at (pieces_from None program) i ≡ block_at program i

  plays_none : (now : Option (List ℕ)) (b : BodyTree) → plays now b ≡ true → now ≡ None
  plays_none None b e = refl
  plays_none (Some block) b e = absurd (true≢false (sym e))

  pub own_inside : (i : ℕ) → data_at i ≡ None → block_at (pieces_from None program) i ≡ block_at program i
  own_inside i none = block_of_piece program i ∙ ap (λ o. unless o (block_at program i)) none

  -- A piece is the statement there, or it is idle, and then no block is open before it.
  pub data IsPieceOf (i : ℕ) (piece : StmtTree) : Type 0 where
    plays_at : IsOwn i piece → IsPieceOf i piece
    idles : piece ≡ idle → block_at (pieces_from None program) i ≡ None → IsPieceOf i piece

  -- where a DATA stands no block is open
  data_outside : (now inside : Option (List ℕ)) (p : Place) (label : Option (List ℕ)) (body : BodyTree) → p.in_data ≡ in_data_block (program_names program) inside →
      p.in_procedure ≡ (is_some inside && not (in_data_block (program_names program) inside)) → may_stand p label body ≡ true → plays now body ≡ false → unless now inside ≡ None
  data_outside (Some block) inside p label body kept own may put_out = refl
  data_outside None None p label body kept own may put_out = refl
  data_outside None (Some block) p label (data_block name) kept own may put_out =
      let outside = and_parts (is_outside p) (not p.after_crc) may in
      let both = or_parts p.in_procedure p.in_data (not-true (p.in_procedure || p.in_data) outside.0) in
      absurd (true≢false (sym (ap not (sym kept ∙ both.1)) ∙ sym own ∙ both.0))
  data_outside None (Some block) p label _ kept own may put_out = absurd (true≢false put_out)

  pub piece_at : (i : ℕ) (piece : StmtTree) → slice_get (pieces_from None program) i ≡ Some piece → IsPieceOf i piece
  piece_at i piece at = by (stands_for None program i piece at)
    where
      by : StandsFor None program i piece → IsPieceOf i piece
      by s = of (plays (data_at i) s.statement.body) refl s.is
        where
          of : (b : Bool) → plays (data_at i) s.statement.body ≡ b → piece ≡ (if b then s.statement else idle) → IsPieceOf i piece
          of true e is =
              let none = plays_none (data_at i) s.statement.body e in
              plays_at (record { at = s.at ∙ ap Some (sym is); none = none; inside = own_inside i none })
          of false e is =
              idles is
              (block_of_piece program i
              ∙ data_outside (data_at i) (block_at program i) (place_at i) s.statement.label s.statement.body refl refl (stands_well i s.statement s.at) e)

  -- a statement that is no DATA is a piece if no DATA block is open before it
  pub own_piece : (i : ℕ) (st : StmtTree) → slice_get program i ≡ Some st → data_at i ≡ None → plays None st.body ≡ true → slice_get (pieces_from None program) i ≡ Some st
  own_piece i st at none own =
      piece_from None program i st at ∙ ap (λ o. Some (if plays o st.body then st else idle)) none ∙ ap (λ b. Some (if b then st else idle)) own

-- ---- initial values of DATA blocks

-- What holds of that of each statement, by its place, holds of all of them.
pub all_presets : (P : Preset → Type 0) (rest : List StmtTree) (now : Option (List ℕ)) →
    ((i : ℕ) (st : StmtTree) (preset : Preset) → slice_get rest i ≡ Some st → preset_of (data_from now (take i rest)) st.body ≡ Some preset → P preset) →
    All (λ o. IfSome o P) (presets_from now rest)
all_presets P [] now each = All-nil (λ (o : Option Preset). IfSome o P)
all_presets P (st ∷ rest) now each =
    All-cons (λ (o : Option Preset). IfSome o P) (preset_of now st.body) (presets_from (data_after now st.body) rest) (own (preset_of now st.body) refl)
    (all_presets P rest (data_after now st.body) (λ i s preset at is. each (suc i) s preset at is))
  where
    own : (o : Option Preset) → preset_of now st.body ≡ o → IfSome o P
    own None e = tt
    own (Some preset) e = each 0 st preset refl e

-- It stands in the block that is open, and has an initial value.
pub record IsPresetIn (now : Option (List ℕ)) (body : BodyTree) (preset : Preset) : Type 0 where
  pub inside : now ≡ Some preset.block
  pub starts : has_initial_value preset.body ≡ true
  pub is : preset.body ≡ body

pub preset_in : (now : Option (List ℕ)) (body : BodyTree) (preset : Preset) → preset_of now body ≡ Some preset → IsPresetIn now body preset
preset_in None body preset is = absurd (none-some preset is)
preset_in (Some block) body preset is = by (has_initial_value body) refl is
  where
    by : (b : Bool) → has_initial_value body ≡ b → (if b then Some (record { block = block; body = body }) else None) ≡ Some preset → IsPresetIn (Some block) body preset
    by true e is =
        let same : record { block = block; body = body } ≡ preset = same_Some (record { block = block; body = body }) preset is in
        subst (IsPresetIn (Some block) body) same (record { inside = refl; starts = e; is = refl })
    by false e is = absurd (none-some preset is)
