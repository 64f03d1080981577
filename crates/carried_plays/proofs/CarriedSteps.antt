-- Each turn of a typed program without paddings is the same in the program that carries its padding.
use Rattle.std.proofs.Common.{◌≡◌, ◌⊎◌, ℕ, zero, suc, ◌+◌, ◌<◌, Bool, true, false, List, [], ◌∷◌, ◌++◌, length, map, Option, Some, None, slice_get, refl, sym, ap, subst, ◌∙◌}
use mathlib.Core.Logic.{inl, inr}
use Rattle.std.proofs.lemmas.Bool.{false≢true, true≢false}
use Rattle.std.proofs.lemmas.Option.{same_Some, none-some}
use Rattle.std.specs.List.{AllByRecursion}
use Rattle.stapl_syntax.specs.Trees.{BodyTree, note, action, procedure, data_block, end_data, crc, boolean, boolean_array, integer, integer_array, call, goto, if_then, pad, StmtTree}
use Rattle.stapl_syntax.specs.Statements.{is_outer}
use Rattle.stapl_syntax.specs.Mentions.{labels_named}
use Rattle.dev_card.specs.Padding.{BaseLengths}
use Rattle.stapl_meaning.specs.Values.{Lookup}
use Rattle.stapl_meaning.specs.States.{State, NoTurn, turn_of_piece}
use Rattle.stapl_meaning.specs.Scopes.{Scope, Played, lookup_from, label_from, scope_at, block_at, procedures_in, procedure_number, entry_from}
use Rattle.stapl_meaning.specs.Turns.{rows, rows_done, turn, turn_of}
use Rattle.stapl_meaning.specs.Typed.{IsInBlock, IsTypedAt, IsProcedure, NamesProcedures, IsTyped}
use Rattle.stapl_meaning.proofs.Entries.{all_at}
use Rattle.carried_plays.specs.CarriedPrograms.{padding_procedure, with_item}
use Rattle.carried_plays.specs.OwnPaddings.{sets_padding}
use Rattle.carried_plays.specs.CarriedRuns.{padded_state}
use Rattle.carried_plays.proofs.CarriedTurns.{Fits, SameEntries, SameTurned, SameRows, rows_same, piece_same}
use Rattle.carried_plays.proofs.GivenValues.{given}
use Rattle.carried_plays.proofs.CarriedRuns.{SameTurns}
use Rattle.carried_plays.proofs.CarriedPieces.{EachBody, NotNamed, IsApart, IsOther, piece_kept, block_kept, other_block, entries_kept, number_kept, label_kept}

-- A program as it plays, and the one that carries its padding in the procedure of this name: the pieces before the CRC,
-- and the rest; and all that names stand for outside the new block.
pub record IsCarried (name : List ℕ) (base : BaseLengths) (old new : Played) : Type 0 where
  pub front : List StmtTree
  pub tail : List StmtTree
  pub old_is : old.pieces ≡ front ++ tail
  pub end : List StmtTree
  pub new_is : new.pieces ≡ map (with_item name) front ++ (padding_procedure name base ++ end)
  pub apart : EachBody IsApart tail
  pub end_apart : EachBody IsApart end
  pub fresh : EachBody (NotNamed name) (front ++ tail)
  pub looks : (inside : Option (List ℕ)) → IsOther name inside → lookup_from new.names inside ≡ lookup_from old.names inside
  pub labels : new.names.labels ≡ old.names.labels
  pub variables : new.names.variables ≡ old.names.variables
  pub presets : given new.presets ≡ given old.presets

-- a statement outside procedures finds nothing to do
outer_stuck : (scope : Scope) (b : BodyTree) (s : State) → is_outer b ≡ true → rows_done scope (rows b) s ≡ NoTurn []
outer_stuck scope (note key text) s e = refl
outer_stuck scope (action own text items) s e = refl
outer_stuck scope (procedure own uses) s e = refl
outer_stuck scope (data_block own) s e = refl
outer_stuck scope end_data s e = refl
outer_stuck scope (crc n) s e = refl
outer_stuck scope _ s e = absurd (false≢true e)

module _ (name : List ℕ) (base : BaseLengths) (old new : Played) (h : IsCarried name base old new) (typed : IsTyped old)
    (bare : EachBody (λ b. sets_padding b ≡ false) old.pieces) where
  abbrev pub count : ℕ
  count = procedures_in old.pieces

  -- ---- what is found

  pub same_entries : SameEntries base count (entry_from old.pieces) (entry_from new.pieces)
  same_entries p lt =
      let lt1 : p < procedures_in (h.front ++ h.tail) = subst (λ (ps : List StmtTree). p < procedures_in ps) h.old_is lt in
      ap (λ (ps : List StmtTree). entry_from ps p) h.new_is
      ∙ entries_kept name h.front h.tail (padding_procedure name base ++ h.end) p h.apart lt1
      ∙ ap (λ (ps : List StmtTree). entry_from ps p) (sym h.old_is)

  pub same_number : (sought : List ℕ) → IsProcedure old sought → procedure_number new.pieces sought ≡ procedure_number old.pieces sought
  same_number sought lt =
      let lt1 : procedure_number (h.front ++ h.tail) sought < procedures_in (h.front ++ h.tail) =
      subst (λ (ps : List StmtTree). procedure_number ps sought < procedures_in ps) h.old_is lt in
      ap (λ (ps : List StmtTree). procedure_number ps sought) h.new_is
      ∙ number_kept name h.front h.tail (padding_procedure name base ++ h.end) sought h.apart lt1
      ∙ ap (λ (ps : List StmtTree). procedure_number ps sought) (sym h.old_is)

  module _ (i : ℕ) (st : StmtTree) (at : slice_get old.pieces i ≡ Some st) (inner : is_outer st.body ≡ false) where
    at_front : slice_get (h.front ++ h.tail) i ≡ Some st
    at_front = subst (λ (ps : List StmtTree). slice_get ps i ≡ Some st) h.old_is at

    pub same_piece : slice_get new.pieces i ≡ Some st
    same_piece = ap (λ (ps : List StmtTree). slice_get ps i) h.new_is ∙ piece_kept name h.front h.tail (padding_procedure name base ++ h.end) i st h.apart at_front inner

    pub same_block : block_at new.pieces i ≡ block_at old.pieces i
    same_block =
        ap (λ (ps : List StmtTree). block_at ps i) h.new_is
        ∙ block_kept name h.front h.tail (padding_procedure name base ++ h.end) i st h.apart at_front inner
        ∙ ap (λ (ps : List StmtTree). block_at ps i) (sym h.old_is)

    same_look : lookup_from new.names (block_at new.pieces i) ≡ lookup_from old.names (block_at old.pieces i)
    same_look =
        let other : IsOther name (block_at old.pieces i) =
        subst (λ (ps : List StmtTree). IsOther name (block_at ps i)) (sym h.old_is) (other_block name (h.front ++ h.tail) i h.fresh) in
        ap (lookup_from new.names) same_block ∙ h.looks (block_at old.pieces i) other

    -- ---- the rows

    abbrev look : Lookup
    look = lookup_from old.names (block_at old.pieces i)

    abbrev old_label : List ℕ → ℕ
    old_label sought = label_from old.names (length old.pieces) (block_at old.pieces i) sought

    abbrev new_label : List ℕ → ℕ
    new_label sought = label_from new.names (length new.pieces) (block_at new.pieces i) sought

    abbrev Rows : List BodyTree → Type 0
    Rows bs = SameRows base count (scope_at old i) (scope_at new i) same_entries bs

    same_label : (block sought : List ℕ) → block_at old.pieces i ≡ Some block → old_label sought < length old.pieces → new_label sought ≡ old_label sought
    same_label block sought inside lt =
        let lt1 : label_from old.names (length old.pieces) (Some block) sought < length old.pieces =
        subst (λ o. label_from old.names (length old.pieces) o sought < length old.pieces) inside lt in
        ap (λ o. label_from new.names (length new.pieces) o sought) (same_block ∙ inside)
        ∙ label_kept old.names new.names (length old.pieces) (length new.pieces) block sought h.labels lt1
        ∙ ap (λ o. label_from old.names (length old.pieces) o sought) (sym inside)

    same_rows : (block : List ℕ) → block_at old.pieces i ≡ Some block → (b : BodyTree) → sets_padding b ≡ false
        → AllByRecursion (λ sought. IsInBlock old block (old_label sought)) (labels_named b) → NamesProcedures old b → Rows (rows b)
    same_rows block inside (pad which size bits) np ls ps = absurd (true≢false np)
    same_rows block inside (boolean sought None) np ls ps = tt
    same_rows block inside (boolean_array sought size None) np ls ps = tt
    same_rows block inside (integer sought None) np ls ps = tt
    same_rows block inside (integer_array sought size None) np ls ps = tt
    same_rows block inside (goto sought) np ls ps = (refl, ap Some (same_label block sought inside ls.0.within), tt)
    same_rows block inside (call sought) np ls ps =
        (refl, ap (λ p. Some (entry_from new.pieces p)) (same_number sought ps) ∙ ap Some (same_entries (procedure_number old.pieces sought) ps), tt)
    same_rows block inside (if_then e body) np ls ps = (np, refl, same_rows block inside body np ls ps)
    same_rows block inside _ np ls ps = (np, refl, tt)

    -- ---- the turn

    pub same_step : (s : State) → Fits base count s → SameTurned base count (turn old i s) (turn new i (padded_state base s))
    same_step s fits =
        let t : IsTypedAt old i st.body = typed.statements i st at inner in
        let ps : NamesProcedures old st.body = all_at (λ (st : StmtTree). NamesProcedures old st.body) old.pieces i st typed.items at in
        let np : sets_padding st.body ≡ false = bare_at old.pieces i bare at in
        let padded : State = padded_state base s in
        let here : Scope = scope_at old i in
        let there : Lookup → Scope = λ look. record (scope_at new i) { look = look } in
        let r : SameTurned base count (rows_done here (rows st.body) s) (rows_done (there look) (rows st.body) padded) =
        rows_same base count here (scope_at new i) same_entries (rows st.body) (same_rows t.block t.inside st.body np t.leads ps) s fits in
        let q : SameTurned base count (turn_of here (i + 1) s (Some st)) (turn_of (there look) (i + 1) padded (Some st)) =
        piece_same base count (i + 1) (rows_done here (rows st.body) s) (rows_done (there look) (rows st.body) padded) r in
        subst (λ o. SameTurned base count (turn_of (scope_at old i) (i + 1) s o) (turn new i padded)) (sym at)
        (subst (λ o. SameTurned base count (turn_of (scope_at old i) (i + 1) s (Some st)) (turn_of (scope_at new i) (i + 1) padded o)) (sym same_piece)
        (subst (λ look. SameTurned base count (turn_of here (i + 1) s (Some st)) (turn_of (there look) (i + 1) padded (Some st))) (sym same_look) q))
      where
        bare_at : (xs : List StmtTree) (i : ℕ) → EachBody (λ b. sets_padding b ≡ false) xs → slice_get xs i ≡ Some st → sets_padding st.body ≡ false
        bare_at [] i h e = absurd (none-some st e)
        bare_at (x ∷ xs) zero h e = ap (λ (s : StmtTree). sets_padding s.body) (sym (same_Some x st e)) ∙ h.0
        bare_at (x ∷ xs) (suc i) h e = bare_at xs i h.1 e

  pub same_turns : SameTurns base count old new
  same_turns i s fits = by (slice_get old.pieces i) refl
    where
      at_piece : (st : StmtTree) (b : Bool) → is_outer st.body ≡ b → slice_get old.pieces i ≡ Some st
          → (turn old i s ≡ NoTurn []) ⊎ SameTurned base count (turn old i s) (turn new i (padded_state base s))
      at_piece st true e at =
          inl (ap (turn_of (scope_at old i) (i + 1) s) at ∙ ap (turn_of_piece (i + 1)) (outer_stuck (scope_at old i) st.body s e))
      at_piece st false e at = inr (same_step i st at e s fits)

      by : (o : Option StmtTree) → slice_get old.pieces i ≡ o → (turn old i s ≡ NoTurn []) ⊎ SameTurned base count (turn old i s) (turn new i (padded_state base s))
      by None e = inl (ap (turn_of (scope_at old i) (i + 1) s) e)
      by (Some st) e = at_piece st (is_outer st.body) refl e
