-- No reason holds against a piece of a program, nor against its end: so no piece breaks a rule.
use Rattle.std.proofs.Common.{◌≡◌, ℕ, zero, suc, ◌<◌, ◌≤◌, Bool, true, false, List, [], ◌∷◌, length, take, map, slice_get, Option, Some, None, is_some, refl, sym, subst, arith}
use Rattle.std.proofs.lemmas.Option.{same_Some, none-some, slice_get_past, slice_get_within}
use Rattle.stapl_lexer.specs.declared.piece.Piece.{Piece}
use Rattle.stapl_lexer.specs.declared.reason.Reason.{Reason}
use Rattle.stapl_lexer.specs.declared.reason.Reason.TheVariants as reasons
use Rattle.stapl_syntax.specs.Trees.{StmtTree}
use Rattle.stapl_syntax.specs.Statements.{is_outer, IsLabelled, IsPieceStatement}
use Rattle.stapl_syntax.specs.Symbols.{symbols_of}
use Rattle.stapl_syntax.specs.Names.{numbered, inside_after}
use Rattle.stapl_syntax.specs.Rules.{is_action, any_body, breaks}
use Rattle.stapl_syntax.specs.Programs.{piece_limit, AreReadAs, facts_at, HasReasonAt, breaks_rule, not_closed, nothing_to_do, IsProgram}
use Rattle.stapl_shapes.proofs.Counts.{same_length, few_pieces}

-- What follows of each piece, and of the end.
pub record IsSound (program : List StmtTree) : Type 0 where
  pub few : length program ≤ piece_limit
  pub keeps : (i : ℕ) (st : StmtTree) (reason : Reason) → slice_get program i ≡ Some st → breaks (facts_at (map Some program) i) st reason ≡ false
  pub labelled : (i : ℕ) (st : StmtTree) (name : List ℕ) → slice_get program i ≡ Some st → st.label ≡ Some name → is_outer st.body ≡ false
  pub closed : is_some (inside_after (numbered (take (length program) (map Some program)))) ≡ false
  pub acts : any_body is_action (numbered (take (length program) (map Some program))) ≡ true

piece_of : (text : List ℕ) (pieces : List Piece) (statements : List StmtTree) (i : ℕ) (st : StmtTree) → AreReadAs text pieces (map Some statements) →
    slice_get statements i ≡ Some st → (piece : Piece) × (slice_get pieces i ≡ Some piece) × IsPieceStatement text piece st
piece_of text [] [] i st read at = absurd (none-some st at)
piece_of text [] (s ∷ sts) i st read at = absurd read
piece_of text (p ∷ ps) [] i st read at = absurd read
piece_of text (p ∷ ps) (s ∷ sts) zero st read at = (p, refl, subst (IsPieceStatement text p) (same_Some s st at) read.0)
piece_of text (p ∷ ps) (s ∷ sts) (suc i) st read at = piece_of text ps sts i st read.1 at

module _ (text : List ℕ) (program : List StmtTree) (is : IsProgram text program) where
  keeps : (i : ℕ) (st : StmtTree) (reason : Reason) → slice_get program i ≡ Some st → breaks (facts_at (map Some program) i) st reason ≡ false
  keeps i st reason at = by (breaks (facts_at (map Some program) i) st reason) refl
    where
      by : (b : Bool) → breaks (facts_at (map Some program) i) st reason ≡ b → breaks (facts_at (map Some program) i) st reason ≡ false
      by false e = e
      by true e =
          let own = piece_of text is.pieces program i st is.read at in
          let lt : i < length is.pieces = slice_get_within is.pieces i own.0 own.1 in
          absurd (is.sound i (omega (arith, lt)) reason
          (subst (λ o. HasReasonAt text (map Some program) i o reason) (sym own.1) (breaks_rule own.0 st reason own.2 e)))

  -- what has a label stands in a procedure
  labelled : (i : ℕ) (st : StmtTree) (name : List ℕ) → slice_get program i ≡ Some st → st.label ≡ Some name → is_outer st.body ≡ false
  labelled i st name at has =
      let own = piece_of text is.pieces program i st is.read at in
      (subst (λ (o : Option (List ℕ)). IsLabelled (symbols_of text own.2.tokens) o st.body) has own.2.means).2

  none_at_end : (reason : Reason) → HasReasonAt text (map Some program) (length program) None reason → ⊥
  none_at_end reason has =
      let same = same_length text is.pieces program is.read in
      is.sound (length program) (omega (arith, same)) reason
      (subst (λ o. HasReasonAt text (map Some program) (length program) o reason) (sym (slice_get_past is.pieces (length program) (omega (arith, same)))) has)

  closed : is_some (inside_after (numbered (take (length program) (map Some program)))) ≡ false
  closed = by (is_some (inside_after (numbered (take (length program) (map Some program))))) refl
    where
      by : (b : Bool) → is_some (inside_after (numbered (take (length program) (map Some program)))) ≡ b → is_some (inside_after (numbered (take (length program) (map Some program)))) ≡ false
      by false e = e
      by true e = absurd (none_at_end reasons.NotClosed (not_closed e))

  acts : any_body is_action (numbered (take (length program) (map Some program))) ≡ true
  acts = by (any_body is_action (numbered (take (length program) (map Some program)))) refl
    where
      by : (b : Bool) → any_body is_action (numbered (take (length program) (map Some program))) ≡ b → any_body is_action (numbered (take (length program) (map Some program))) ≡ true
      by true e = e
      by false e = absurd (none_at_end reasons.NothingToDo (nothing_to_do e))

  pub sound : IsSound program
  sound = record { few = few_pieces text program is; keeps = keeps; labelled = labelled; closed = closed; acts = acts }
