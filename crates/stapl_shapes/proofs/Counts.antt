-- How many statements a program has.
use Rattle.std.proofs.Common.{◌≡◌, ℕ, zero, suc, ◌<◌, ◌≤◌, Bool, true, false, List, [], ◌∷◌, length, map, slice_get, Some, refl, sym, ap, subst, arith, nat_lt}
use Rattle.std.proofs.lemmas.Bool.{ltb-true, ltb-false}
use Rattle.stapl_lexer.specs.declared.piece.Piece.{Piece}
use Rattle.stapl_lexer.specs.declared.reason.Reason.TheVariants as reasons
use Rattle.stapl_syntax.specs.Trees.{StmtTree}
use Rattle.stapl_syntax.specs.Programs.{piece_limit, AreReadAs, HasReasonAt, one_too_many, IsProgram}

pub same_length : (text : List ℕ) (pieces : List Piece) (statements : List StmtTree) → AreReadAs text pieces (map Some statements) → length pieces ≡ length statements
same_length text [] [] read = refl
same_length text [] (st ∷ sts) read = absurd read
same_length text (p ∷ ps) [] read = absurd read
same_length text (p ∷ ps) (st ∷ sts) read = ap suc (same_length text ps sts read.1)

piece_there : (pieces : List Piece) (i : ℕ) → i < length pieces → (piece : Piece) × (slice_get pieces i ≡ Some piece)
piece_there [] i lt = absurd (omega (arith, lt))
piece_there (p ∷ ps) zero lt = (p, refl)
piece_there (p ∷ ps) (suc i) lt = piece_there ps i (omega (arith, lt))

-- a program has no piece too many
pub few_pieces : (text : List ℕ) (program : List StmtTree) → IsProgram text program → length program ≤ piece_limit
few_pieces text program is = by (nat_lt piece_limit (length program)) refl
  where
    by : (b : Bool) → nat_lt piece_limit (length program) ≡ b → length program ≤ piece_limit
    by false e = ltb-false piece_limit (length program) e
    by true e =
        let over : piece_limit < length program = ltb-true piece_limit (length program) e in
        let same = same_length text is.pieces program is.read in
        let own = piece_there is.pieces piece_limit (omega (arith, over, same)) in
        absurd (is.sound piece_limit (omega (arith, over, same)) reasons.TooManyPieces
        (subst (λ o. HasReasonAt text (map Some program) piece_limit o reasons.TooManyPieces) (sym own.1) (one_too_many own.0 (omega arith))))
