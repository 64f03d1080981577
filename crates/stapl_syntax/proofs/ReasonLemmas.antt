-- A piece has at most one smallest reason.
use Rattle.std.proofs.Common.{◌≡◌, ◌≤◌, ℕ, List, Option, arith}
use Rattle.stapl_lexer.specs.declared.piece.Piece.{Piece}
use Rattle.stapl_lexer.specs.declared.reason.Reason.{Reason}
use Rattle.stapl_lexer.specs.Reasons.{reason_number}
use Rattle.stapl_lexer.proofs.ReasonLemmas.{same_number}
use Rattle.stapl_syntax.specs.Trees.{StmtTree}
use Rattle.stapl_syntax.specs.Reasons.{SmallestReason}
use Rattle.stapl_syntax.specs.Programs.{SmallestReasonAt}

pub one_smallest_reason : {text : List ℕ} {piece : Piece} {r s : Reason} → SmallestReason text piece r → SmallestReason text piece s → r ≡ s
one_smallest_reason {r = r} {s = s} a b =
    let le : reason_number r ≤ reason_number s = a.least s b.holds in
    let ge : reason_number s ≤ reason_number r = b.least r a.holds in
    same_number r s (omega (arith, le, ge))

-- so has what stands at an index
pub one_smallest_reason_at : {text : List ℕ} {read : List (Option StmtTree)} {i : ℕ} {at : Option Piece} {r s : Reason} →
    SmallestReasonAt text read i at r → SmallestReasonAt text read i at s → r ≡ s
one_smallest_reason_at {r = r} {s = s} a b =
    let le : reason_number r ≤ reason_number s = a.least s b.holds in
    let ge : reason_number s ≤ reason_number r = b.least r a.holds in
    same_number r s (omega (arith, le, ge))
