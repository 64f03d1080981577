-- From what the pieces are to what the text is: a program, or its first fault.
use Rattle.std.proofs.Common.{◌≡◌, ◌≤◌, ◌<◌, ◌+◌, ℕ, zero, suc, List, [], ◌∷◌, length, Option, None, Some, refl, sym, subst, arith, map, get_or, slice_get, ◌⊎◌, inl, inr}
use Rattle.stapl_lexer.specs.declared.piece.Piece.{Piece}
use Rattle.stapl_lexer.specs.declared.reason.Reason.{Reason}
use Rattle.std.proofs.lemmas.Bool.{cases_lt}
use Rattle.std.proofs.lemmas.List.{length-map}
use Rattle.std.proofs.lemmas.Option.{slice_get-get_or}
use Rattle.stapl_lexer.specs.declared.reason.Reason.TheVariants as reasons
use Rattle.stapl_lexer.specs.Pieces.{IsCut, text_limit}
use Rattle.stapl_syntax.specs.declared.statement.Stmt.{Stmt}
use Rattle.stapl_syntax.specs.Trees.{StmtTree, stmt_tree}
use Rattle.stapl_syntax.specs.Programs.{piece_limit, IsReadAs, AreReadAs, line_of_index}
use Rattle.stapl_syntax.specs.Programs.{HasReasonAt, one_too_many, NoneBefore, IsProgram, FirstFault, is_first}
use Rattle.stapl_grammar.proofs.LawLemmas.{no_reason}
use Rattle.stapl_checker.specs.Judgements.{What, statement, faulty, IsWhat, AreWhat, what_tree, what_trees, reason_of, reason_from, reason_at, IsFirstReason, HasNoReason, IsJudged}
use Rattle.stapl_checker.proofs.ReadingLemmas.{as_long, no_piece}
use Rattle.stapl_checker.proofs.Judged.{judged, judged_end}

read_as : (text : List ℕ) (piece : Piece) (w : What) → IsWhat text piece w → IsReadAs text piece (what_tree w)
read_as text piece (statement st) is = is
read_as text piece (faulty reason) is = λ st means. no_reason st means is.holds

are_read_as : (text : List ℕ) (pieces : List Piece) (whats : List What) → AreWhat text pieces whats → AreReadAs text pieces (what_trees whats)
are_read_as text [] [] a = tt
are_read_as text [] (w ∷ whats) a = absurd a
are_read_as text (p ∷ pieces) [] a = absurd a
are_read_as text (p ∷ pieces) (w ∷ whats) a = (read_as text p w a.0, are_read_as text pieces whats a.1)

-- what stands at an index: a piece and what it is
record IsWhatAt (text : List ℕ) (piece : Option Piece) (what : Option What) : Type 0 where
  own : Piece
  is_what : What
  piece_is : piece ≡ Some own
  what_is : what ≡ Some is_what
  is : IsWhat text own is_what

-- or nothing, after the last piece
what_at : (text : List ℕ) (pieces : List Piece) (whats : List What) (i : ℕ) → AreWhat text pieces whats →
    IsWhatAt text (slice_get pieces i) (slice_get whats i) ⊎ ((slice_get pieces i ≡ None) × (slice_get whats i ≡ None))
what_at text [] [] i a = inr (refl, refl)
what_at text [] (w ∷ whats) i a = absurd a
what_at text (p ∷ pieces) [] i a = absurd a
what_at text (p ∷ pieces) (w ∷ whats) zero a = inl (record { own = p; is_what = w; piece_is = refl; what_is = refl; is = a.0 })
what_at text (p ∷ pieces) (w ∷ whats) (suc i) a = what_at text pieces whats i a.1

-- the reason of what stands at an index is the smallest that holds
judged_at : (text : List ℕ) (pieces : List Piece) (whats : List What) (i : ℕ) → AreWhat text pieces whats →
    IsJudged text (what_trees whats) i (slice_get pieces i) (reason_at whats i)
judged_at text pieces whats i are = by (what_at text pieces whats i are)
  where
    by : IsWhatAt text (slice_get pieces i) (slice_get whats i) ⊎ ((slice_get pieces i ≡ None) × (slice_get whats i ≡ None)) →
        IsJudged text (what_trees whats) i (slice_get pieces i) (reason_at whats i)
    by (inl there) =
        subst (λ (w : Option What). IsJudged text (what_trees whats) i (slice_get pieces i) (reason_from (what_trees whats) i w)) (sym there.what_is)
        (subst (λ (p : Option Piece). IsJudged text (what_trees whats) i p (reason_of (what_trees whats) i there.is_what)) (sym there.piece_is)
        (judged text (what_trees whats) i there.own there.is_what there.is))
    by (inr (no_piece, nothing)) =
        subst (λ (w : Option What). IsJudged text (what_trees whats) i (slice_get pieces i) (reason_from (what_trees whats) i w)) (sym nothing)
        (subst (λ (p : Option Piece). IsJudged text (what_trees whats) i p (reason_from (what_trees whats) i None)) (sym no_piece)
        (judged_end text (what_trees whats) i))

none_before : (text : List ℕ) (pieces : List Piece) (whats : List What) (n : ℕ) → AreWhat text pieces whats → ((k : ℕ) → k < n → reason_at whats k ≡ None) →
    NoneBefore text pieces (what_trees whats) n
none_before text pieces whats n are none k lt =
    subst (IsJudged text (what_trees whats) k (slice_get pieces k)) (none k lt) (judged_at text pieces whats k are)

pub fault_is : (text : List ℕ) (pieces : List Piece) (whats : List What) (i : ℕ) (reason : Reason) → length text ≤ text_limit → IsCut text pieces →
    AreWhat text pieces whats → IsFirstReason whats i reason → FirstFault text (i + 1) (line_of_index text pieces i) reason
fault_is text pieces whats i reason short cut are first =
    let long = as_long text pieces whats are in
    let within = first.within in
    is_first pieces (what_trees whats) i reason short cut (are_read_as text pieces whats are) (omega arith)
    (subst (IsJudged text (what_trees whats) i (slice_get pieces i)) first.here (judged_at text pieces whats i are))
    (none_before text pieces whats i are first.before)

pub program_is : (text : List ℕ) (pieces : List Piece) (whats : List What) (statements : List StmtTree) → length text ≤ text_limit → IsCut text pieces →
    AreWhat text pieces whats → HasNoReason whats → what_trees whats ≡ map Some statements → IsProgram text statements
program_is text pieces whats statements short cut are free same =
    let long = as_long text pieces whats are in
    record {
      short = short;
      pieces = pieces;
      cut = cut;
      read = subst (AreReadAs text pieces) same (are_read_as text pieces whats are);
      sound = subst (λ (z : List (Option StmtTree)). NoneBefore text pieces z (length pieces + 1)) same
          (none_before text pieces whats (length pieces + 1) are (λ k lt. free.none k (omega arith)));
    }
