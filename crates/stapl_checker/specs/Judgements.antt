-- Which reason the checker names.
use Rattle.std.specs.Prelude.{◌≡◌, ◌≤◌, ◌<◌, map, take, length, slice_get, ℕ, List, [], ◌∷◌, Option, None, Some, is_some, nat_le, if◌then◌else◌}
use Rattle.stapl_lexer.specs.declared.piece.Piece.{Piece}
use Rattle.stapl_lexer.specs.declared.reason.Reason.{Reason}
use Rattle.stapl_lexer.specs.declared.reason.Reason.TheVariants as reasons
use Rattle.stapl_syntax.specs.Trees.{StmtTree}
use Rattle.stapl_syntax.specs.Statements.{IsPieceStatement}
use Rattle.stapl_syntax.specs.Reasons.{SmallestReason}
use Rattle.stapl_syntax.specs.Names.{Numbered, numbered, inside_after}
use Rattle.stapl_syntax.specs.Rules.{is_action, any_body}
use Rattle.stapl_syntax.specs.Programs.{piece_limit}
use Rattle.stapl_syntax.specs.Programs.{facts_at, HasReasonAt, SmallestReasonAt}
use Rattle.checker_rules.specs.BrokenRules.{rule_broken}

-- what a piece is: a statement, or none for its smallest reason
pub data What : Type 0 where
  statement : StmtTree → What
  faulty : Reason → What

abbrev pub IsWhat : List ℕ → Piece → What → Type 0
IsWhat text piece (statement st) = IsPieceStatement text piece st
IsWhat text piece (faulty reason) = SmallestReason text piece reason

-- what all pieces are
abbrev pub AreWhat : List ℕ → List Piece → List What → Type 0
AreWhat text [] [] = Unit {0}
AreWhat text [] (w ∷ whats) = ⊥
AreWhat text (piece ∷ pieces) [] = ⊥
AreWhat text (piece ∷ pieces) (w ∷ whats) = IsWhat text piece w × AreWhat text pieces whats

-- the statement that a piece is, if it is one
abbrev pub what_tree : What → Option StmtTree
what_tree (statement st) = Some st
what_tree (faulty reason) = None

abbrev pub what_trees : List What → List (Option StmtTree)
what_trees whats = map what_tree whats

-- one piece too many has the smallest reason of all
abbrev pub unless_late : ℕ → Option Reason → Option Reason
unless_late i reason = if nat_le piece_limit i then Some reasons.TooManyPieces else reason

-- the reason of a piece with this index
abbrev pub reason_of : List (Option StmtTree) → ℕ → What → Option Reason
reason_of read i (statement st) = unless_late i (rule_broken (facts_at read i) st)
reason_of read i (faulty reason) = unless_late i (Some reason)

-- the reason of the end after these statements
abbrev pub reason_of_end : List Numbered → Option Reason
reason_of_end before =
    if is_some (inside_after before) then Some reasons.NotClosed else if any_body is_action before then None else Some reasons.NothingToDo

-- the reason of what stands at an index, a piece or the end
abbrev pub reason_from : List (Option StmtTree) → ℕ → Option What → Option Reason
reason_from read i (Some w) = reason_of read i w
reason_from read i None = reason_of_end (numbered (take i read))

abbrev pub reason_at : List What → ℕ → Option Reason
reason_at whats i = reason_from (what_trees whats) i (slice_get whats i)

-- a reason stands at this index, and none before it
pub record IsFirstReason (whats : List What) (i : ℕ) (reason : Reason) : Type 0 where
  pub within : i ≤ length whats
  pub here : reason_at whats i ≡ Some reason
  pub before : (k : ℕ) → k < i → reason_at whats k ≡ None

-- no reason stands at any piece, nor at the end
pub record HasNoReason (whats : List What) : Type 0 where
  pub none : (k : ℕ) → k ≤ length whats → reason_at whats k ≡ None

-- the reason is the smallest that holds, or none holds
abbrev pub IsJudged : List ℕ → List (Option StmtTree) → ℕ → Option Piece → Option Reason → Type 0
IsJudged text read i piece None = (reason : Reason) → HasReasonAt text read i piece reason → ⊥
IsJudged text read i piece (Some reason) = SmallestReasonAt text read i piece reason
