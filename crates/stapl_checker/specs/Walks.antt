-- What the checker finds on its walk through the statements.
use Rattle.std.specs.Prelude.{◌≡◌, ◌<◌, ◌+◌, ℕ, List, Option, None, Some, length, map, take, slice_get}
use Rattle.stapl_lexer.specs.declared.reason.Reason.{Reason}
use Rattle.stapl_syntax.specs.Trees.{StmtTree}
use Rattle.stapl_syntax.specs.Names.{Names, Numbered, numbered, inside_after}
use Rattle.stapl_syntax.specs.Rules as rules
use Rattle.stapl_syntax.specs.Rules.{known_from, place_after, Facts}
use Rattle.checker_rules.specs.declared.course.Course.{Course}
use Rattle.checker_rules.specs.Counts.{totals_of}
use Rattle.checker_rules.specs.Earlier.{declared_below}
use Rattle.checker_rules.specs.BrokenRules.{rule_broken}
use Rattle.checker_rules.specs.Courses.{IsCourse}
use Rattle.stapl_checker.specs.declared.walk.Walked.{Walked}
use Rattle.stapl_checker.specs.declared.walk.Walked.TheVariants.{Stops, Ends}
use Rattle.stapl_checker.specs.Judgements.{unless_late}

-- the facts after these statements, for the piece with this number
abbrev pub facts_by : Names → List Numbered → ℕ → Facts
facts_by names before number = record {
  place = place_after names before;
  inside = inside_after before;
  earlier = declared_below names number;
  known = known_from names (inside_after before);
  before = rules.totals_of before;
}

-- statements with the numbers of the first pieces
abbrev pub numbered_trees : List StmtTree → List Numbered
numbered_trees statements = numbered (map Some statements)

-- the smallest reason against the statement with this index among the first statements of a program
abbrev pub broken_by : Names → List StmtTree → ℕ → Option StmtTree → Option Reason
broken_by names statements i None = None
broken_by names statements i (Some st) = unless_late i (rule_broken (facts_by names (numbered_trees (take i statements)) (i + 1)) st)

abbrev pub broken_at : Names → List StmtTree → ℕ → Option Reason
broken_at names statements i = broken_by names statements i (slice_get statements i)

-- no reason stands before this index
abbrev pub NoneBroken : Names → List StmtTree → ℕ → Type 0
NoneBroken names statements n = (k : ℕ) → k < n → broken_at names statements k ≡ None

-- the walk stops at a statement
pub record StopsAt (names : Names) (statements : List StmtTree) (i : ℕ) (reason : Reason) : Type 0 where
  pub below : i < length statements
  pub here : broken_at names statements i ≡ Some reason
  pub before : NoneBroken names statements i

-- the walk comes to the end
pub record ComesToEnd (names : Names) (statements : List StmtTree) (c : Course) : Type 0 where
  pub none : NoneBroken names statements (length statements)
  pub course : IsCourse names (numbered_trees statements) (length statements) c

abbrev pub IsWalked : Names → List StmtTree → Walked → Type 0
IsWalked names statements (Stops i reason) = StopsAt names statements i reason
IsWalked names statements (Ends c) = ComesToEnd names statements c
