-- The first fault that the checker finds.
use Rattle.std.specs.Prelude.{◌≡◌, ℕ, List, Option, Some, None, is_some, map, length, if◌then◌else◌}
use Rattle.std.specs.Option.{option_map}
use Rattle.stapl_lexer.specs.declared.reason.Reason.{Reason}
use Rattle.stapl_lexer.specs.declared.reason.Reason.TheVariants as reasons
use Rattle.stapl_syntax.specs.Trees.{StmtTree}
use Rattle.checker_rules.specs.declared.course.Course.{Course}
use Rattle.stapl_checker.specs.declared.faults.Fault.{Fault}
use Rattle.stapl_checker.specs.declared.reading.Reading.{Reading}
use Rattle.stapl_checker.specs.declared.reading.Unread.{Unread}
use Rattle.stapl_checker.specs.Judgements.{What, what_trees, unless_late, IsFirstReason, HasNoReason}

-- how many pieces are statements before this one that is none, or how many there are
abbrev pub front_by : Option Unread → ℕ → ℕ
front_by None count = count
front_by (Some unread) count = unread.index

abbrev pub front_of : Reading → ℕ
front_of reading = front_by reading.unread (length reading.statements.items)

-- the reason of the end of a text
abbrev pub reason_of_course : Course → Option Reason
reason_of_course course =
    if is_some course.inside then Some reasons.NotClosed else if course.place.after_action then None else Some reasons.NothingToDo

abbrev pub fault_at : ℕ → Option Reason → Option Fault
fault_at index reason = option_map (λ reason. record { index = index; reason = reason }) reason

-- the fault after the statements before the first piece that is none, or at the end
abbrev pub first_by : Option Unread → ℕ → Course → Option Fault
first_by (Some unread) count course = fault_at unread.index (unless_late unread.index (Some unread.reason))
first_by None count course = fault_at count (reason_of_course course)

-- there is no reason, and the pieces are these statements
pub record IsFaultless (whats : List What) (statements : List StmtTree) : Type 0 where
  pub none : HasNoReason whats
  pub same : what_trees whats ≡ map Some statements

-- the first fault, if there is one
abbrev pub IsFirstFaultOf : List What → List StmtTree → Option Fault → Type 0
IsFirstFaultOf whats statements None = IsFaultless whats statements
IsFirstFaultOf whats statements (Some fault) = IsFirstReason whats fault.index fault.reason
