-- What the walk through the statements finds.
use borrow.Author.Count.{below_more}
use Rattle.std.proofs.Common.{◌≡◌, ◌<◌, ◌+◌, ℕ, List, [], ◌∷◌, ◌++◌, length, Option, None, Some, sym, ap, ◌∙◌, subst, arith, take, map, get_or, All}
use Rattle.std.proofs.lemmas.List.{get_or-map, length-map, length-take-le, map-append, take_more}
use Rattle.std.proofs.lemmas.Option.{slice_get-get_or}
use Rattle.stapl_lexer.specs.declared.reason.Reason.{Reason}
use Rattle.stapl_syntax.specs.declared.statement.Stmt.{Stmt}
use Rattle.stapl_syntax.specs.Trees.{StmtTree, body_tree, stmt_tree}
use Rattle.stapl_syntax.specs.Names.{Names, Numbered, numbered}
use Rattle.stapl_syntax.specs.Rules.{known_from, Facts}
use Rattle.checker_rules.specs.declared.course.Course.{Course}
use Rattle.checker_rules.specs.Earlier.{declared_below}
use Rattle.checker_rules.specs.BrokenRules.{rule_broken}
use Rattle.checker_rules.specs.Courses.{BeginsListed, GoesOn, IsCourse, facts_in}
use Rattle.checker_rules.proofs.CourseLemmas.{course_more}
use Rattle.stapl_checker.specs.Judgements.{unless_late}
use Rattle.stapl_checker.specs.Walks.{StopsAt, facts_by, numbered_trees, broken_by, broken_at, NoneBroken}
use Rattle.stapl_checker.proofs.ReadingLemmas.{numbered_snoc}

facts_same : (names : Names) (before : List Numbered) (n number : ℕ) (c : Course) → IsCourse names before n c → facts_in names c number ≡ facts_by names before number
facts_same names before n number c is = λ j. record {
  place = is.place j;
  inside = is.inside j;
  earlier = declared_below names number;
  known = known_from names (is.inside j);
  before = is.totals j;
}

-- the statements up to an index

trees_more : (trees : List StmtTree) (i : ℕ) (d : StmtTree) → i < length trees →
    numbered_trees (take (i + 1) trees) ≡ numbered_trees (take i trees) ++ record { piece = i + 1; statement = get_or trees i d } ∷ []
trees_more trees i d lt =
    let front = length-take-le i trees (omega arith) in
    let mapped = length-map (take i trees) Some in
    let number : 1 + length (map Some (take i trees)) ≡ i + 1 = omega (arith, front, mapped) in
    ap numbered_trees (take_more trees i d lt) ∙ ap numbered (map-append Some (take i trees) (get_or trees i d ∷ []))
    ∙ numbered_snoc 1 (map Some (take i trees)) (Some (get_or trees i d))
    ∙ ap (λ (n : ℕ). numbered_trees (take i trees) ++ record { piece = n; statement = get_or trees i d } ∷ []) number

tree_at : (statements : List Stmt) (i : ℕ) (st d : Stmt) → i < length statements → st ≡ get_or statements i d → get_or (map stmt_tree statements) i (stmt_tree d) ≡ stmt_tree st
tree_at statements i st d lt is = get_or-map stmt_tree statements i d (stmt_tree d) lt ∙ ap stmt_tree (sym is)

pub walk_on : (names : Names) (statements : List Stmt) (i : ℕ) (st d : Stmt) (old new : Course) → i < length statements → st ≡ get_or statements i d →
    IsCourse names (numbered_trees (take i (map stmt_tree statements))) i old → GoesOn names (stmt_tree st).body old new →
    IsCourse names (numbered_trees (take (i + 1) (map stmt_tree statements))) (i + 1) new
walk_on names statements i st d old new lt is course goes =
    let mapped = length-map statements stmt_tree in
    subst (λ (z : List Numbered). IsCourse names z (i + 1) new) (sym (trees_more (map stmt_tree statements) i (stmt_tree d) (omega (arith, mapped))))
    (course_more names (numbered_trees (take i (map stmt_tree statements))) i (record { piece = i + 1; statement = get_or (map stmt_tree statements) i (stmt_tree d) }) old new course
    (subst (λ (t : StmtTree). GoesOn names t.body old new) (sym (tree_at statements i st d lt is)) goes))

pub reason_is : (names : Names) (statements : List Stmt) (i : ℕ) (st d : Stmt) (c : Course) (r : Option Reason) → i < length statements → st ≡ get_or statements i d →
    IsCourse names (numbered_trees (take i (map stmt_tree statements))) i c → r ≡ unless_late i (rule_broken (facts_in names c (i + 1)) (stmt_tree st)) →
    broken_at names (map stmt_tree statements) i ≡ r
reason_is names statements i st d c r lt is course e =
    let mapped = length-map statements stmt_tree in
    ap (broken_by names (map stmt_tree statements) i) (slice_get-get_or (map stmt_tree statements) i (stmt_tree d) (omega (arith, mapped)) ∙ ap Some (tree_at statements i st d lt is))
    ∙ ap (λ (f : Facts). unless_late i (rule_broken f (stmt_tree st))) (sym (facts_same names (numbered_trees (take i (map stmt_tree statements))) i (i + 1) c course))
    ∙ sym e

pub none_more : (names : Names) (trees : List StmtTree) (i : ℕ) → NoneBroken names trees i → broken_at names trees i ≡ None → NoneBroken names trees (i + 1)
none_more names trees i before here = below_more (λ k. broken_at names trees k ≡ None) i before here

pub stops : (names : Names) (statements : List Stmt) (i : ℕ) (reason : Reason) → i < length statements → NoneBroken names (map stmt_tree statements) i →
    broken_at names (map stmt_tree statements) i ≡ Some reason → StopsAt names (map stmt_tree statements) i reason
stops names statements i reason lt before here =
    let mapped = length-map statements stmt_tree in
    record { below = omega (arith, mapped, lt); here = here; before = before }

pub listed_at : (names : Names) (statements : List Stmt) (i : ℕ) (st d : Stmt) → i < length statements → st ≡ get_or statements i d →
    All (λ (t : StmtTree). BeginsListed names t.body) (map stmt_tree statements) → BeginsListed names (body_tree st.body)
listed_at names statements i st d lt is all =
    let mapped = length-map statements stmt_tree in
    subst (λ (t : StmtTree). BeginsListed names t.body) (tree_at statements i st d lt is) (all i (stmt_tree d) (omega (arith, mapped)))
