-- What the walk finds is the first fault.
use borrow.Author.Count.{below_more}
use Rattle.std.proofs.Common.{◌≡◌, ◌≤◌, ◌<◌, ◌+◌, ℕ, zero, suc, Bool, true, false, List, [], ◌∷◌, length, Option, None, Some, is_some, refl, sym, ap, ◌∙◌, subst, arith, take, map, get_or, slice_get, cond, All, if◌then◌else◌, nat_le}
use Rattle.std.specs.List.{cons_option}
use Rattle.std.specs.Map.{lookup, keys_of}
use Rattle.std.specs.Option.{option_map}
use Rattle.std.specs.Str.{bytes_eq}
use Rattle.std.proofs.lemmas.List.{length-map, length-take-le, take-take, take_all, take-map}
use Rattle.std.proofs.lemmas.List.Elements.{All-take}
use Rattle.std.proofs.lemmas.Option.{slice_get-get_or, slice_get-map, slice_get_past}
use Rattle.stapl_lexer.specs.declared.reason.Reason.{Reason}
use Rattle.stapl_lexer.specs.declared.reason.Reason.TheVariants as reasons
use Rattle.stapl_syntax.specs.declared.names.Block.{Block}
use Rattle.stapl_syntax.specs.declared.statement.Stmt.{Stmt}
use Rattle.stapl_syntax.specs.Trees.{BodyTree, procedure, data_block, StmtTree, stmt_tree}
use Rattle.stapl_syntax.specs.Names.{Names, Numbered, numbered, with_numbers, names_of, inside_next, inside_after, block_of, block_of_body, declared_from, declared}
use Rattle.stapl_syntax.specs.Rules.{Facts, declared_in, is_action, any_body, known_from, place_after, totals_of}
use Rattle.stapl_syntax.specs.Programs.{piece_limit}
use Rattle.stapl_syntax.specs.Programs.{facts_at}
use Rattle.checker_rules.specs.declared.course.Course.{Course}
use Rattle.checker_rules.specs.Earlier.{declared_below}
use Rattle.checker_rules.specs.BrokenRules.{rule_broken}
use Rattle.checker_rules.specs.Scopes.{named, IsInside}
use Rattle.checker_rules.specs.Courses.{BeginsListed, IsCourse}
use Rattle.checker_rules.proofs.Earlier.{declared_same}
use Rattle.stapl_checker.specs.declared.reading.Reading.{Reading}
use Rattle.stapl_checker.specs.declared.reading.Unread.{Unread}
use Rattle.stapl_checker.specs.Judgements.{What, statement, faulty, what_tree, what_trees, unless_late, reason_from, reason_at, reason_of_end, IsFirstReason}
use Rattle.stapl_checker.specs.Readings.{stmt_trees, IsFrontTo, IsToldBy}
use Rattle.stapl_checker.specs.Walks.{facts_by, numbered_trees, broken_by, broken_at, NoneBroken, StopsAt, ComesToEnd}
use Rattle.stapl_checker.specs.Firsts.{front_by, front_of, reason_of_course, fault_at, first_by, IsFirstFaultOf}
use Rattle.stapl_names.proofs.Keys.{name_same, name_itself, found_after}

-- each block that a statement begins is in the table

-- entries of blocks hold the block that a statement begins
abbrev Holds : List (List ℕ × Block) → BodyTree → Type 0
Holds es (procedure name uses) = is_some (lookup (bytes_eq name) es) ≡ true
Holds es (data_block name) = is_some (lookup (bytes_eq name) es) ≡ true
Holds es _ = Unit {0}

stands : (name : List ℕ) (es : List (List ℕ × Block)) (o : Option (List ℕ × Block)) → is_some (lookup (bytes_eq name) es) ≡ true →
    is_some (lookup (bytes_eq name) (cons_option o es)) ≡ true
stands name es None h = h
stands name es (Some e) h = by (bytes_eq name e.0)
  where
    by : (b : Bool) → is_some (cond b (Some e.1) (lookup (bytes_eq name) es)) ≡ true
    by true = refl
    by false = h

first_stands : (name : List ℕ) (block : Block) (es : List (List ℕ × Block)) → is_some (lookup (bytes_eq name) ((name, block) ∷ es)) ≡ true
first_stands name block es = ap (λ (c : Bool). is_some (cond c (Some block) (lookup (bytes_eq name) es))) (name_itself name)

holds_more : (es : List (List ℕ × Block)) (o : Option (List ℕ × Block)) (b : BodyTree) → Holds es b → Holds (cons_option o es) b
holds_more es o (procedure name uses) h = stands name es o h
holds_more es o (data_block name) h = stands name es o h
holds_more es o _ h = tt

holds_own : (n : ℕ) (b : BodyTree) (es : List (List ℕ × Block)) → Holds (cons_option (block_of_body n b) es) b
holds_own n (procedure name uses) es = first_stands name _ es
holds_own n (data_block name) es = first_stands name _ es
holds_own n _ es = tt

all_hold : (ns : List ℕ) (sts : List StmtTree) (now : Option (List ℕ)) → length ns ≡ length sts → (i : ℕ) (st : StmtTree) → slice_get sts i ≡ Some st →
    Holds (declared_from block_of now (with_numbers ns sts)) st.body
all_hold [] [] now long i st at = absurd cc
all_hold [] (t ∷ sts) now long i st at = absurd (omega (arith, long))
all_hold (n ∷ ns) [] now long i st at = absurd (omega (arith, long))
all_hold (n ∷ ns) (t ∷ sts) now long zero st at =
    let same : t ≡ st = cc in
    subst (λ (z : StmtTree). Holds (declared_from block_of now (with_numbers (n ∷ ns) (t ∷ sts))) z.body) same
    (holds_own n t.body (declared_from block_of (inside_next now t.body) (with_numbers ns sts)))
all_hold (n ∷ ns) (t ∷ sts) now long (suc i) st at =
    holds_more (declared_from block_of (inside_next now t.body) (with_numbers ns sts)) (block_of now n t) st.body
    (all_hold ns sts (inside_next now t.body) (omega (arith, long)) i st at)

listed_from : (statements : List Numbered) (b : BodyTree) → Holds (declared block_of statements) b → BeginsListed (names_of statements) b
listed_from statements (procedure name uses) h = ap is_some (found_after bytes_eq name_same name (declared block_of statements) []) ∙ h
listed_from statements (data_block name) h = ap is_some (found_after bytes_eq name_same name (declared block_of statements) []) ∙ h
listed_from statements _ h = tt

pub all_listed : (names : Names) (numbers : List ℕ) (statements : List Stmt) → names ≡ names_of (with_numbers numbers (map stmt_tree statements)) →
    length numbers ≡ length statements → All (λ (st : StmtTree). BeginsListed names st.body) (map stmt_tree statements)
all_listed names numbers statements e long = λ i d lt.
    let trees = map stmt_tree statements in
    let mapped = length-map statements stmt_tree in
    subst (λ (z : Names). BeginsListed z (get_or trees i d).body) (sym e)
    (listed_from (with_numbers numbers trees) (get_or trees i d).body
    (all_hold numbers trees None (omega (arith, long, mapped)) i (get_or trees i d) (slice_get-get_or trees i d lt)))

-- on lists

slice_take : {A : Type 0} (xs : List A) (k n : ℕ) → k < n → slice_get (take n xs) k ≡ slice_get xs k
slice_take [] k zero lt = refl
slice_take [] k (suc n) lt = refl
slice_take (x ∷ xs) k zero lt = absurd (omega arith)
slice_take (x ∷ xs) zero (suc n) lt = refl
slice_take (x ∷ xs) (suc k) (suc n) lt = slice_take xs k n (omega arith)

statement_trees : (trees : List StmtTree) → what_trees (map statement trees) ≡ map Some trees
statement_trees [] = refl
statement_trees (t ∷ trees) = ap (λ (z : List (Option StmtTree)). Some t ∷ z) (statement_trees trees)

-- the pieces in front are these statements
module _ (whats : List What) (trees : List StmtTree) (below : length trees ≤ length whats) (front : take (length trees) whats ≡ map statement trees) where
  what_there : (k : ℕ) (st : StmtTree) → k < length trees → slice_get trees k ≡ Some st → slice_get whats k ≡ Some (statement st)
  what_there k st lt at =
      sym (slice_take whats k (length trees) lt) ∙ ap (λ (z : List What). slice_get z k) front ∙ slice_get-map statement trees k ∙ ap (option_map statement) at

  front_trees : (k : ℕ) → k ≤ length trees → take k (what_trees whats) ≡ map Some (take k trees)
  front_trees k le =
      take-map what_tree k whats ∙ ap what_trees (sym (take-take k (length trees) whats le)) ∙ ap (λ (z : List What). what_trees (take k z)) front
      ∙ ap what_trees (take-map statement k trees) ∙ statement_trees (take k trees)

  module _ (names : Names) (all : names ≡ names_of (numbered (what_trees whats))) where
    same_facts : (k : ℕ) → k ≤ length trees → facts_by names (numbered_trees (take k trees)) (k + 1) ≡ facts_at (what_trees whats) k
    same_facts k le =
        let one : k + 1 ≡ 1 + k = omega arith in
        ap (λ (n : Names). facts_by n (numbered_trees (take k trees)) (k + 1)) all
        ∙ ap (λ (z : List (Option StmtTree)). facts_by (names_of (numbered (what_trees whats))) (numbered z) (k + 1)) (sym (front_trees k le))
        ∙ earlier_facts (ap (declared_below (names_of (numbered (what_trees whats)))) one ∙ declared_same (what_trees whats) k)
      where
        earlier_facts : declared_below (names_of (numbered (what_trees whats))) (k + 1) ≡ declared_in (names_of (numbered (take k (what_trees whats)))) →
            facts_by (names_of (numbered (what_trees whats))) (numbered (take k (what_trees whats))) (k + 1) ≡ facts_at (what_trees whats) k
        earlier_facts e = λ j. record {
          place = place_after (names_of (numbered (what_trees whats))) (numbered (take k (what_trees whats)));
          inside = inside_after (numbered (take k (what_trees whats)));
          earlier = e j;
          known = known_from (names_of (numbered (what_trees whats))) (inside_after (numbered (take k (what_trees whats))));
          before = totals_of (numbered (take k (what_trees whats)));
        }

    same_reason_of : (k : ℕ) (st : StmtTree) → k < length trees → slice_get trees k ≡ Some st → broken_at names trees k ≡ reason_at whats k
    same_reason_of k st lt at =
        ap (broken_by names trees k) at
        ∙ ap (λ (f : Facts). unless_late k (rule_broken f st)) (same_facts k (omega (arith, lt)))
        ∙ sym (ap (reason_from (what_trees whats) k) (what_there k st lt at))

    same_reason : (k : ℕ) → k < length trees → broken_at names trees k ≡ reason_at whats k
    same_reason k lt = at_place (there trees k lt)
      where
        there : (xs : List StmtTree) (i : ℕ) → i < length xs → (st : StmtTree) × (slice_get xs i ≡ Some st)
        there [] i l = absurd (omega arith)
        there (x ∷ xs) zero l = (x, refl)
        there (x ∷ xs) (suc i) l = there xs i (omega arith)

        at_place : (st : StmtTree) × (slice_get trees k ≡ Some st) → broken_at names trees k ≡ reason_at whats k
        at_place found = same_reason_of k found.0 lt found.1

    none_in_front : (n : ℕ) → n ≤ length trees → NoneBroken names trees n → (k : ℕ) → k < n → reason_at whats k ≡ None
    none_in_front n le none k lt = sym (same_reason k (omega (arith, lt, le))) ∙ none k lt

    stops_first : (i : ℕ) (reason : Reason) → StopsAt names trees i reason → IsFirstReason whats i reason
    stops_first i reason stops =
        let lt = stops.below in
        record {
          within = omega (arith, lt, below);
          here = sym (same_reason i lt) ∙ stops.here;
          before = none_in_front i (omega (arith, lt)) stops.before;
        }

-- the statements in front
record IsInFront (whats : List What) (trees : List StmtTree) : Type 0 where
  below : length trees ≤ length whats
  front : take (length trees) whats ≡ map statement trees

in_front : (whats : List What) (statements : List Stmt) (unread : Option Unread) → IsFrontTo whats (stmt_trees statements) unread →
    front_by unread (length statements) ≤ length statements → IsInFront whats (map stmt_tree (take (front_by unread (length statements)) statements))
in_front whats statements None front le =
    let all : take (length statements) statements ≡ statements = take_all (length statements) statements (omega arith) in
    let mapped = length-map statements stmt_tree in
    let also = length-map (stmt_trees statements) statement in
    let long = ap length front in
    subst (λ (z : List Stmt). IsInFront whats (map stmt_tree z)) (sym all)
    (record {
      below = omega (arith, mapped, also, long);
      front = take_all (length (stmt_trees statements)) whats (omega (arith, mapped, also, long)) ∙ front;
    })
in_front whats statements (Some u) front le =
    let mapped = length-map (take u.index statements) stmt_tree in
    let long = length-take-le u.index statements le in
    let lt = front.below in
    let index : length (map stmt_tree (take u.index statements)) ≡ u.index = omega (arith, mapped, long) in
    record {
      below = omega (arith, index, lt);
      front = ap (λ (n : ℕ). take n whats) index ∙ front.front ∙ ap (map statement) (take-map stmt_tree u.index statements);
    }

pub stops_is : (names : Names) (whats : List What) (reading : Reading) (i : ℕ) (reason : Reason) → IsToldBy whats reading → names ≡ names_of (numbered (what_trees whats)) →
    front_of reading ≤ length reading.statements.items → StopsAt names (map stmt_tree (take (front_of reading) reading.statements.items)) i reason →
    IsFirstReason whats i reason
stops_is names whats reading i reason told all le stops =
    let front = in_front whats reading.statements.items reading.unread told.front le in
    stops_first whats (map stmt_tree (take (front_of reading) reading.statements.items)) front.below front.front names all i reason stops

-- the end of the walk

has_name : (names : Names) (inside : Option ℕ) → IsInside names inside → is_some (named names inside) ≡ is_some inside
has_name names None within = refl
has_name names (Some n) within = by names.blocks n within
  where
    by : (es : List (List ℕ × Block)) (n : ℕ) → n < length es → is_some (slice_get (keys_of es) n) ≡ true
    by [] n lt = absurd (omega arith)
    by (e ∷ es) zero lt = refl
    by (e ∷ es) (suc n) lt = by es n (omega arith)

end_same : (names : Names) (before : List Numbered) (n : ℕ) (c : Course) → IsCourse names before n c → reason_of_course c ≡ reason_of_end before
end_same names before n c is =
    let a : is_some c.inside ≡ is_some (inside_after before) = sym (has_name names c.inside is.within) ∙ ap is_some is.inside in
    let b : c.place.after_action ≡ any_body is_action before = ap (λ p. p.after_action) is.place in
    λ j. if a j then Some reasons.NotClosed else if b j then None else Some reasons.NothingToDo

none_to : (whats : List What) (n : ℕ) → ((k : ℕ) → k < n → reason_at whats k ≡ None) → reason_at whats n ≡ None → (k : ℕ) → k ≤ n → reason_at whats k ≡ None
none_to whats n before here k le = below_more (λ i. reason_at whats i ≡ None) n before here k (omega arith)

at_end : (whats : List What) (trees : List StmtTree) (count : ℕ) (reason : Option Reason) → count ≡ length whats → ((k : ℕ) → k < count → reason_at whats k ≡ None) →
    reason_at whats count ≡ reason → what_trees whats ≡ map Some trees → IsFirstFaultOf whats trees (fault_at count reason)
at_end whats trees count (Some reason) long before here same = record { within = omega (arith, long); here = here; before = before }
at_end whats trees count None long before here same = record {
  none = record { none = λ k le. none_to whats count before here k (omega (arith, le, long)) };
  same = same;
}

at_unread : (whats : List What) (trees : List StmtTree) (u : Unread) → u.index < length whats → slice_get whats u.index ≡ Some (faulty u.reason) →
    ((k : ℕ) → k < u.index → reason_at whats k ≡ None) → IsFirstFaultOf whats trees (fault_at u.index (unless_late u.index (Some u.reason)))
at_unread whats trees u lt here before = by (nat_le piece_limit u.index) (ap (reason_from (what_trees whats) u.index) here)
  where
    by : (b : Bool) → reason_at whats u.index ≡ (if b then Some reasons.TooManyPieces else Some u.reason) →
        IsFirstFaultOf whats trees (fault_at u.index (if b then Some reasons.TooManyPieces else Some u.reason))
    by true e = record { within = omega arith; here = e; before = before }
    by false e = record { within = omega arith; here = e; before = before }

ends_by : (names : Names) (whats : List What) (statements : List Stmt) (unread : Option Unread) (count : ℕ) (c : Course) → IsFrontTo whats (stmt_trees statements) unread →
    names ≡ names_of (numbered (what_trees whats)) → front_by unread (length statements) ≤ length statements →
    count ≡ length (take (front_by unread (length statements)) statements) →
    ComesToEnd names (map stmt_tree (take (front_by unread (length statements)) statements)) c →
    IsFirstFaultOf whats (map stmt_tree statements) (first_by unread count c)
ends_by names whats statements (Some u) count c front all le long ends =
    let own = in_front whats statements (Some u) front le in
    let mapped = length-map (take u.index statements) stmt_tree in
    let many = length-take-le u.index statements le in
    at_unread whats (map stmt_tree statements) u front.below front.here
    (λ k lt. none_in_front whats (map stmt_tree (take u.index statements)) own.below own.front names all (length (map stmt_tree (take u.index statements))) (omega arith) ends.none k
    (omega (arith, lt, mapped, many)))
ends_by names whats statements None count c front all le long ends =
    let own = in_front whats statements None front le in
    let kept = take_all (length statements) statements (omega arith) in
    let mapped = length-map (take (length statements) statements) stmt_tree in
    let also = length-map (stmt_trees statements) statement in
    let trees = length-map statements stmt_tree in
    let whole = ap length front in
    let kept_long = ap length kept in
    at_end whats (map stmt_tree statements) count (reason_of_course c) (omega (arith, long, also, trees, whole, kept_long))
    (λ k lt. none_in_front whats (map stmt_tree (take (length statements) statements)) own.below own.front names all
    (length (map stmt_tree (take (length statements) statements))) (omega arith) ends.none k (omega (arith, lt, mapped, long)))
    (ap (reason_from (what_trees whats) count) (slice_get_past whats count (omega (arith, long, also, trees, whole, kept_long)))
    ∙ ap (λ (z : List (Option StmtTree)). reason_of_end (numbered z)) (end_trees own mapped long) ∙ sym (end_same names _ _ c ends.course))
    (ap what_trees front ∙ statement_trees (stmt_trees statements))
  where
    end_trees : IsInFront whats (map stmt_tree (take (length statements) statements)) →
        length (map stmt_tree (take (length statements) statements)) ≡ length (take (length statements) statements) → count ≡ length (take (length statements) statements) →
        take count (what_trees whats) ≡ map Some (map stmt_tree (take (length statements) statements))
    end_trees own mapped long =
        front_trees whats (map stmt_tree (take (length statements) statements)) own.below own.front count (omega (arith, mapped, long))
        ∙ ap (map Some) (take_all count (map stmt_tree (take (length statements) statements)) (omega (arith, mapped, long)))

pub ends_is : (names : Names) (whats : List What) (reading : Reading) (count : ℕ) (c : Course) → IsToldBy whats reading → names ≡ names_of (numbered (what_trees whats)) →
    front_of reading ≤ length reading.statements.items → count ≡ length (take (front_of reading) reading.statements.items) →
    ComesToEnd names (map stmt_tree (take (front_of reading) reading.statements.items)) c →
    IsFirstFaultOf whats (map stmt_tree reading.statements.items) (first_by reading.unread count c)
ends_is names whats reading count c told all le long ends = ends_by names whats reading.statements.items reading.unread count c told.front all le long ends

pub listed_front : (names : Names) (statements : List Stmt) (n : ℕ) → All (λ (st : StmtTree). BeginsListed names st.body) (map stmt_tree statements) →
    All (λ (st : StmtTree). BeginsListed names st.body) (map stmt_tree (take n statements))
listed_front names statements n all =
    subst (All (λ (st : StmtTree). BeginsListed names st.body)) (take-map stmt_tree n statements)
    (All-take (λ (st : StmtTree). BeginsListed names st.body) n (map stmt_tree statements) all)
