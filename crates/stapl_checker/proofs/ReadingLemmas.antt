-- A piece more is read.
use Rattle.std.proofs.Common.{◌≡◌, ◌≤◌, ◌<◌, ◌+◌, ℕ, zero, suc, List, [], ◌∷◌, ◌++◌, length, refl, sym, ap, ◌∙◌, Option, None, Some, take, map, get_or, slice_get, subst, arith, false}
use Rattle.std.proofs.lemmas.List.{append-nil, length-append, length-map, length-take-le, map-append, take-append-le, take_more, take_all}
use Rattle.stapl_lexer.specs.declared.piece.Piece.{Piece}
use Rattle.stapl_lexer.specs.declared.reason.Reason.{Reason}
use Rattle.stapl_syntax.specs.declared.statement.Stmt.{Stmt}
use Rattle.stapl_syntax.specs.Trees.{StmtTree, stmt_tree}
use Rattle.stapl_syntax.specs.Names.{Numbered, numbered_from, numbered, with_numbers}
use Rattle.stapl_checker.specs.declared.reading.Read.{Read}
use Rattle.stapl_checker.specs.declared.reading.Read.TheVariants.{Statement, Faulty}
use Rattle.stapl_checker.specs.declared.reading.Unread.{Unread}
use Rattle.stapl_checker.specs.declared.reading.Reading.{Reading}
use Rattle.stapl_checker.specs.Judgements.{What, statement, faulty, IsWhat, AreWhat, what_tree, what_trees}
use Rattle.stapl_checker.specs.Readings.{IsRead, first_unread, Adds, stmt_trees, IsReadFront, IsFrontTo, IsReading}

-- on lists with one item more

module _ {A : Type 0} where
  slice_front : (xs : List A) (x : A) (i : ℕ) → i < length xs → slice_get (xs ++ x ∷ []) i ≡ slice_get xs i
  slice_front [] x i lt = absurd (omega arith)
  slice_front (y ∷ xs) x zero lt = refl
  slice_front (y ∷ xs) x (suc i) lt = slice_front xs x i (omega arith)

  slice_last : (xs : List A) (x : A) → slice_get (xs ++ x ∷ []) (length xs) ≡ Some x
  slice_last [] x = refl
  slice_last (y ∷ xs) x = slice_last xs x

-- on numbers

pub numbered_snoc : (n : ℕ) (read : List (Option StmtTree)) (o : Option StmtTree) →
    numbered_from n (read ++ o ∷ []) ≡ numbered_from n read ++ numbered_from (n + length read) (o ∷ [])
numbered_snoc n [] o = let e : n ≡ n + 0 = omega arith in ap (λ (k : ℕ). numbered_from k (o ∷ [])) e
numbered_snoc n (None ∷ read) o =
    let e : n + 1 + length read ≡ n + suc (length read) = omega arith in
    numbered_snoc (n + 1) read o ∙ ap (λ (k : ℕ). numbered_from (n + 1) read ++ numbered_from k (o ∷ [])) e
numbered_snoc n (Some st ∷ read) o =
    let e : n + 1 + length read ≡ n + suc (length read) = omega arith in
    ap (λ (z : List Numbered). record { piece = n; statement = st } ∷ z)
    (numbered_snoc (n + 1) read o ∙ ap (λ (k : ℕ). numbered_from (n + 1) read ++ numbered_from k (o ∷ [])) e)

with_snoc : (ns : List ℕ) (sts : List StmtTree) (n : ℕ) (st : StmtTree) → length ns ≡ length sts →
    with_numbers (ns ++ n ∷ []) (sts ++ st ∷ []) ≡ with_numbers ns sts ++ record { piece = n; statement = st } ∷ []
with_snoc [] [] n st e = refl
with_snoc [] (t ∷ sts) n st e = absurd (omega (arith, e))
with_snoc (m ∷ ns) [] n st e = absurd (omega (arith, e))
with_snoc (m ∷ ns) (t ∷ sts) n st e = ap (λ (z : List Numbered). record { piece = m; statement = t } ∷ z) (with_snoc ns sts n st (omega (arith, e)))

-- what pieces are

are_more : (text : List ℕ) (pieces : List Piece) (whats : List What) (piece : Piece) (w : What) → AreWhat text pieces whats → IsWhat text piece w →
    AreWhat text (pieces ++ piece ∷ []) (whats ++ w ∷ [])
are_more text [] [] piece w a s = (s, tt)
are_more text [] (q ∷ whats) piece w a s = absurd a
are_more text (p ∷ pieces) [] piece w a s = absurd a
are_more text (p ∷ pieces) (q ∷ whats) piece w a s = (a.0, are_more text pieces whats piece w a.1 s)

pub as_long : (text : List ℕ) (pieces : List Piece) (whats : List What) → AreWhat text pieces whats → length whats ≡ length pieces
as_long text [] [] a = refl
as_long text [] (w ∷ whats) a = absurd a
as_long text (p ∷ pieces) [] a = absurd a
as_long text (p ∷ pieces) (w ∷ whats) a = let h = as_long text pieces whats a.1 in cc

-- the front stays if a piece stands after it
front_stays : (whats : List What) (sts : List StmtTree) (w : What) (t : StmtTree) (u : Unread) → IsReadFront whats sts u → IsReadFront (whats ++ w ∷ []) (sts ++ t ∷ []) u
front_stays whats sts w t u front =
    let long = length-append whats (w ∷ []) in
    let longer = length-append sts (t ∷ []) in
    let below = front.below in
    let enough = front.enough in
    record {
      below = omega (arith, below, long);
      enough = omega (arith, enough, longer);
      front = take-append-le u.index whats (w ∷ []) (omega (arith, below)) ∙ front.front ∙ ap (map statement) (sym (take-append-le u.index sts (t ∷ []) enough));
      here = slice_front whats w u.index below ∙ front.here;
    }

front_stays_faulty : (whats : List What) (sts : List StmtTree) (w : What) (u : Unread) → IsReadFront whats sts u → IsReadFront (whats ++ w ∷ []) sts u
front_stays_faulty whats sts w u front =
    let long = length-append whats (w ∷ []) in
    let below = front.below in
    record {
      below = omega (arith, below, long);
      enough = front.enough;
      front = take-append-le u.index whats (w ∷ []) (omega (arith, below)) ∙ front.front;
      here = slice_front whats w u.index below ∙ front.here;
    }

front_with : (whats : List What) (sts : List StmtTree) (t : StmtTree) (unread : Option Unread) → IsFrontTo whats sts unread →
    IsFrontTo (whats ++ statement t ∷ []) (sts ++ t ∷ []) unread
front_with whats sts t None front = ap (λ (z : List What). z ++ statement t ∷ []) front ∙ sym (map-append statement sts (t ∷ []))
front_with whats sts t (Some u) front = front_stays whats sts (statement t) t u front

front_without : (whats : List What) (sts : List StmtTree) (i : ℕ) (reason : Reason) (unread : Option Unread) → length whats ≡ i → IsFrontTo whats sts unread →
    IsFrontTo (whats ++ faulty reason ∷ []) sts (first_unread unread (record { index = i; reason = reason }))
front_without whats sts i reason None at front =
    let long = length-append whats (faulty reason ∷ []) in
    let mapped = length-map sts statement in
    let same : length whats ≡ length (map statement sts) = ap length front in
    let all : length sts ≤ i = omega (arith, at, mapped, same) in
    record {
      below = omega (arith, long, at);
      enough = omega (arith, at, mapped, same);
      front = take-append-le i whats (faulty reason ∷ []) (omega (arith, at)) ∙ take_all i whats (omega (arith, at)) ∙ front ∙ ap (map statement) (sym (take_all i sts all));
      here = ap (slice_get (whats ++ faulty reason ∷ [])) (sym at) ∙ slice_last whats (faulty reason);
    }
front_without whats sts i reason (Some u) at front = front_stays_faulty whats sts (faulty reason) u front

-- one more piece
added : (text : List ℕ) (pieces : List Piece) (i : ℕ) (piece : Piece) (read : Read) (old new : Reading) → length pieces ≡ i → IsReading text pieces old →
    IsRead text piece read → Adds i read old new → IsReading text (pieces ++ piece ∷ []) new
added text pieces i piece (Statement st) old new at is one adds =
    let tree = stmt_tree st in
    let long = as_long text pieces is.whats is.are in
    let mapped = length-map is.whats what_tree in
    let numbers : 1 + length (what_trees is.whats) ≡ i + 1 = omega (arith, mapped, long, at) in
    let many = is.told.as_many in
    let trees = length-map old.statements.items stmt_tree in
    let own = length-append old.numbers.items ((i + 1) ∷ []) in
    let also = length-append old.statements.items (st ∷ []) in
    let a = ap length adds.0 in
    let b = ap length adds.1.0 in
    record {
      whats = is.whats ++ statement tree ∷ [];
      are = are_more text pieces is.whats piece (statement tree) is.are one;
      told = record {
        same =
            ap numbered (map-append what_tree is.whats (statement tree ∷ [])) ∙ numbered_snoc 1 (what_trees is.whats) (Some tree)
            ∙ ap (λ (z : List Numbered). z ++ record { piece = 1 + length (what_trees is.whats); statement = tree } ∷ []) is.told.same
            ∙ ap (λ (k : ℕ). with_numbers old.numbers.items (stmt_trees old.statements.items) ++ record { piece = k; statement = tree } ∷ []) numbers
            ∙ sym (with_snoc old.numbers.items (stmt_trees old.statements.items) (i + 1) tree (omega (arith, many, trees)))
            ∙ sym (ap (λ (z : List StmtTree). with_numbers (old.numbers.items ++ (i + 1) ∷ []) z) (map-append stmt_tree old.statements.items (st ∷ [])))
            ∙ sym (ap (λ (z : List ℕ). with_numbers z (stmt_trees (old.statements.items ++ st ∷ []))) adds.0)
            ∙ sym (ap (λ (z : List Stmt). with_numbers new.numbers.items (stmt_trees z)) adds.1.0);
        as_many = omega (arith, a, b, own, also, many);
        front =
            subst (λ (z : List Stmt). IsFrontTo (is.whats ++ statement tree ∷ []) (stmt_trees z) new.unread) (sym adds.1.0)
            (subst (λ (z : List StmtTree). IsFrontTo (is.whats ++ statement tree ∷ []) z new.unread) (sym (map-append stmt_tree old.statements.items (st ∷ [])))
            (subst (IsFrontTo (is.whats ++ statement tree ∷ []) (stmt_trees old.statements.items ++ tree ∷ [])) (sym adds.1.1)
            (front_with is.whats (stmt_trees old.statements.items) tree old.unread is.told.front)));
      };
    }
added text pieces i piece (Faulty reason) old new at is one adds =
    let long = as_long text pieces is.whats is.are in
    let many = is.told.as_many in
    let a = ap length adds.0 in
    let b = ap length adds.1.0 in
    record {
      whats = is.whats ++ faulty reason ∷ [];
      are = are_more text pieces is.whats piece (faulty reason) is.are one;
      told = record {
        same =
            ap numbered (map-append what_tree is.whats (faulty reason ∷ [])) ∙ numbered_snoc 1 (what_trees is.whats) None
            ∙ append-nil (numbered (what_trees is.whats)) ∙ is.told.same
            ∙ sym (ap (λ (z : List ℕ). with_numbers z (stmt_trees old.statements.items)) adds.0)
            ∙ sym (ap (λ (z : List Stmt). with_numbers new.numbers.items (stmt_trees z)) adds.1.0);
        as_many = omega (arith, a, b, many);
        front =
            subst (λ (z : List Stmt). IsFrontTo (is.whats ++ faulty reason ∷ []) (stmt_trees z) new.unread) (sym adds.1.0)
            (subst (IsFrontTo (is.whats ++ faulty reason ∷ []) (stmt_trees old.statements.items)) (sym adds.1.1)
            (front_without is.whats (stmt_trees old.statements.items) i reason old.unread (long ∙ at) is.told.front));
      };
    }

-- what a list of pieces gives past its end
abbrev pub no_piece : Piece
no_piece = record { start = 0; end = 0; line = 0; closed = false }

pub reading_more : (text : List ℕ) (pieces : List Piece) (i : ℕ) (piece d : Piece) (read : Read) (old new : Reading) → i < length pieces → piece ≡ get_or pieces i d →
    IsReading text (take i pieces) old → IsRead text piece read → Adds i read old new → IsReading text (take (i + 1) pieces) new
reading_more text pieces i piece d read old new below is so_far one adds =
    subst (λ (z : List Piece). IsReading text z new) (sym (take_more pieces i d below))
    (added text (take i pieces) i (get_or pieces i d) read old new (length-take-le i pieces (omega arith)) so_far (subst (λ (p : Piece). IsRead text p read) is one) adds)

-- how many statements there are

numbered_few : (n : ℕ) (read : List (Option StmtTree)) → length (numbered_from n read) ≤ length read
numbered_few n [] = omega arith
numbered_few n (None ∷ read) = let le = numbered_few (n + 1) read in omega (arith, le)
numbered_few n (Some st ∷ read) = let le = numbered_few (n + 1) read in omega (arith, le)

with_long : (ns : List ℕ) (sts : List StmtTree) → length ns ≡ length sts → length (with_numbers ns sts) ≡ length sts
with_long [] [] e = refl
with_long [] (t ∷ sts) e = absurd (omega (arith, e))
with_long (n ∷ ns) [] e = absurd (omega (arith, e))
with_long (n ∷ ns) (t ∷ sts) e = let h = with_long ns sts (omega (arith, e)) in omega (arith, h)

pub few_statements : (text : List ℕ) (pieces : List Piece) (reading : Reading) → IsReading text pieces reading → length reading.statements.items ≤ length pieces
few_statements text pieces reading is =
    let long = as_long text pieces is.whats is.are in
    let mapped = length-map is.whats what_tree in
    let few = numbered_few 1 (what_trees is.whats) in
    let same = ap length is.told.same in
    let many = is.told.as_many in
    let trees = length-map reading.statements.items stmt_tree in
    let whole = with_long reading.numbers.items (stmt_trees reading.statements.items) (omega (arith, many, trees)) in
    omega (arith, long, mapped, few, same, trees, whole)
