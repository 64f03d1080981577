-- A text is at most one program or has one first fault.
use Rattle.std.proofs.Common.{◌≡◌, ◌+◌, ◌≤◌, ◌<◌, ℕ, List, [], ◌∷◌, length, refl, ap, ◌∙◌, Option, None, Some, map, arith, subst, ◌⊎◌, inl, inr}
use Rattle.std.specs.Prelude.{slice_get}
use Rattle.std.proofs.lemmas.Bool.{cases_lt}
use Rattle.stapl_lexer.specs.declared.piece.Piece.{Piece}
use Rattle.stapl_lexer.specs.declared.reason.Reason.{Reason}
use Rattle.stapl_lexer.specs.Pieces.{IsCut}
use Rattle.stapl_lexer.proofs.PieceLemmas.{cut_one_way}
use Rattle.stapl_syntax.specs.Trees.{StmtTree}
use Rattle.stapl_syntax.specs.Programs.{IsReadAs, AreReadAs, line_of_index}
use Rattle.stapl_syntax.specs.Programs.{SmallestReasonAt, NoneBefore, IsProgram, FirstFault, is_too_long, is_first}
use Rattle.stapl_grammar.proofs.LawLemmas.{one_piece_statement}
use Rattle.stapl_syntax.proofs.ReasonLemmas.{one_smallest_reason_at}

one_read : (text : List ℕ) (piece : Piece) (a b : Option StmtTree) → IsReadAs text piece a → IsReadAs text piece b → a ≡ b
one_read text piece None None x y = refl
one_read text piece None (Some t) x y = absurd (x t y)
one_read text piece (Some s) None x y = absurd (y s x)
one_read text piece (Some s) (Some t) x y = ap Some (one_piece_statement text piece s t x y)

read_one_way : (text : List ℕ) (pieces : List Piece) (a b : List (Option StmtTree)) → AreReadAs text pieces a → AreReadAs text pieces b → a ≡ b
read_one_way text [] [] [] x y = refl
read_one_way text [] [] (s ∷ b) x y = absurd y
read_one_way text [] (r ∷ a) b x y = absurd x
read_one_way text (p ∷ ps) [] b x y = absurd x
read_one_way text (p ∷ ps) (r ∷ a) [] x y = absurd y
read_one_way text (p ∷ ps) (r ∷ a) (s ∷ b) x y =
    let first = one_read text p r s x.0 y.0 in
    let rest = read_one_way text ps a b x.1 y.1 in cc

-- the pieces of a text, and what they are
record Reads : Type 0 where
  pieces : List Piece
  read : List (Option StmtTree)

one_way : (text : List ℕ) (ps qs : List Piece) (a b : List (Option StmtTree)) → IsCut text ps → IsCut text qs → AreReadAs text ps a → AreReadAs text qs b →
    ◌≡◌ {A = Reads} (record { pieces = ps; read = a }) (record { pieces = qs; read = b })
one_way text ps qs a b cut also x y =
    let same = cut_one_way text ps qs cut also in
    let reads = read_one_way text qs a b (subst (λ (z : List Piece). AreReadAs text z a) same x) y in cc

-- a reason stands at an index, and none before
record IsFirst (text : List ℕ) (i : ℕ) (reason : Reason) (reads : Reads) : Type 0 where
  here : SmallestReasonAt text reads.read i (slice_get reads.pieces i) reason
  before : NoneBefore text reads.pieces reads.read i

same_index : (text : List ℕ) (reads : Reads) (i j : ℕ) (r s : Reason) → IsFirst text i r reads → IsFirst text j s reads → i ≡ j
same_index text reads i j r s a b = by (cases_lt i j) (cases_lt j i)
  where
    by : (i < j) ⊎ (j ≤ i) → (j < i) ⊎ (i ≤ j) → i ≡ j
    by (inl l) m = absurd (b.before i l r a.here.holds)
    by (inr l) (inl m) = absurd (a.before j m s b.here.holds)
    by (inr l) (inr m) = omega arith

same_reason : (text : List ℕ) (reads : Reads) (i j : ℕ) (r s : Reason) → i ≡ j → IsFirst text i r reads → IsFirst text j s reads → r ≡ s
same_reason text reads i j r s e a b =
    one_smallest_reason_at (subst (λ (k : ℕ). SmallestReasonAt text reads.read k (slice_get reads.pieces k) r) e a.here) b.here

-- where a fault stands, and why
record Fault : Type 0 where
  piece : ℕ
  line : ℕ
  reason : Reason

same_fault : (text : List ℕ) (a b : Reads) (i j : ℕ) (r s : Reason) → a ≡ b → i ≡ j → r ≡ s →
    ◌≡◌ {A = Fault} (record { piece = i + 1; line = line_of_index text a.pieces i; reason = r }) (record { piece = j + 1; line = line_of_index text b.pieces j; reason = s })
same_fault text a b i j r s e f g =
    ap (λ (z : Reads). record { piece = i + 1; line = line_of_index text z.pieces i; reason = r }) e
    ∙ ap (λ (k : ℕ). record { piece = k + 1; line = line_of_index text b.pieces k; reason = r }) f
    ∙ ap (λ (t : Reason). record { piece = j + 1; line = line_of_index text b.pieces j; reason = t }) g

one_fault : {text : List ℕ} {p l q m : ℕ} {r s : Reason} → FirstFault text p l r → FirstFault text q m s →
    ◌≡◌ {A = Fault} (record { piece = p; line = l; reason = r }) (record { piece = q; line = m; reason = s })
one_fault (is_too_long a) (is_too_long b) = refl
one_fault (is_too_long a) (is_first pieces read i reason short cut are within here before) = absurd (omega arith)
one_fault (is_first pieces read i reason short cut are within here before) (is_too_long b) = absurd (omega arith)
one_fault {text = text} (is_first ps a i r short cut are within here before) (is_first qs b j s short' cut' are' within' here' before') =
    let x : Reads = record { pieces = ps; read = a } in
    let y : Reads = record { pieces = qs; read = b } in
    let same : x ≡ y = one_way text ps qs a b cut cut' are are' in
    let first : IsFirst text i r x = record { here = here; before = before } in
    let moved : IsFirst text i r y = subst (IsFirst text i r) same first in
    let other : IsFirst text j s y = record { here = here'; before = before' } in
    let place = same_index text y i j r s moved other in
    same_fault text x y i j r s same place (same_reason text y i j r s place moved other)

pub one_first_fault : (text : List ℕ) (p l q m : ℕ) (r s : Reason) → FirstFault text p l r → FirstFault text q m s → (p ≡ q) × (l ≡ m) × (r ≡ s)
one_first_fault text p l q m r s a b =
    let e = one_fault a b in (ap (λ (z : Fault). z.piece) e, ap (λ (z : Fault). z.line) e, ap (λ (z : Fault). z.reason) e)

-- a program has no fault
pub no_fault : {text : List ℕ} {p l : ℕ} {r : Reason} (statements : List StmtTree) → IsProgram text statements → FirstFault text p l r → ⊥
no_fault statements program (is_too_long a) = let short = program.short in omega arith
no_fault {text = text} statements program (is_first ps a i reason short cut are within here before) =
    let x : Reads = record { pieces = ps; read = a } in
    let y : Reads = record { pieces = program.pieces; read = map Some statements } in
    let same : x ≡ y = one_way text ps program.pieces a (map Some statements) cut program.cut are program.read in
    let long : i ≤ length program.pieces = subst (λ (z : Reads). i ≤ length z.pieces) same within in
    let moved : SmallestReasonAt text (map Some statements) i (slice_get program.pieces i) reason =
    subst (λ (z : Reads). SmallestReasonAt text z.read i (slice_get z.pieces i) reason) same here in
    program.sound i (omega arith) reason moved.holds

-- a text is at most one program
some_back : (a b : List StmtTree) → map Some a ≡ map Some b → a ≡ b
some_back [] [] e = refl
some_back [] (t ∷ b) e = absurd cc
some_back (s ∷ a) [] e = absurd cc
some_back (s ∷ a) (t ∷ b) e =
    let first : s ≡ t = cc in
    let tails : map Some a ≡ map Some b = cc in
    let rest = some_back a b tails in cc

pub one_program : (text : List ℕ) (a b : List StmtTree) → IsProgram text a → IsProgram text b → a ≡ b
one_program text a b x y =
    some_back a b (ap (λ (z : Reads). z.read) (one_way text x.pieces y.pieces (map Some a) (map Some b) x.cut y.cut x.read y.read))
