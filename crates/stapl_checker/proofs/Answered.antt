-- Each text is a program or has a first fault.
use Rattle.std.proofs.Common.{◌≡◌, ◌≤◌, ◌<◌, ◌+◌, ℕ, zero, suc, Bool, true, false, nat_le, if◌then◌else◌, List, [], ◌∷◌, length, refl, sym, ap, ◌∙◌, Option, None, Some, map, arith, ◌⊎◌, inl, inr}
use Rattle.std.specs.Prelude.{slice_get, All}
use Rattle.std.proofs.lemmas.Bool.{cases_lt}
use Rattle.std.proofs.lemmas.List.Elements.{All-head, All-tail}
use Rattle.stapl_lexer.specs.declared.piece.Piece.{Piece}
use Rattle.stapl_lexer.specs.declared.reason.Reason.{Reason}
use Rattle.stapl_lexer.specs.declared.reason.Reason.TheVariants as reasons
use Rattle.stapl_lexer.specs.Pieces.{IsCut, LiesIn, text_limit}
use Rattle.stapl_lexer.proofs.Existence.{cut_exists}
use Rattle.stapl_lexer.proofs.PieceLemmas.{cut_lies}
use Rattle.stapl_syntax.specs.Trees.{StmtTree}
use Rattle.stapl_syntax.specs.Statements.{IsPieceStatement}
use Rattle.stapl_syntax.specs.Reasons.{SmallestReason}
use Rattle.stapl_syntax.specs.Programs.{piece_limit, line_of_index}
use Rattle.stapl_syntax.specs.Programs.{IsProgram, FirstFault, is_too_long}
use Rattle.stapl_grammar.proofs.Answered.{answered}
use Rattle.stapl_checker.specs.Judgements.{What, statement, faulty, IsWhat, AreWhat, what_trees, unless_late, reason_from, reason_at}
use Rattle.stapl_checker.proofs.TextLemmas.{fault_is, program_is}

what_of : (text : List ℕ) (piece : Piece) → ((st : StmtTree) × IsPieceStatement text piece st) ⊎ ((reason : Reason) × SmallestReason text piece reason) →
    (w : What) × IsWhat text piece w
what_of text piece (inl found) = (statement found.0, found.1)
what_of text piece (inr found) = (faulty found.0, found.1)

all_what : (text : List ℕ) (pieces : List Piece) → All (LiesIn text) pieces → (whats : List What) × AreWhat text pieces whats
all_what text [] lie = ([], tt)
all_what text (p ∷ ps) lie =
    let own = All-head (LiesIn text) p ps lie in
    let one = what_of text p (answered text p own.ordered own.within) in
    let rest = all_what text ps (All-tail (LiesIn text) p ps lie) in
    (one.0 ∷ rest.0, (one.1, rest.1))

-- the first index before n at which a reason stands, or none
module _ (whats : List What) where
  record FoundBefore (n : ℕ) : Type 0 where
    index : ℕ
    reason : Reason
    below : index < n
    here : reason_at whats index ≡ Some reason
    before : (k : ℕ) → k < index → reason_at whats k ≡ None

  abbrev NoneBefore : ℕ → Type 0
  NoneBefore n = (k : ℕ) → k < n → reason_at whats k ≡ None

  search_more : (n : ℕ) → FoundBefore n ⊎ NoneBefore n → (o : Option Reason) → reason_at whats n ≡ o → FoundBefore (n + 1) ⊎ NoneBefore (n + 1)
  search_more n (inl found) o e =
      let below = found.below in
      inl (record { index = found.index; reason = found.reason; below = omega (arith, below); here = found.here; before = found.before })
  search_more n (inr none) (Some reason) e = inl (record { index = n; reason = reason; below = omega arith; here = e; before = none })
  search_more n (inr none) None e = inr (λ k lt. by k lt (cases_lt k n))
    where
      by : (k : ℕ) → k < n + 1 → (k < n) ⊎ (n ≤ k) → reason_at whats k ≡ None
      by k lt (inl l) = none k l
      by k lt (inr ge) = let same : k ≡ n = omega arith in ap (reason_at whats) same ∙ e

  first_before : (n : ℕ) → FoundBefore n ⊎ NoneBefore n
  first_before zero = inr (λ k lt. absurd (omega arith))
  first_before (suc n) = up (search_more n (first_before n) (reason_at whats n) refl)
    where
      up : FoundBefore (n + 1) ⊎ NoneBefore (n + 1) → FoundBefore (suc n) ⊎ NoneBefore (suc n)
      up (inl found) =
          let below = found.below in
          inl (record { index = found.index; reason = found.reason; below = omega (arith, below); here = found.here; before = found.before })
      up (inr none) = inr (λ k lt. none k (omega (arith, lt)))

-- pieces without a reason are statements

late_or : (i : ℕ) (reason : Reason) → unless_late i (Some reason) ≡ None → ⊥
late_or i reason e = by (nat_le piece_limit i) e
  where
    by : (b : Bool) → (if b then Some reasons.TooManyPieces else Some reason) ≡ None → ⊥
    by true h = cc
    by false h = cc

all_trees : (rest : List What) → ((i : ℕ) (reason : Reason) → slice_get rest i ≡ Some (faulty reason) → ⊥) →
    (statements : List StmtTree) × (what_trees rest ≡ map Some statements)
all_trees [] never = ([], refl)
all_trees (statement st ∷ rest) never =
    let more = all_trees rest (λ i reason e. never (suc i) reason e) in
    (st ∷ more.0, ap (λ (z : List (Option StmtTree)). Some st ∷ z) more.1)
all_trees (faulty reason ∷ rest) never = absurd (never 0 reason refl)

below_length : (whats : List What) (i : ℕ) (w : What) → slice_get whats i ≡ Some w → i < length whats
below_length [] i w e = absurd cc
below_length (v ∷ whats) zero w e = omega arith
below_length (v ∷ whats) (suc i) w e = let lt = below_length whats i w e in omega (arith, lt)

-- a program, or a fault
abbrev Verdict : List ℕ → Type 0
Verdict text = ((statements : List StmtTree) × IsProgram text statements) ⊎ ((piece : ℕ) × (line : ℕ) × (reason : Reason) × FirstFault text piece line reason)

module _ (text : List ℕ) (pieces : List Piece) (whats : List What) (short : length text ≤ text_limit) (cut : IsCut text pieces) (are : AreWhat text pieces whats) where
  by_first : FoundBefore whats (length whats + 1) ⊎ NoneBefore whats (length whats + 1) → Verdict text
  by_first (inl found) =
      let below = found.below in
      inr (
        found.index + 1,
        line_of_index text pieces found.index,
        found.reason,
        fault_is text pieces whats found.index found.reason short cut are
            (record { within = omega (arith, below); here = found.here; before = found.before }),
      )
  by_first (inr none) =
      let trees = all_trees whats (λ i reason e.
      let lt = below_length whats i (faulty reason) e in
      late_or i reason (sym (ap (reason_from (what_trees whats) i) e) ∙ none i (omega (arith, lt)))) in
      inl (trees.0, program_is text pieces whats trees.0 short cut are (record { none = λ k le. none k (omega (arith, le)) }) trees.1)

by_length : (text : List ℕ) → (text_limit < length text) ⊎ (length text ≤ text_limit) → Verdict text
by_length text (inl long) = inr (0, 0, reasons.TooLong, is_too_long long)
by_length text (inr short) =
    let pieces = cut_exists text in
    let whats = all_what text pieces.0 (cut_lies text pieces.0 pieces.1) in
    by_first text pieces.0 whats.0 short pieces.1 whats.1 (first_before whats.0 (length whats.0 + 1))

pub program_or_fault : (text : List ℕ) → ((statements : List StmtTree) × IsProgram text statements)
    ⊎ ((piece : ℕ) × (line : ℕ) × (reason : Reason) × FirstFault text piece line reason)
program_or_fault text = by_length text (cases_lt text_limit (length text))
