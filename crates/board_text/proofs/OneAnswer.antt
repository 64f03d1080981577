-- A text has at most one answer: it is a board of certain devices, or has one first fault.
use Rattle.std.proofs.Common.{◌≡◌, ◌+◌, ℕ, List, sym, ap, subst, ◌∙◌, arith, inl, inr}
use Rattle.std.specs.Str.Lines.{lines}
use Rattle.std.proofs.lemmas.Bool.{cases_order}
use Rattle.dev_card.specs.declared.desc.Desc.{Desc}
use Rattle.board_text.specs.declared.reason.BoardReason.{BoardReason}
use Rattle.board_text.specs.Reasons.{reason_number}
use Rattle.board_text.specs.Boards.{HasReasonAt, IsSmallest, IsUnfinished, IsBoard, IsFaultyLine, IsFirstFault}
use Rattle.board_text.proofs.ReasonLemmas.{reason_with, told}

one_smallest : (Holds : BoardReason → Type 0) (r s : BoardReason) → IsSmallest Holds r → IsSmallest Holds s → r ≡ s
one_smallest Holds r s a b =
    let same : reason_number r ≡ reason_number s = omega (arith, a.smallest s b.holds, b.smallest r a.holds) in
    sym (told r) ∙ ap reason_with same ∙ told s

pub one_board : (text : List ℕ) (a b : List Desc) → IsBoard text a → IsBoard text b → a ≡ b
one_board text a b x y = x.described ∙ sym y.described

same_place : (text : List ℕ) (m n : ℕ) (r s : BoardReason) (a : IsFaultyLine text m r) (b : IsFaultyLine text n s) → a.before ≡ b.before → (m ≡ n) × (r ≡ s)
same_place text m n r s a b e =
    let moved : IsSmallest (HasReasonAt (lines text) a.before) s = subst (λ (k : ℕ). IsSmallest (HasReasonAt (lines text) k) s) (sym e) b.reason_is in
    (a.line_is ∙ ap (λ (k : ℕ). k + 1) e ∙ sym b.line_is, one_smallest (HasReasonAt (lines text) a.before) r s a.reason_is moved)

one_faulty_line : (text : List ℕ) (m n : ℕ) (r s : BoardReason) → IsFaultyLine text m r → IsFaultyLine text n s → (m ≡ n) × (r ≡ s)
one_faulty_line text m n r s a b = elim (cases_order a.before b.before) [
  | inl e ↦ same_place text m n r s a b e
  | inr (inl lt) ↦ absurd (b.faultless a.before lt r a.reason_is.holds)
  | inr (inr gt) ↦ absurd (a.faultless b.before gt s b.reason_is.holds)
]

pub one_first_fault : (text : List ℕ) (m n : ℕ) (r s : BoardReason) → IsFirstFault text m r → IsFirstFault text n s → (m ≡ n) × (r ≡ s)
one_first_fault text m n r s (inl a) (inl b) = (a.line_is ∙ sym b.line_is, a.reason_is ∙ sym b.reason_is)
one_first_fault text m n r s (inl a) (inr (inl b)) = absurd (omega (arith, a.long, b.short))
one_first_fault text m n r s (inl a) (inr (inr b)) = absurd (omega (arith, a.long, b.short))
one_first_fault text m n r s (inr (inl a)) (inl b) = absurd (omega (arith, a.short, b.long))
one_first_fault text m n r s (inr (inl a)) (inr (inl b)) = one_faulty_line text m n r s a b
one_first_fault text m n r s (inr (inl a)) (inr (inr b)) = absurd (b.faultless a.before a.inside r a.reason_is.holds)
one_first_fault text m n r s (inr (inr a)) (inl b) = absurd (omega (arith, a.short, b.long))
one_first_fault text m n r s (inr (inr a)) (inr (inl b)) = absurd (a.faultless b.before b.inside s b.reason_is.holds)
one_first_fault text m n r s (inr (inr a)) (inr (inr b)) = (a.line_is ∙ sym b.line_is, a.reason_is ∙ sym b.reason_is)

pub no_board_has_a_fault : (text : List ℕ) (devices : List Desc) (n : ℕ) (r : BoardReason) → IsBoard text devices → IsFirstFault text n r → ⊥
no_board_has_a_fault text devices n r board (inl a) = omega (arith, a.long, board.short)
no_board_has_a_fault text devices n r board (inr (inl a)) = board.faultless a.before a.inside r a.reason_is.holds
no_board_has_a_fault text devices n r board (inr (inr a)) = board.finished (subst IsUnfinished (sym board.described) a.unfinished)
