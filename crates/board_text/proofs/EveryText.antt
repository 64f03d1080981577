-- Each text is a board or has a first fault: each reason holds of a line or not, so a line has a smallest reason or
-- none, and so on line by line.
use Rattle.std.proofs.Common.{◌≡◌, ◌<◌, ◌≤◌, ◌+◌, ℕ, zero, suc, List, [], length, take, get_or, refl, sym, ap, subst, ◌∙◌, Bool, true, false, Option, Some, None, arith, ◌⊎◌, inl, inr}
use Rattle.std.specs.Prelude.{IsSomeAnd, ◌≢◌}
use Rattle.std.specs.Str.{bytes_eq}
use Rattle.std.specs.Str.Lines.{lines}
use Rattle.std.proofs.lemmas.Bool.{cases_lt, false≢true}
use Rattle.std.proofs.lemmas.Slice.Eq.{bytes_eq-Decides}
use borrow.Author.Count.{below_more}
use Rattle.dev_card.specs.Board.{most_devices}
use Rattle.dev_card.specs.declared.desc.RegDesc.{RegDesc}
use Rattle.dev_card.specs.declared.desc.Desc.{Desc}
use Rattle.dev_card.specs.Descriptions.{opcodes_of}
use Rattle.board_text.specs.declared.reason.BoardReason.{BoardReason}
use Rattle.board_text.specs.declared.reason.BoardReason.TheVariants as reasons
use Rattle.board_text.specs.Reasons.{reason_number}
use Rattle.board_text.specs.Lines.{words_of, is_skipped}
use Rattle.board_text.specs.Contents.{DeviceLine, RegisterLine, Content, device, register, line_content}
use Rattle.board_text.specs.Limits.{IsDeviceInRange, IsRegisterInRange}
use Rattle.board_text.specs.Boards.{most_bytes, most_registers, open_device, devices_of, HasName, HasRegisterName, AwaitsRegister, RepeatsInBoard, RepeatsInDevice, IfSays, ReasonAgainst, HasReasonAt, IsSmallest, AreFaultless, IsUnfinished, IsBoard, IsFirstFault}
use Rattle.board_text.proofs.Decisions.{IsDecided, not_or_yes, either_or_not, at_most_or_not, some_and_or_not, none_or_not, nil_or_not, any_or_not, contains_or_not, pairs_or_not, differs_or_not}
use Rattle.board_text.proofs.RangeLemmas.{device_in_range_or_not, register_in_range_or_not}
use Rattle.board_text.proofs.ReasonLemmas.{reason_with, told, number_with}

no_or_not : IsDecided ⊥
no_or_not = inr (λ h. h)

-- names
same_bytes : (a b : List ℕ) (same : Bool) → bytes_eq a b ≡ same → IsDecided (a ≡ b)
same_bytes a b true e = inl ((bytes_eq-Decides a b).0 e)
same_bytes a b false e = inr (λ h. false≢true (sym e ∙ (bytes_eq-Decides a b).1 h))

same_or_not : (a b : List ℕ) → IsDecided (a ≡ b)
same_or_not a b = same_bytes a b (bytes_eq a b) refl

awaits_or_not : (earlier : List Desc) → IsDecided (AwaitsRegister earlier)
awaits_or_not earlier = some_and_or_not (open_device earlier) (λ (d : Desc). d.registers ≡ []) (λ d. nil_or_not d.registers)

repeats_in_board_or_not : (earlier : List Desc) (d : Desc) → IsDecided (RepeatsInBoard earlier d)
repeats_in_board_or_not earlier d =
    either_or_not (any_or_not (HasName d.name) (λ e. same_or_not e.name d.name) earlier) (not_or_yes (pairs_or_not ◌≢◌ differs_or_not (opcodes_of d)))

repeats_in_device_or_not : (r : RegDesc) (d : Desc) → IsDecided (RepeatsInDevice r d)
repeats_in_device_or_not r d = either_or_not (any_or_not (HasRegisterName r.name) (λ s. same_or_not s.name r.name) d.registers) (contains_or_not (opcodes_of d) r.op)

-- what a line says
says_or_not : (content : Option Content) (P : DeviceLine → Type 0) (Q : RegisterLine → Type 0) → ((l : DeviceLine) → IsDecided (P l)) →
    ((l : RegisterLine) → IsDecided (Q l)) → IsDecided (IfSays content P Q)
says_or_not None P Q p q = no_or_not
says_or_not (Some (device l)) P Q p q = p l
says_or_not (Some (register l)) P Q p q = q l

-- each reason holds of a line or not
reason_or_not : (earlier : List Desc) (content : Option Content) (reason : BoardReason) → IsDecided (ReasonAgainst earlier content reason)
reason_or_not earlier content reasons.Form = none_or_not content
reason_or_not earlier content reasons.Range =
    says_or_not content (λ l. ¬ IsDeviceInRange l) (λ l. ¬ IsRegisterInRange (open_device earlier) l)
    (λ l. not_or_yes (device_in_range_or_not l)) (λ l. not_or_yes (register_in_range_or_not (open_device earlier) l))
reason_or_not earlier content reasons.Duplicate =
    says_or_not content (λ l. RepeatsInBoard earlier l.description) (λ l. IsSomeAnd (open_device earlier) (RepeatsInDevice l.description))
    (λ l. repeats_in_board_or_not earlier l.description) (λ l. some_and_or_not (open_device earlier) (RepeatsInDevice l.description) (repeats_in_device_or_not l.description))
reason_or_not earlier content reasons.Misplaced = says_or_not content (λ _. ⊥) (λ _. open_device earlier ≡ None) (λ _. no_or_not) (λ _. none_or_not (open_device earlier))
reason_or_not earlier content reasons.Empty = says_or_not content (λ _. AwaitsRegister earlier) (λ _. ⊥) (λ _. awaits_or_not earlier) (λ _. no_or_not)
reason_or_not earlier content reasons.TooMany =
    says_or_not content (λ _. most_devices ≤ length earlier) (λ _. IsSomeAnd (open_device earlier) (λ (d : Desc). most_registers ≤ length d.registers))
    (λ _. at_most_or_not most_devices (length earlier))
    (λ _. some_and_or_not (open_device earlier) (λ (d : Desc). most_registers ≤ length d.registers) (λ d. at_most_or_not most_registers (length d.registers)))
reason_or_not earlier content reasons.TooLong = no_or_not

-- of the line at a place
here_at : (ls : List (List ℕ)) (at : ℕ) (skipped : Bool) (reason : BoardReason) → is_skipped (get_or ls at []) ≡ skipped → IsDecided (HasReasonAt ls at reason)
here_at ls at true reason e = inr (λ h. false≢true (sym h.not_skipped ∙ e))
here_at ls at false reason e = elim (reason_or_not (devices_of (take at ls)) (line_content (words_of (get_or ls at []))) reason) [
  | inl holds ↦ inl (record { not_skipped = e; holds = holds })
  | inr not ↦ inr (λ h. not h.holds)
]

here_or_not : (ls : List (List ℕ)) (at : ℕ) (reason : BoardReason) → IsDecided (HasReasonAt ls at reason)
here_or_not ls at reason = here_at ls at (is_skipped (get_or ls at [])) reason refl

-- each number is 1 to 7
number_some : (reason : BoardReason) → 0 < reason_number reason
number_some reasons.Form = omega arith
number_some reasons.Range = omega arith
number_some reasons.Duplicate = omega arith
number_some reasons.Misplaced = omega arith
number_some reasons.Empty = omega arith
number_some reasons.TooMany = omega arith
number_some reasons.TooLong = omega arith

number_below : (reason : BoardReason) → reason_number reason ≤ 7
number_below reasons.Form = omega arith
number_below reasons.Range = omega arith
number_below reasons.Duplicate = omega arith
number_below reasons.Misplaced = omega arith
number_below reasons.Empty = omega arith
number_below reasons.TooMany = omega arith
number_below reasons.TooLong = omega arith

-- a line has a smallest reason, or none with a number up to n
abbrev IsJudgedUpTo : ℕ → (BoardReason → Type 0) → Type 0
IsJudgedUpTo n Holds = ((reason : BoardReason) × IsSmallest Holds reason) ⊎ ((reason : BoardReason) → reason_number reason ≤ n → ¬ Holds reason)

judged_more : (n : ℕ) (Holds : BoardReason → Type 0) → ((reason : BoardReason) → IsDecided (Holds reason)) → n < 7 → ((reason : BoardReason) → reason_number reason ≤ n → ¬ Holds reason) →
    IsJudgedUpTo (suc n) Holds
judged_more n Holds decide lt none =
    let r : BoardReason = reason_with (suc n) in
    let number : reason_number r ≡ suc n = number_with n lt in
    elim (decide r) [
      | inl holds ↦ inl (r, record { holds = holds; smallest = λ other h. elim (cases_lt n (reason_number other)) [ inl more ↦ omega arith | inr le ↦ absurd (none other le h) ] })
      | inr not ↦ inr (λ other less h. elim (cases_lt n (reason_number other)) [
        | inr le ↦ none other le h
        | inl more ↦
            let same : reason_number other ≡ suc n = omega arith in
            not (subst Holds (sym (told other) ∙ ap reason_with same) h)
      ])
    ]

judged_up_to : (n : ℕ) (Holds : BoardReason → Type 0) → ((reason : BoardReason) → IsDecided (Holds reason)) → n ≤ 7 → IsJudgedUpTo n Holds
judged_up_to zero Holds decide le = inr (λ reason less. absurd (omega (arith, number_some reason)))
judged_up_to (suc n) Holds decide le = elim (judged_up_to n Holds decide (omega arith)) [
  | inl found ↦ inl found
  | inr none ↦ judged_more n Holds decide (omega arith) none
]

-- a faulty line among the first n lines, and none before it
record FaultyLine (ls : List (List ℕ)) (n : ℕ) : Type 0 where
  at : ℕ
  reason : BoardReason
  inside : at < n
  faultless : AreFaultless ls at
  smallest : IsSmallest (HasReasonAt ls at) reason

next_line : (ls : List (List ℕ)) (n : ℕ) → AreFaultless ls n → FaultyLine ls (suc n) ⊎ AreFaultless ls (suc n)
next_line ls n f = elim (judged_up_to 7 (HasReasonAt ls n) (here_or_not ls n) (omega arith)) [
  | inl found ↦ inl (record { at = n; reason = found.0; inside = omega arith; faultless = f; smallest = found.1 })
  | inr none ↦ inr (λ at lt. below_more (λ (k : ℕ). (reason : BoardReason) → ¬ HasReasonAt ls k reason) n f (λ reason h. none reason (number_below reason) h) at (omega arith))
]

first_faulty_line : (ls : List (List ℕ)) (n : ℕ) → FaultyLine ls n ⊎ AreFaultless ls n
first_faulty_line ls zero = inr (λ at lt. absurd (omega arith))
first_faulty_line ls (suc n) = elim (first_faulty_line ls n) [
  | inl f ↦
      let inside = f.inside in
      inl (record { at = f.at; reason = f.reason; inside = omega arith; faultless = f.faultless; smallest = f.smallest })
  | inr f ↦ next_line ls n f
]

-- the answer to a text
abbrev pub HasAnswer : List ℕ → Type 0
HasAnswer text = ((devices : List Desc) × IsBoard text devices) ⊎ ((line : ℕ) × (reason : BoardReason) × IsFirstFault text line reason)

unfinished_or_not : (devices : List Desc) → IsDecided (IsUnfinished devices)
unfinished_or_not devices = either_or_not (nil_or_not devices) (awaits_or_not devices)

faultless_text : (text : List ℕ) → length text ≤ most_bytes → AreFaultless (lines text) (length (lines text)) → HasAnswer text
faultless_text text short f = elim (unfinished_or_not (devices_of (lines text))) [
  | inl unfinished ↦
      inr (length (lines text) + 1, reasons.Empty, inr (inr (record { short = short; faultless = f; unfinished = unfinished; line_is = refl; reason_is = refl })))
  | inr finished ↦ inl (devices_of (lines text), record { short = short; faultless = f; described = refl; finished = finished })
]

pub every_text : (text : List ℕ) → HasAnswer text
every_text text = elim (cases_lt most_bytes (length text)) [
  | inl long ↦ inr (0, reasons.TooLong, inl (record { long = long; line_is = refl; reason_is = refl }))
  | inr short ↦ elim (first_faulty_line (lines text) (length (lines text))) [
    | inl f ↦ inr (
      f.at + 1,
      f.reason,
      inr (inl (record { short = short; before = f.at; line_is = refl; inside = f.inside; faultless = f.faultless; reason_is = f.smallest })),
    )
    | inr f ↦ faultless_text text short f
  ]
]
