-- The reasons of refused boards, which are this profile's.
use Rattle.std.specs.Prelude.{ℕ, List, codes}
use Rattle.board_text.specs.declared.reason.BoardReason.{BoardReason}
use Rattle.board_text.specs.declared.reason.BoardReason.TheVariants as reasons

-- The number of a reason. Of the reasons that hold of a line, that with the smallest number is named.
abbrev pub reason_number : BoardReason → ℕ
reason_number reasons.Form = 1
reason_number reasons.Range = 2
reason_number reasons.Duplicate = 3
reason_number reasons.Misplaced = 4
reason_number reasons.Empty = 5
reason_number reasons.TooMany = 6
reason_number reasons.TooLong = 7

-- the name of a reason, as a refusal's line has it
abbrev pub reason_name : BoardReason → List ℕ
reason_name reasons.Form = codes "Form"
reason_name reasons.Range = codes "Range"
reason_name reasons.Duplicate = codes "Duplicate"
reason_name reasons.Misplaced = codes "Misplaced"
reason_name reasons.Empty = codes "Empty"
reason_name reasons.TooMany = codes "TooMany"
reason_name reasons.TooLong = codes "TooLong"
