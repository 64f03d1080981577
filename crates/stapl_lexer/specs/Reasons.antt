-- The reasons of refusals, which are this profile's.
use Rattle.std.specs.Prelude.{ℕ, List, codes}
use Rattle.stapl_lexer.specs.declared.reason.Reason.{Reason}
use Rattle.stapl_lexer.specs.declared.reason.Reason.TheVariants as reasons

-- The number of a reason. Of the reasons that hold of a piece, that with the smallest number is named.
abbrev pub reason_number : Reason → ℕ
reason_number reasons.TooManyPieces = 1
reason_number reasons.Unterminated = 2
reason_number reasons.BadByte = 3
reason_number reasons.OpenString = 4
reason_number reasons.Compressed = 5
reason_number reasons.NameTooLong = 6
reason_number reasons.NumberTooLarge = 7
reason_number reasons.TooDeep = 8
reason_number reasons.UnknownStatement = 9
reason_number reasons.Unsupported = 10
reason_number reasons.Syntax = 11
reason_number reasons.Order = 12
reason_number reasons.Duplicate = 13
reason_number reasons.Undefined = 14
reason_number reasons.NotVisible = 15
reason_number reasons.TypeMismatch = 16
reason_number reasons.NotStable = 17
reason_number reasons.SizeLimit = 18
reason_number reasons.NotClosed = 19
reason_number reasons.NothingToDo = 20
reason_number reasons.TooLong = 21

-- the name of a reason, as a refusal's line has it
abbrev pub reason_name : Reason → List ℕ
reason_name reasons.TooManyPieces = codes "TooManyPieces"
reason_name reasons.Unterminated = codes "Unterminated"
reason_name reasons.BadByte = codes "BadByte"
reason_name reasons.OpenString = codes "OpenString"
reason_name reasons.Compressed = codes "Compressed"
reason_name reasons.NameTooLong = codes "NameTooLong"
reason_name reasons.NumberTooLarge = codes "NumberTooLarge"
reason_name reasons.TooDeep = codes "TooDeep"
reason_name reasons.UnknownStatement = codes "UnknownStatement"
reason_name reasons.Unsupported = codes "Unsupported"
reason_name reasons.Syntax = codes "Syntax"
reason_name reasons.Order = codes "Order"
reason_name reasons.Duplicate = codes "Duplicate"
reason_name reasons.Undefined = codes "Undefined"
reason_name reasons.NotVisible = codes "NotVisible"
reason_name reasons.TypeMismatch = codes "TypeMismatch"
reason_name reasons.NotStable = codes "NotStable"
reason_name reasons.SizeLimit = codes "SizeLimit"
reason_name reasons.NotClosed = codes "NotClosed"
reason_name reasons.NothingToDo = codes "NothingToDo"
reason_name reasons.TooLong = codes "TooLong"
