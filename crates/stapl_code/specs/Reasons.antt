-- The names of the reasons why bytes are no file of a code. They are this profile's.
use Rattle.std.specs.Prelude.{ℕ, List, codes}
use Rattle.stapl_code.specs.declared.reason.CodeReason.{CodeReason}
use Rattle.stapl_code.specs.declared.reason.CodeReason.TheVariants as reasons

-- the name of a reason, as a refusal's line has it
abbrev pub reason_name : CodeReason → List ℕ
reason_name reasons.Cut = codes "Cut"
reason_name reasons.Field = codes "Field"
reason_name reasons.Extra = codes "Extra"
reason_name reasons.Invalid = codes "Invalid"
reason_name reasons.TooLong = codes "TooLong"
