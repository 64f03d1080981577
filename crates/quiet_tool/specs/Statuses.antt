-- How the program ends, by exit codes. The rules are this tool's own.
use Rattle.std.specs.Prelude.{ℕ, refl}
use Rattle.tool_frame.specs.Frame.{IsNoFaultCode}
use Rattle.quiet_tool.specs.declared.status.QuietStatus.{QuietStatus}
use Rattle.quiet_tool.specs.declared.status.QuietStatus.TheVariants.{Quiet, NotQuiet, Refused, BoardRefused, NoAction, BadChoice, BadPlace, Usage}

abbrev pub exit_code_of : QuietStatus → ℕ
exit_code_of Quiet = 0
exit_code_of (NotQuiet turn piece why) = 17
exit_code_of (Refused piece reason) = 4
exit_code_of (BoardRefused line reason) = 5
exit_code_of NoAction = 6
exit_code_of BadChoice = 6
exit_code_of BadPlace = 6
exit_code_of (Usage n) = 7

-- none is that of a fault
pub no_fault_codes : (status : QuietStatus) → IsNoFaultCode (exit_code_of status)
no_fault_codes Quiet = refl
no_fault_codes (NotQuiet turn piece why) = refl
no_fault_codes (Refused piece reason) = refl
no_fault_codes (BoardRefused line reason) = refl
no_fault_codes NoAction = refl
no_fault_codes BadChoice = refl
no_fault_codes BadPlace = refl
no_fault_codes (Usage n) = refl

-- the status of some plays: that of the first one which is not quiet
abbrev pub first_unquiet : QuietStatus → QuietStatus → QuietStatus
first_unquiet Quiet others = others
first_unquiet status others = status
