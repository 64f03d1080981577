-- How the program ends, by exit codes. The rules are this tool's own.
use Rattle.std.specs.Prelude.{ℕ, refl}
use Rattle.tool_frame.specs.Frame.{IsNoFaultCode}
use Rattle.print_tool.specs.declared.status.PrintStatus.{PrintStatus}
use Rattle.print_tool.specs.declared.status.PrintStatus.TheVariants.{Done, Refused, TooLarge, Usage}

abbrev pub exit_code_of : PrintStatus → ℕ
exit_code_of Done = 0
exit_code_of (Refused piece reason) = 4
exit_code_of (Usage n) = 7
exit_code_of TooLarge = 12

-- none is that of a fault
pub no_fault_codes : (status : PrintStatus) → IsNoFaultCode (exit_code_of status)
no_fault_codes Done = refl
no_fault_codes (Refused piece reason) = refl
no_fault_codes (Usage n) = refl
no_fault_codes TooLarge = refl
