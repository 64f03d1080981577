-- How the program ends, by exit codes.
use Rattle.std.specs.Prelude.{ℕ, refl}
use Rattle.tool_frame.specs.Frame.{IsNoFaultCode}
use Rattle.counting_tests.specs.declared.status.CountStatus.{CountStatus}
use Rattle.counting_tests.specs.declared.status.CountStatus.TheVariants.{Counted, Refused, Usage}

abbrev pub exit_code_of : CountStatus → ℕ
exit_code_of Counted = 0
exit_code_of (Refused line reason) = 5
exit_code_of Usage = 7

-- none is that of a fault
pub no_fault_codes : (status : CountStatus) → IsNoFaultCode (exit_code_of status)
no_fault_codes Counted = refl
no_fault_codes (Refused line reason) = refl
no_fault_codes Usage = refl
