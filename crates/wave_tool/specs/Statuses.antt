-- How a run of the tool ends, by exit codes. The rules are this tool's own.
use Rattle.std.specs.Prelude.{ℕ, refl}
use Rattle.tool_frame.specs.Frame.{IsNoFaultCode}
use Rattle.wave_tool.specs.declared.status.WaveStatus.{WaveStatus}
use Rattle.wave_tool.specs.declared.status.WaveStatus.TheVariants.{Written, BadLine, TooLong, Usage}

abbrev pub exit_code_of : WaveStatus → ℕ
exit_code_of Written = 0
exit_code_of (Usage n) = 7
exit_code_of TooLong = 12
exit_code_of (BadLine n) = 16

-- none is that of a fault
pub no_fault_codes : (status : WaveStatus) → IsNoFaultCode (exit_code_of status)
no_fault_codes Written = refl
no_fault_codes (Usage n) = refl
no_fault_codes TooLong = refl
no_fault_codes (BadLine n) = refl
