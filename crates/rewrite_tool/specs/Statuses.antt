-- How the program ends, by exit codes. The rules are this tool's own.
use Rattle.std.specs.Prelude.{ℕ, refl}
use Rattle.tool_frame.specs.Frame.{IsNoFaultCode}
use Rattle.rewrite_tool.specs.declared.status.RewriteStatus.{RewriteStatus}
use Rattle.rewrite_tool.specs.declared.status.RewriteStatus.TheVariants.{Done, Refused, BoardRefused, BadPlace, OwnPadding, TooLarge, Usage}

abbrev pub exit_code_of : RewriteStatus → ℕ
exit_code_of Done = 0
exit_code_of (Refused piece reason) = 4
exit_code_of (BoardRefused line reason) = 5
exit_code_of BadPlace = 6
exit_code_of (Usage n) = 7
exit_code_of TooLarge = 12
exit_code_of (OwnPadding piece) = 13

-- none is that of a fault
pub no_fault_codes : (status : RewriteStatus) → IsNoFaultCode (exit_code_of status)
no_fault_codes Done = refl
no_fault_codes (Refused piece reason) = refl
no_fault_codes (BoardRefused line reason) = refl
no_fault_codes BadPlace = refl
no_fault_codes (Usage n) = refl
no_fault_codes TooLarge = refl
no_fault_codes (OwnPadding piece) = refl
