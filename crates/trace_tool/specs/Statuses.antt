-- Exit codes, and groups of statuses, by their causes. The rules are this tool's own.
use Rattle.std.specs.Prelude.{ℕ, refl}
use Rattle.tool_frame.specs.Frame.{IsNoFaultCode}
use Rattle.trace_tool.specs.declared.status.TraceStatus.{TraceStatus}
use Rattle.trace_tool.specs.declared.status.TraceStatus.TheVariants.{Good, Differs, BadLine, TooLong, BoardRefused, Usage}

abbrev pub exit_code_of : TraceStatus → ℕ
exit_code_of (Good n) = 0
exit_code_of (BoardRefused line reason) = 5
exit_code_of (Usage n) = 7
exit_code_of TooLong = 12
exit_code_of (Differs i) = 15
exit_code_of (BadLine n) = 16

-- none is that of a fault
pub no_fault_codes : (status : TraceStatus) → IsNoFaultCode (exit_code_of status)
no_fault_codes (Good n) = refl
no_fault_codes (BoardRefused line reason) = refl
no_fault_codes (Usage n) = refl
no_fault_codes TooLong = refl
no_fault_codes (Differs i) = refl
no_fault_codes (BadLine n) = refl

-- the status of a trace that was compared with a board
abbrev pub IsCompared : TraceStatus → Type 0
IsCompared (Good n) = Unit {0}
IsCompared (Differs i) = Unit {0}
IsCompared (BadLine n) = Unit {0}
IsCompared TooLong = ⊥
IsCompared (BoardRefused line reason) = ⊥
IsCompared (Usage n) = ⊥

-- The status has a cause that comes before the board is fitted into the rack.
abbrev pub ComesBeforeFitting : TraceStatus → Type 0
ComesBeforeFitting (Usage n) = Unit {0}
ComesBeforeFitting (BoardRefused line reason) = Unit {0}
ComesBeforeFitting TooLong = Unit {0}
ComesBeforeFitting (Good n) = ⊥
ComesBeforeFitting (Differs i) = ⊥
ComesBeforeFitting (BadLine n) = ⊥
