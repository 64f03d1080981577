-- A status that is none of a fault has the exit code of none. The rules are this tool's own.
use Rattle.std.specs.Prelude.{pos, Bool, true, false, if◌then◌else◌, refl}
use Rattle.std.specs.Ordering.{int_eq}
use Rattle.tool_frame.specs.Frame.{IsNoFaultCode}
use Rattle.play_words.specs.declared.status.Status.{Status}
use Rattle.play_words.specs.declared.status.Status.TheVariants as statuses
use Rattle.play_words.specs.Codes.{exit_code_of}
use Rattle.play_words.specs.Statuses.{IsFault}

done_code : (b : Bool) → IsNoFaultCode (if b then 0 else 1)
done_code true = refl
done_code false = refl

pub no_fault_code : (status : Status) → (IsFault status → ⊥) → IsNoFaultCode (exit_code_of status)
no_fault_code (statuses.Done code) never = done_code (int_eq code (pos 0))
no_fault_code (statuses.Fault k piece) never = refl
no_fault_code statuses.Spent never = refl
no_fault_code (statuses.Refused piece reason) never = refl
no_fault_code (statuses.BoardRefused line reason) never = refl
no_fault_code (statuses.CodeRefused offset reason) never = refl
no_fault_code statuses.NoAction never = refl
no_fault_code statuses.BadChoice never = refl
no_fault_code statuses.BadPlace never = refl
no_fault_code (statuses.Usage n) never = refl
no_fault_code statuses.ReadFault never = absurd (never tt)
no_fault_code statuses.WriteFault never = absurd (never tt)
no_fault_code statuses.Memory never = absurd (never tt)
