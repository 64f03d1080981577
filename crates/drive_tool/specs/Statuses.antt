-- Exit codes, and groups of statuses, by their causes. The rules are this tool's own.
use Rattle.std.specs.Prelude.{ℕ, pos, if◌then◌else◌}
use Rattle.std.specs.Ordering.{int_eq}
use Rattle.stapl_meaning.specs.declared.events.Ending.{Ending}
use Rattle.stapl_meaning.specs.declared.events.Ending.TheVariants as endings
use Rattle.drive_tool.specs.declared.status.DriveStatus.{DriveStatus}
use Rattle.drive_tool.specs.declared.status.DriveStatus.TheVariants.{Done, Fault, Spent, Refused, BoardRefused, NoAction, BadChoice, BadPlace, Usage, ReadFault, WriteFault, Memory, WireFault}

-- the status of a play that ends so
abbrev pub done_with : Ending → DriveStatus
done_with (endings.Exit code) = Done code
done_with (endings.Fault k piece) = Fault k piece
done_with endings.Spent = Spent

-- the status is a fault of reading, of writing or of the wire, or want of memory
abbrev pub IsFault : DriveStatus → Type 0
IsFault ReadFault = Unit {0}
IsFault WriteFault = Unit {0}
IsFault Memory = Unit {0}
IsFault WireFault = Unit {0}
IsFault (Done code) = ⊥
IsFault (Fault k piece) = ⊥
IsFault Spent = ⊥
IsFault (Refused piece reason) = ⊥
IsFault (BoardRefused line reason) = ⊥
IsFault NoAction = ⊥
IsFault BadChoice = ⊥
IsFault BadPlace = ⊥
IsFault (Usage n) = ⊥

abbrev pub exit_code_of : DriveStatus → ℕ
exit_code_of (Done code) = if int_eq code (pos 0) then 0 else 1
exit_code_of (Fault k piece) = 2
exit_code_of Spent = 3
exit_code_of (Refused piece reason) = 4
exit_code_of (BoardRefused line reason) = 5
exit_code_of NoAction = 6
exit_code_of BadChoice = 6
exit_code_of BadPlace = 6
exit_code_of (Usage n) = 7
exit_code_of ReadFault = 9
exit_code_of WriteFault = 10
exit_code_of Memory = 11
exit_code_of WireFault = 18
