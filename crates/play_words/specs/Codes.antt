-- The exit codes, which are this tool's own.
use Rattle.std.specs.Prelude.{ℕ, pos, if◌then◌else◌}
use Rattle.std.specs.Ordering.{int_eq}
use Rattle.play_words.specs.declared.status.Status.{Status}
use Rattle.play_words.specs.declared.status.Status.TheVariants.{Done, Fault, Spent, Refused, BoardRefused, CodeRefused, NoAction, BadChoice, BadPlace, Usage, ReadFault, WriteFault, Memory}

abbrev pub exit_code_of : Status → ℕ
exit_code_of (Done code) = if int_eq code (pos 0) then 0 else 1
exit_code_of (Refused piece reason) = 4
exit_code_of (BoardRefused line reason) = 5
exit_code_of (Fault k piece) = 2
exit_code_of Spent = 3
exit_code_of NoAction = 6
exit_code_of BadChoice = 6
exit_code_of BadPlace = 6
exit_code_of (Usage n) = 7
exit_code_of (CodeRefused offset reason) = 8
exit_code_of ReadFault = 9
exit_code_of WriteFault = 10
exit_code_of Memory = 11
