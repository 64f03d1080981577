-- Exit codes, and groups of statuses, by their causes. The rules are this tool's own.
use Rattle.std.specs.Prelude.{ℕ}
use Rattle.link_tool.specs.declared.status.LinkStatus.{LinkStatus}
use Rattle.link_tool.specs.declared.status.LinkStatus.TheVariants.{Done, BadByte, TooLong, BoardRefused, Usage, ReadFault, WriteFault, Memory}

abbrev pub exit_code_of : LinkStatus → ℕ
exit_code_of Done = 0
exit_code_of (BoardRefused line reason) = 5
exit_code_of (Usage n) = 7
exit_code_of ReadFault = 9
exit_code_of WriteFault = 10
exit_code_of Memory = 11
exit_code_of TooLong = 12
exit_code_of (BadByte i) = 14

-- the status is a fault of reading or writing, or want of memory
abbrev pub IsFault : LinkStatus → Type 0
IsFault ReadFault = Unit {0}
IsFault WriteFault = Unit {0}
IsFault Memory = Unit {0}
IsFault Done = ⊥
IsFault (BadByte i) = ⊥
IsFault TooLong = ⊥
IsFault (BoardRefused line reason) = ⊥
IsFault (Usage n) = ⊥

-- the status of a session
abbrev pub IsOfSession : LinkStatus → Type 0
IsOfSession Done = Unit {0}
IsOfSession (BadByte i) = Unit {0}
IsOfSession TooLong = Unit {0}
IsOfSession (BoardRefused line reason) = ⊥
IsOfSession (Usage n) = ⊥
IsOfSession ReadFault = ⊥
IsOfSession WriteFault = ⊥
IsOfSession Memory = ⊥

-- The status has a cause that comes before the board is fitted into the rack. Of faults and of want of memory the
-- status does not say when they came.
abbrev pub ComesBeforeFitting : LinkStatus → Type 0
ComesBeforeFitting (Usage n) = Unit {0}
ComesBeforeFitting (BoardRefused line reason) = Unit {0}
ComesBeforeFitting Done = ⊥
ComesBeforeFitting (BadByte i) = ⊥
ComesBeforeFitting TooLong = ⊥
ComesBeforeFitting ReadFault = ⊥
ComesBeforeFitting WriteFault = ⊥
ComesBeforeFitting Memory = ⊥
