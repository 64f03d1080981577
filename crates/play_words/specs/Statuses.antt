-- Groups of statuses, by their causes. The rules are this tool's own.
use Rattle.play_words.specs.declared.status.Status.{Status}
use Rattle.play_words.specs.declared.status.Status.TheVariants.{Done, Fault, Spent, Refused, BoardRefused, CodeRefused, NoAction, BadChoice, BadPlace, Usage, ReadFault, WriteFault, Memory}

-- the status is a fault of reading or writing, or want of memory
abbrev pub IsFault : Status → Type 0
IsFault ReadFault = Unit {0}
IsFault WriteFault = Unit {0}
IsFault Memory = Unit {0}
IsFault (Done code) = ⊥
IsFault (Fault k piece) = ⊥
IsFault Spent = ⊥
IsFault (Refused piece reason) = ⊥
IsFault (BoardRefused line reason) = ⊥
IsFault (CodeRefused offset reason) = ⊥
IsFault NoAction = ⊥
IsFault BadChoice = ⊥
IsFault BadPlace = ⊥
IsFault (Usage n) = ⊥

-- the status of a play that was played, to its ending or for all its turns
abbrev pub IsOfPlay : Status → Type 0
IsOfPlay (Done code) = Unit {0}
IsOfPlay (Fault k piece) = Unit {0}
IsOfPlay Spent = Unit {0}
IsOfPlay (Refused piece reason) = ⊥
IsOfPlay (BoardRefused line reason) = ⊥
IsOfPlay (CodeRefused offset reason) = ⊥
IsOfPlay NoAction = ⊥
IsOfPlay BadChoice = ⊥
IsOfPlay BadPlace = ⊥
IsOfPlay (Usage n) = ⊥
IsOfPlay ReadFault = ⊥
IsOfPlay WriteFault = ⊥
IsOfPlay Memory = ⊥

-- The status has a cause that comes before the board is fitted into the rack. Of want of memory and of a write fault
-- the status does not say when it came.
abbrev pub ComesBeforeFitting : Status → Type 0
ComesBeforeFitting (Usage n) = Unit {0}
ComesBeforeFitting (BoardRefused line reason) = Unit {0}
ComesBeforeFitting (Refused piece reason) = Unit {0}
ComesBeforeFitting (CodeRefused offset reason) = Unit {0}
ComesBeforeFitting NoAction = Unit {0}
ComesBeforeFitting BadChoice = Unit {0}
ComesBeforeFitting BadPlace = Unit {0}
ComesBeforeFitting ReadFault = Unit {0}
ComesBeforeFitting (Done code) = ⊥
ComesBeforeFitting (Fault k piece) = ⊥
ComesBeforeFitting Spent = ⊥
ComesBeforeFitting WriteFault = ⊥
ComesBeforeFitting Memory = ⊥
