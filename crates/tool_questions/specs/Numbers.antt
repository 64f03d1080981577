-- Numbers of the parts of a text: the pieces of a program, the lines of a board.
use Rattle.std.specs.Prelude.{ℕ, zero, suc, List, slice_get, Option, None}

-- the one with a number, counted from 1
abbrev pub part_numbered : {A : Type 0} → ℕ → List A → Option A
part_numbered zero parts = None
part_numbered (suc i) parts = slice_get parts i
