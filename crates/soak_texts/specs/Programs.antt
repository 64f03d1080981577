-- The program of a seed. The rules are this profile's.
use Rattle.std.specs.Prelude.{ℕ, List, ◌++◌, codes}
use Rattle.std.specs.List.{flat_map, range_with_len}
use Rattle.soak_texts.specs.Lines.{plain_line}
use Rattle.soak_texts.specs.Steps.{nth_step, step_lines}

-- the lines before the steps
abbrev pub first_lines : List ℕ
first_lines =
    plain_line (codes "ACTION A = P;")
    ++ plain_line (codes "PROCEDURE P;")
    ++ plain_line (codes "BOOLEAN X[64];")
    ++ plain_line (codes "INTEGER S = 0;")
    ++ plain_line (codes "INTEGER I;")

-- the lines after them
abbrev pub last_lines : List ℕ
last_lines =
    plain_line (codes "PRINT S;")
    ++ plain_line (codes "EXPORT \"X\", X[];")
    ++ plain_line (codes "EXIT 0;")
    ++ plain_line (codes "ENDPROC;")

-- the lines of so many steps from a state on, for a register of so many bits
unfoldable pub lines_of_steps : ℕ → ℕ → ℕ → List ℕ
lines_of_steps steps bits s = flat_map (λ n. step_lines bits (nth_step n s)) (range_with_len 0 steps)

-- the program with so many steps, drawn from a state on, for a register of so many bits
unfoldable pub program_text : ℕ → ℕ → ℕ → List ℕ
program_text steps bits s = first_lines ++ lines_of_steps steps bits s ++ last_lines
