-- The steps of a program: what each is drawn as, and its lines. The rules are this profile's.
use Rattle.std.specs.Prelude.{ℕ, zero, suc, ◌-◌, ◌==◌, List, [], ◌∷◌, ◌++◌, codes, if◌then◌else◌}
use Rattle.std.specs.Fmt.{decimal}
use Rattle.std.specs.List.{flat_map}
use Rattle.soak_texts.specs.declared.step.Step.{Step}
use Rattle.soak_texts.specs.declared.step.Step.TheVariants.{Scan, Multiply, Mix, Raise}
use Rattle.soak_texts.specs.Draws.{state_after, nth_draw}
use Rattle.soak_texts.specs.Lines.{plain_line, numbered_line, four_digits}

-- the four numbers below 65,536 that four draws from a state on give
unfoldable pub four_draws : ℕ → List ℕ
four_draws s = nth_draw 1 65536 s ∷ nth_draw 2 65536 s ∷ nth_draw 3 65536 s ∷ nth_draw 4 65536 s ∷ []

-- the step of a kind, 0 to 3: a scan of these numbers, or what is done with this number
abbrev pub step_of_kind : ℕ → ℕ → List ℕ → Step
step_of_kind kind number shifted =
    if kind == 0 then Scan shifted
    else if kind == 1 then Multiply number
    else if kind == 2 then Mix number
    else Raise number

-- the step that is drawn from a state on: the first draw gives its kind, the second its number, and four more what a
-- scan shifts; the number is drawn for a scan too
unfoldable pub drawn_step : ℕ → Step
drawn_step s = step_of_kind (nth_draw 1 4 s) (nth_draw 2 100 s) (four_draws (state_after 2 s))

-- how many draws a step takes
abbrev pub draws_of : Step → ℕ
draws_of (Scan shifted) = 6
draws_of _ = 2

-- the state after a step
unfoldable pub state_after_step : ℕ → ℕ
state_after_step s = state_after (draws_of (drawn_step s)) s

-- the state after so many steps
unfoldable pub state_after_steps : ℕ → ℕ → ℕ
state_after_steps zero s = s
state_after_steps (suc n) s = state_after_step (state_after_steps n s)

-- the n-th step from a state on, counted from 0
unfoldable pub nth_step : ℕ → ℕ → Step
nth_step n s = drawn_step (state_after_steps n s)

-- the lines of a scan of a register of so many bits, of which each is captured into X
unfoldable pub scan_lines : ℕ → List ℕ → List ℕ
scan_lines bits shifted =
    plain_line (codes "IRSCAN 8, $02;")
    ++ plain_line (codes "DRSCAN " ++ decimal bits ++ codes ", $" ++ flat_map four_digits shifted
    ++ codes ", CAPTURE X[" ++ decimal (bits - 1) ++ codes "..0];")

-- the lines of a loop from 0 to this number
unfoldable pub mix_lines : ℕ → List ℕ
mix_lines number =
    numbered_line (codes "FOR I = 0 TO ") number (codes ";")
    ++ plain_line (codes "S = S ^ (I * 7);")
    ++ plain_line (codes "NEXT I;")

-- the lines of a step, for a register of so many bits
unfoldable pub step_lines : ℕ → Step → List ℕ
step_lines bits (Scan shifted) = scan_lines bits shifted
step_lines bits (Multiply number) = numbered_line (codes "S = S * 31 + ") number (codes ";")
step_lines bits (Mix number) = mix_lines number
step_lines bits (Raise number) = numbered_line (codes "IF S % 2 == 0 THEN S = S + ") number (codes ";")
