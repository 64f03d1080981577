-- How the text of a Print is joined.
use Rattle.std.specs.Prelude.{◌≡◌, ℕ, ◌+◌, max, List, [], ◌∷◌, ◌++◌, length, Option, Some, None, Result, Ok, Err, slice_get}
use Rattle.stapl_code.specs.declared.instr.Instr.{Instr}
use Rattle.stapl_code.specs.declared.instr.Instr.TheVariants.{Print}
use Rattle.stapl_code.specs.declared.instr.PrintPart.{PrintPart}
use Rattle.stapl_code.specs.declared.instr.PrintPart.TheVariants as parts
use Rattle.stapl_meaning.specs.declared.values.Value.{Value}
use Rattle.stapl_meaning.specs.Values.{Got, Known, then_get}
use Rattle.machine_memory.specs.declared.operate.Stop.{Stop}
use Rattle.machine_memory.specs.declared.operate.Stop.TheVariants as stop
use Rattle.machine_memory.specs.Found.{IsStopped}

-- a text, with another in front
abbrev pub with_front : List ℕ → Got (List ℕ) → Got (List ℕ)
with_front front text = then_get text (λ more. Known (front ++ more))

-- The text of the first parts was put, so that what is left stands after it.
abbrev pub IsPut : {A : Type 0} → Result A Stop → List ℕ → Got (List ℕ) → List ℕ → Got (List ℕ) → Type 0
IsPut (Ok done) old whole new rest = with_front old whole ≡ with_front new rest
IsPut (Err e) old whole new rest = IsStopped e whole

-- the next value was taken, or there is none
abbrev pub TakesNext : List Value → Result Value Stop → List Value → Type 0
TakesNext old (Ok v) new = old ≡ v ∷ new
TakesNext old (Err e) new = (old ≡ []) × (e ≡ stop.Wrong)

-- the most bytes of a part: an integer has at most eleven
abbrev pub text_length : Option (List ℕ) → ℕ
text_length None = 0
text_length (Some bytes) = length bytes

abbrev pub part_room : List (List ℕ) → PrintPart → ℕ
part_room texts (parts.Text n) = text_length (slice_get texts n)
part_room texts parts.Int = 11
part_room texts parts.Bit = 11
part_room texts parts.Char = 1

abbrev pub parts_room : List (List ℕ) → List PrintPart → ℕ
parts_room texts [] = 0
parts_room texts (part ∷ rest) = part_room texts part + parts_room texts rest

-- the most bytes that an instruction prints, and that any of these does
abbrev pub instr_room : List (List ℕ) → Instr → ℕ
instr_room texts (Print list) = parts_room texts list
instr_room texts _ = 0

abbrev pub print_room : List (List ℕ) → List Instr → ℕ
print_room texts [] = 0
print_room texts (i ∷ rest) = max (instr_room texts i) (print_room texts rest)
