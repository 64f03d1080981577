-- The runs of clocks have a bit for each clock at which a register shifts, and there are no more runs than such clocks.
-- On a way between two states a register shifts at one clock at most.
use Rattle.std.proofs.Common.{◌≡◌, ◌≤◌, ℕ, ◌+◌, Bool, true, false, List, [], ◌∷◌, ◌++◌, length, Option, Some, None, refl, ap, ◌∙◌, arith}
use Rattle.std.specs.Prelude.{is_some, nat_le}
use Rattle.std.specs.List.{list_all}
use Rattle.std.proofs.lemmas.Bool.{leb-true}
use Rattle.tap_states.specs.declared.Tap.{Tap}
use Rattle.tap_states.specs.Tap.{next_of}
use Rattle.tap_states.specs.Path.{walk, path_of}
use Rattle.tap_states.proofs.States.{taps, each}
use Rattle.dev_card.specs.Board.{Clock}
use Rattle.scan_accounts.specs.ShiftRuns.{shifting, ShiftRun, runs_with, shift_runs}
use Rattle.scan_accounts.specs.Rooms.{bits_of}
use Rattle.scan_accounts.proofs.JoinedRuns.{tms_of, shifts}

abbrev one_if : Bool → ℕ
one_if true = 1
one_if false = 0

-- at how many clocks of a walk a register shifts
abbrev pub shift_count : Tap → List Bool → ℕ
shift_count at [] = 0
shift_count at (m ∷ ms) = one_if (shifts at) + shift_count (next_of at m) ms

-- ---- the runs of clocks

bits_with : (o : Option Bool) (goes_on : Bool) (k : Clock) (runs : List ShiftRun) →
    bits_of (runs_with o goes_on k runs) ≡ one_if (is_some o) + bits_of runs
bits_with None goes_on k runs = omega arith
bits_with (Some ir) false k runs = omega arith
bits_with (Some ir) true k [] = omega arith
bits_with (Some ir) true k (run ∷ runs) = omega arith

pub bits_counted : (ks : List Clock) (at : Tap) → bits_of (shift_runs at ks) ≡ shift_count at (tms_of ks)
bits_counted [] at = refl
bits_counted (k ∷ ks) at =
    let next : Tap = next_of at k.tms in
    bits_with (shifting at) (shifts next) k (shift_runs next ks)
    ∙ ap (λ n. one_if (shifts at) + n) (bits_counted ks next)

few_with : (o : Option Bool) (goes_on : Bool) (k : Clock) (runs : List ShiftRun) →
    length (runs_with o goes_on k runs) ≤ one_if (is_some o) + length runs
few_with None goes_on k runs = omega arith
few_with (Some ir) false k runs = omega arith
few_with (Some ir) true k [] = omega arith
few_with (Some ir) true k (run ∷ runs) = omega arith

pub runs_counted : (ks : List Clock) (at : Tap) → length (shift_runs at ks) ≤ shift_count at (tms_of ks)
runs_counted [] at = omega arith
runs_counted (k ∷ ks) at =
    let next : Tap = next_of at k.tms in
    let first = few_with (shifting at) (shifts next) k (shift_runs next ks) in
    let rest = runs_counted ks next in
    omega (arith, first, rest)

-- ---- walks

pub count_both : (xs ys : List Bool) (at : Tap) →
    shift_count at (xs ++ ys) ≡ shift_count at xs + shift_count (walk at xs) ys
count_both [] ys at = omega arith
count_both (x ∷ xs) ys at = let rest = count_both xs ys (next_of at x) in omega (arith, rest)

-- a test of all ways
abbrev shifts_once : Tap → Tap → Bool
shifts_once at to = nat_le (shift_count at (path_of at to)) 1

all_once : list_all (λ at. list_all (shifts_once at) taps) taps ≡ true
all_once = refl

pub path_shifts_once : (at to : Tap) → shift_count at (path_of at to) ≤ 1
path_shifts_once at to =
    leb-true (shift_count at (path_of at to)) 1
    (each (shifts_once at) (each (λ x. list_all (shifts_once x) taps) all_once at) to)
