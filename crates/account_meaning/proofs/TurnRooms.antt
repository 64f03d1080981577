-- There is room for the runs of each turn of a code.
use Rattle.std.proofs.Common.{◌≡◌, ◌≤◌, ℕ, List, sym, subst, arith}
use Rattle.std.specs.Prelude.{All}
use Rattle.std.proofs.lemmas.List.Elements.{All-weaker}
use Rattle.scan_accounts.specs.ShiftRuns.{ShiftRun, shift_runs}
use Rattle.scan_accounts.specs.MadeTurns.{MadeTurn, clocks_among}
use Rattle.scan_accounts.specs.Rooms.{FitIn}
use Rattle.run_cable.specs.KeptRuns.{Kept}
use Rattle.account_plays.specs.AccountedTurns.{HasRoomFor}

-- what fits into a room fits into a larger one
fits_more : (bits runs more_bits more_runs : ℕ) (rs : List ShiftRun) → bits ≤ more_bits → runs ≤ more_runs → FitIn bits runs rs → FitIn more_bits more_runs rs
fits_more bits runs more_bits more_runs rs b r fit =
    record { together = omega (arith, fit.together, b); few = omega (arith, fit.few, r) }

-- and so do turns that are these
pub turns_find_room : (kept : Kept) (bits runs : ℕ) (ts others : List MadeTurn) → bits ≤ kept.room.bits → runs ≤ kept.room.runs → ts ≡ others →
    All (λ (t : MadeTurn). FitIn bits runs (shift_runs t.from (clocks_among t.events))) others → All (λ (t : MadeTurn). HasRoomFor kept t.from t.events) ts
turns_find_room kept bits runs ts others b r same all =
    subst (All (λ (t : MadeTurn). HasRoomFor kept t.from t.events)) (sym same)
    (All-weaker (λ (t : MadeTurn). FitIn bits runs (shift_runs t.from (clocks_among t.events))) (λ (t : MadeTurn). HasRoomFor kept t.from t.events)
    (λ t fit. fits_more bits runs kept.room.bits kept.room.runs (shift_runs t.from (clocks_among t.events)) b r fit) others all)
