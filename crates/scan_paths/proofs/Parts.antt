-- What several calls on a cable keep: its counts of faults, and whether it is whole.
use Rattle.std.proofs.Common.{◌≡◌, ◌≢◌, ◌⊎◌, ◌+◌, ℕ, Bool, List, Option, Result, Ok, Err, OnErr, refl, sym, ◌∙◌}
use Rattle.std.specs.Prelude.{IsErr}
use Rattle.tool_io.specs.Causes.{CountRose, CountCause}
use Rattle.tool_io.proofs.CauseLemmas.{kept_start, kept_then, rose_after, sum_kept, sum_rose_left, sum_rose_right}
use Rattle.scan_paths.specs.Cables.{Breakage, whole, line, pins, PartCause, CableKept, Signal, IsClockedOrNot, IsSignalledOrNot, HasMadeFront, ClockAnswer, BlockAnswer, SignalAnswer}
use Rattle.scan_paths.specs.Scans.{HasScannedFront}
use Rattle.tap_states.specs.declared.Tap.{Tap}
use Rattle.dev_card.specs.Card.{Card}
use Rattle.dev_card.specs.Board.{Input}
use Rattle.dev_card.specs.Scans.{BoardScan}
use Rattle.scan_paths.specs.CableCalls.{KeepsCable, MakesClocks, SeesClocks, MakesScan}
use Rattle.scan_paths.specs.declared.cable.Cable.{Ghosts as CableOf}

whole≢line : whole ≡ line → ⊥
whole≢line e = cc

whole≢pins : whole ≡ pins → ⊥
whole≢pins e = cc

-- no call was made
pub line_start : (now : ℕ) (last : Type 0) (broken : Breakage) → broken ≡ whole → PartCause line now now last last broken
line_start now last broken w = record { kept = kept_start now last; broke = λ e. absurd (whole≢line (sym w ∙ e)) }

pub pins_start : (now : ℕ) (last : Type 0) (broken : Breakage) → broken ≡ whole → PartCause pins now now last last broken
pins_start now last broken w = record { kept = kept_start now last; broke = λ e. absurd (whole≢pins (sym w ∙ e)) }

-- one call after another
pub part_then : {part : Breakage} {a b c : ℕ} {last_a last_b last_c : Type 0} {broken_b broken_c : Breakage} →
    PartCause part a b last_a last_b broken_b → PartCause part b c last_b last_c broken_c → PartCause part a c last_a last_c broken_c
part_then first second = record { kept = kept_then first.kept second.kept; broke = λ e. rose_after first.kept (second.broke e) }

-- the sum of the two counts rose where one part is broken
sum_rose : {a b c d : ℕ} {last_a last_b last_c last_d : Type 0} (broken : Breakage) → PartCause line a b last_a last_b broken →
    PartCause pins c d last_c last_d broken → broken ≢ whole → CountRose (a + c) (b + d) (last_b ⊎ last_d)
sum_rose whole l p n = absurd (n refl)
sum_rose line l p n = sum_rose_left (l.broke refl) p.kept
sum_rose pins l p n = sum_rose_right l.kept (p.broke refl)

-- What calls on a cable keep.

-- no call was made
pub cable_start : {T E : Type 0} (x : T) (n m : ℕ) (last_n last_m : Type 0) (broken : Breakage) → broken ≡ whole →
    CableKept {T = T} {E = E} n n last_n last_n m m last_m last_m broken (Ok x)
cable_start x n m last_n last_m broken w =
    record { unbroken = w; broken = tt; line_cause = line_start n last_n broken w; pins_cause = pins_start m last_m broken w }

-- one call after another
pub cable_then : {T U E F : Type 0} {x : T} {r : Result U F} {a b c d e f : ℕ} {last_a last_b last_c last_d last_e last_f : Type 0}
    {broken_b broken_c : Breakage} → CableKept {T = T} {E = E} a b last_a last_b d e last_d last_e broken_b (Ok x) →
    CableKept b c last_b last_c e f last_e last_f broken_c r → CableKept a c last_a last_c d f last_d last_f broken_c r
cable_then first second = record {
  unbroken = second.unbroken;
  broken = second.broken;
  line_cause = part_then first.line_cause second.line_cause;
  pins_cause = part_then first.pins_cause second.pins_cause;
}

-- with another result
pub cable_done : {T U E F : Type 0} {x : T} {y : U} {a b c d : ℕ} {last_a last_b last_c last_d : Type 0} {broken : Breakage} →
    CableKept {T = T} {E = E} a b last_a last_b c d last_c last_d broken (Ok x) → CableKept {T = U} {E = F} a b last_a last_b c d last_c last_d broken (Ok y)
cable_done k = record { unbroken = k.unbroken; broken = tt; line_cause = k.line_cause; pins_cause = k.pins_cause }

pub cable_failed : {T U E F : Type 0} {e : E} {a b c d : ℕ} {last_a last_b last_c last_d : Type 0} {broken : Breakage} (r : Result U F) → IsErr r →
    CableKept {T = T} {E = E} a b last_a last_b c d last_c last_d broken (Err e) → CableKept a b last_a last_b c d last_c last_d broken r
cable_failed (Ok x) is k = absurd cc
cable_failed (Err e) is k = record { unbroken = tt; broken = k.broken; line_cause = k.line_cause; pins_cause = k.pins_cause }

-- the cause of an answer in the count of the whole cable, since a call that failed has broken one part
pub cable_cause : {T E : Type 0} {a b c d : ℕ} {last_a last_b last_c last_d : Type 0} {broken : Breakage} (result : Result T E) →
    PartCause line a b last_a last_b broken → PartCause pins c d last_c last_d broken → OnErr result (broken ≢ whole) →
    CountCause (a + c) (b + d) (last_a ⊎ last_c) (last_b ⊎ last_d) result
cable_cause (Ok x) l p n = record { kept = sum_kept l.kept p.kept; failed = tt }
cable_cause {broken = broken} (Err e) l p n = record { kept = sum_kept l.kept p.kept; failed = sum_rose broken l p n }

pub kept_cause : {T E : Type 0} {a b c d : ℕ} {last_a last_b last_c last_d : Type 0} {broken : Breakage} (result : Result T E) →
    CableKept a b last_a last_b c d last_c last_d broken result → CountCause (a + c) (b + d) (last_a ⊎ last_c) (last_b ⊎ last_d) result
kept_cause result k = cable_cause result k.line_cause k.pins_cause k.broken

-- what a call kept that did not fail
abbrev pub KeepsWhole : {C : Type 0} → CableOf C → C → C → Type 0
KeepsWhole cable old new = KeepsCable {T = Unit {0}} {E = Unit {0}} cable old new (Ok tt)

-- at the exit of a `?`
pub made_failed : {C T E : Type 0} (cable : CableOf C) {a b : C} {is : List Input} (r : Result T E) → IsErr r →
    HasMadeFront cable.board cable.made a b is → MakesClocks cable a is b r
made_failed cable (Ok x) is front = absurd cc
made_failed cable (Err e) is front = front

pub sees_failed : {C T E : Type 0} (cable : CableOf C) {a b : C} {is : List Input} (place : ℕ) (bits : List Bool) (r : Result T E) → IsErr r →
    HasMadeFront cable.board cable.made a b is → SeesClocks cable a is place bits b r
sees_failed cable place bits (Ok x) is front = absurd cc
sees_failed cable place bits (Err e) is front = front

pub scan_failed : {C T E : Type 0} (cable : CableOf C) {a b : C} {at : Tap} {s : BoardScan} (bits : List Bool) (r : Result T E) → IsErr r →
    HasScannedFront cable.board cable.made a b at s → MakesScan cable a at s bits b r
scan_failed cable bits (Ok x) is front = absurd cc
scan_failed cable bits (Err e) is front = front

-- and of a method of a cable
pub block_failed : {C E : Type 0} {board : C → Option (List Card)} {makes : C → List Signal → C → Type 0} {old new : C} {is : List Input} (r : Result ℕ E) → IsErr r →
    HasMadeFront board makes old new is → BlockAnswer board makes old new is r
block_failed (Ok x) is front = absurd cc
block_failed (Err e) is front = front

pub clock_failed : {C E : Type 0} {board : C → Option (List Card)} {makes : C → List Signal → C → Type 0} {old new : C} (tms tdi : Bool) (r : Result Bool E) → IsErr r →
    IsClockedOrNot board makes old new tms tdi → ClockAnswer board makes old new tms tdi r
clock_failed tms tdi (Ok x) is or_not = absurd cc
clock_failed tms tdi (Err e) is or_not = or_not

pub signal_failed : {C T E : Type 0} {board : C → Option (List Card)} {makes : C → List Signal → C → Type 0} {old new : C} {signal : Signal} (r : Result T E) → IsErr r →
    IsSignalledOrNot board makes old new signal → SignalAnswer board makes old new signal r
signal_failed (Ok x) is or_not = absurd cc
signal_failed (Err e) is or_not = or_not
