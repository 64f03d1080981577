-- On the machine and the codes that it runs.
use Rattle.std.proofs.Common.{◌≡◌, ◌≢◌, ◌==◌, ℕ, Result, Ok, Err, OnOk, OnErr, List, [], ◌∷◌, refl, arith, None, Bool, true, false, pos, map}
use Rattle.std.specs.List.{All}
use Rattle.std.proofs.lemmas.List.{length-replicate}
use Rattle.std.proofs.lemmas.List.Elements.{All-head, All-tail}
use Rattle.std.proofs.lemmas.Bool.Decides.{nat_tests}
use Rattle.tap_states.specs.declared.Tap.TheVariants.{Reset}
use Rattle.dev_card.specs.Board.{AllIn}
use Rattle.scan_paths.specs.declared.cable.Cable.{Ghosts as CableOf}
use Rattle.scan_paths.specs.Cables.{whole, WhereTold, HasMadeFront}
use Rattle.stapl_meaning.specs.Plays.{reset_inputs, Outcome, Ended, Going, Stopped, ending_of}
use Rattle.stapl_code.specs.declared.raw.VarDef.{VarDef}
use Rattle.stapl_code.specs.Ranges.{IsVariable}
use Rattle.stapl_code.specs.Safe.{Fits, AllFit}
use Rattle.machine_memory.specs.Zeros.{zero_of}
use Rattle.written_cable.specs.Resets.{IsReset}
use Rattle.stapl_machine.specs.Machines.{HasReset}

-- only what no valid code meets has no ending
pub ending_none : (o : Outcome) → ending_of o ≡ None → o ≡ Stopped
ending_none (Ended ending) e = absurd cc
ending_none (Going place) e = absurd cc
ending_none Stopped e = refl

zero_fits_by : (v : VarDef) (b0 b1 b2 : Bool) → (v.kind == 0) ≡ b0 → (v.kind == 1) ≡ b1 → (v.kind == 2) ≡ b2 → IsVariable v → Fits v (zero_of v)
zero_fits_by v true b1 b2 e0 e1 e2 is = rw e0 (grind (arith, nat_tests, e0))
zero_fits_by v false true b2 e0 e1 e2 is = rw (e0, e1) (grind (arith, nat_tests, e1))
zero_fits_by v false false true e0 e1 e2 is =
    let kind : v.kind ≡ 2 = grind (arith, nat_tests, e2) in
    rw (e0, e1, e2) (kind, length-replicate v.size (pos 0))
zero_fits_by v false false false e0 e1 e2 is =
    let most = is.kind in
    let kind : v.kind ≡ 3 = grind (arith, nat_tests, e0, e1, e2, most) in
    rw (e0, e1, e2) (kind, length-replicate v.size false)

-- the zero of a variable is one of its kind and size
zero_fits : (v : VarDef) → IsVariable v → Fits v (zero_of v)
zero_fits v is = zero_fits_by v (v.kind == 0) (v.kind == 1) (v.kind == 2) refl refl refl is

pub zeros_fit : (vs : List VarDef) → All IsVariable vs → AllFit vs (map zero_of vs)
zeros_fit [] all = tt
zeros_fit (v ∷ vs) all = (zero_fits v (All-head IsVariable v vs all), zeros_fit vs (All-tail IsVariable v vs all))

-- the first clocks, by the answer
pub reset_so : {C T E : Type 0} (cable : CableOf C) (old new : C) (digits : List ℕ) (r : Result T E) → OnOk r (WhereTold (cable.board new) (AllIn Reset)) →
    OnOk r (IsReset cable.board cable.made old new digits) → OnErr r (HasMadeFront cable.board cable.made old new reset_inputs) →
    OnOk r (cable.breakage new ≡ whole) → OnErr r (cable.breakage new ≢ whole) → HasReset cable old new digits r
reset_so cable old new digits (Ok x) told reset front w n = record { reset = reset; open_now = record { whole_cable = w; in_reset = told } }
reset_so cable old new digits (Err e) told reset front w n = record { front = front; broken = n }
