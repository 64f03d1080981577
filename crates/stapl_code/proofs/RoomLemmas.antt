-- Room for operands: fewer operands need no more, and what follows an instruction has its room.
use Rattle.std.proofs.Common.{◌≡◌, ℕ, zero, suc, ◌≤◌, List, [], ◌∷◌, Some, drop, arith, subst}
use Rattle.std.specs.Prelude.{slice_get}
use Rattle.stapl_code.specs.declared.instr.Instr.{Instr}
use Rattle.stapl_code.specs.Rooms.{count_after, HoldWithin}

fewer_after : (x : Instr) (m n : ℕ) → m ≤ n → count_after x m ≤ count_after x n
fewer_after x m n less = omega (arith, less)

-- where fewer operands are found, no more room is needed
pub fewer_hold : (room m n : ℕ) (instrs : List Instr) → m ≤ n → HoldWithin room n instrs → HoldWithin room m instrs
fewer_hold room m n [] less hold = omega (arith, less, hold)
fewer_hold room m n (x ∷ rest) less hold =
    (omega (arith, less, hold.0), fewer_hold room (count_after x m) (count_after x n) rest (fewer_after x m n less) hold.1)

-- the operands that are there have room
pub room_for : (room n : ℕ) (instrs : List Instr) → HoldWithin room n instrs → n ≤ room
room_for room n [] hold = hold
room_for room n (x ∷ rest) hold = hold.0

-- what follows the instruction at a place has room for the operands that it leaves
pub hold_after : (room n i : ℕ) (instrs : List Instr) (x : Instr) → slice_get instrs i ≡ Some x →
    HoldWithin room n (drop i instrs) → HoldWithin room (count_after x n) (drop (suc i) instrs)
hold_after room n i [] x is hold = absurd cc
hold_after room n zero (y ∷ rest) x is hold =
    let same : y ≡ x = cc in subst (λ z. HoldWithin room (count_after z n) rest) same hold.1
hold_after room n (suc i) (y ∷ rest) x is hold = hold_after room n i rest x is hold

-- instructions that have room have it from each place on, where no operand is there at first
pub hold_from : (room n place : ℕ) (instrs : List Instr) → HoldWithin room n instrs → HoldWithin room 0 (drop place instrs)
hold_from room n zero instrs hold = fewer_hold room 0 n instrs (omega arith) hold
hold_from room n (suc place) [] hold = omega (arith, hold)
hold_from room n (suc place) (x ∷ rest) hold = hold_from room (count_after x n) place rest hold.1
