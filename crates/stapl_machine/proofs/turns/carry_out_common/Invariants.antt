use Rattle.std.proofs.Common.{◌≡◌, ℕ, ◌+◌, List}
use Rattle.stapl_meaning.specs.Deeds.{Chain}
use Rattle.machine_memory.specs.RunRooms.{HoldsFrom, KeepsRoom}
use Rattle.stapl_machine.specs.Turns.{rest_of, ticks_from}
use Rattle.stapl_machine.proofs.turns.carry_out_common.Given as goal

abbrev pub invariant-loop-i : goal.invariant-loop-i
invariant-loop-i g l = record {
  does : (chosen : List ℕ) (k : Chain) → rest_of l.code l.fn.from chosen l.fn.work k ≡ rest_of l.code l.i chosen l.work k;
  few : HoldsFrom l.code l.i l.work;
  room : KeepsRoom l.fn.work l.work;
  ticked : (chosen : List ℕ) (k : Chain) → l.steps + ticks_from l.code l.i chosen l.work k ≡ l.fn.steps + ticks_from l.code l.fn.from chosen l.fn.work k;
}
