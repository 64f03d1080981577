use Rattle.std.proofs.Common.{◌-◌, length}
use Rattle.written_cable.specs.Ports.{IsOpenPort, IsKept, Does}
use Rattle.machine_memory.specs.RunRooms.{HasRoom, HoldsFrom, KeepsRoom}
use Rattle.stapl_machine.specs.Turns.{rest_of, ticks_from}
use Rattle.stapl_machine.proofs.turns.rest_of_turn.Given as goal

abbrev pub invariant-parts : goal.invariant-parts
invariant-parts g l =
    let m = g.C.Cable in
    record {
      open_now : IsOpenPort m g.O.Paper l.port;
      room : HasRoom l.code l.work;
      kept_room : KeepsRoom l.fn.work l.work;
      few : HoldsFrom l.code l.place l.work;
      does : Does m g.O.Paper (rest_of l.code l.fn.from l.chosen l.fn.work) (ticks_from l.code l.fn.from l.chosen l.fn.work) l.fn.port l.fn.steps
          (rest_of l.code l.place l.chosen l.work) (ticks_from l.code l.place l.chosen l.work) l.port l.steps;
      kept : IsKept m g.O.Paper l.fn.port l.port;
    }

abbrev pub decreases-parts : goal.decreases-parts
decreases-parts g l = length l.code.instrs - l.place
