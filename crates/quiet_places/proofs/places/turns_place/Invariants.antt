use Rattle.std.proofs.Common.{◌≡◌, ◌≤◌, ◌-◌, []}
use Rattle.machine_memory.specs.Acts.{state_of}
use Rattle.written_cable.specs.Ports.{IsOpenPort, Runs}
use Rattle.machine_memory.specs.RunRooms.{HasRoom}
use Rattle.stapl_machine.specs.Runs.{run_of, run_ticks_of}
use Rattle.quiet_places.proofs.places.turns_place.Given as goal

abbrev pub invariant-loop-turn : goal.invariant-loop-turn
invariant-loop-turn g l =
    let m = g.C.Cable in
    record {
      open_now : IsOpenPort m g.O.Paper l.port;
      room : HasRoom l.code l.work;
      none : l.work.operands.items ≡ [];
      within : l._turn ≤ l.turns;
      runs : Runs m g.O.Paper (run_of l.code l.turns l.start (state_of l.chosen l.fn.work))
          (run_ticks_of l.code l.turns l.start (state_of l.chosen l.fn.work)) l.fn.port l.fn.steps
          (run_of l.code (l.turns - l._turn) l.place (state_of l.chosen l.work)) (run_ticks_of l.code (l.turns - l._turn) l.place (state_of l.chosen l.work)) l.port l.steps;
    }
