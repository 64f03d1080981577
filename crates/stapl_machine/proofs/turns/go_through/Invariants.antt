use Rattle.std.proofs.Common.{List, map, drop, ◌++◌}
use Rattle.stapl_meaning.specs.Deeds.{Deed, Goes}
use Rattle.written_cable.specs.Ports.{IsOpenPort, IsKept, Did}
use Rattle.stapl_machine.proofs.turns.go_through.Given as goal

abbrev pub invariant-loop-i : goal.invariant-loop-i
invariant-loop-i g l = record {
  open_now : IsOpenPort g.C.Cable g.O.Paper l.port;
  did : (rest : List Deed) → Did g.C.Cable g.O.Paper (map Goes l.states ++ rest) l.fn.port (map Goes (drop l.i l.states) ++ rest) l.port;
  kept : IsKept g.C.Cable g.O.Paper l.fn.port l.port;
}
