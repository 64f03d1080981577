use Rattle.std.proofs.Common.{◌≡◌, ◌+◌, ◌⊎◌, true, length}
use Rattle.tool_io.specs.Causes.{IsSaturated, CountKept}
use Rattle.link_server.specs.Counts.{CountStill}
use Rattle.link_cable.specs.Wires.{told_sent, HasTaken, HasRoom}
use Rattle.link_cable.proofs.calls.send_all.Given as goal

abbrev pub invariant-turns : goal.invariant-turns
invariant-turns g l =
    let w = g.W.Wire in
    record {
      ready : w.is_ready l.wire ≡ true;
      steady : w.is_steady l.fn.wire ≡ true → w.is_steady l.wire ≡ true;
      sent : told_sent (w.told l.wire) l.rest ≡ told_sent (w.told l.fn.wire) l.bytes;
      taken : HasTaken w.carried l.fn.wire l.bytes l.rest l.wire;
      room : HasRoom (w.told l.fn.wire) (w.is_steady l.fn.wire) (length l.bytes) → HasRoom (w.told l.wire) (w.is_steady l.wire) (length l.rest);
      kept : CountKept (w.faults l.fn.wire + l.fn.faults) (w.faults l.wire + l.faults)
          (w.is_last l.fn.wire ⊎ IsSaturated l.fn.faults) (w.is_last l.wire ⊎ IsSaturated l.faults);
      calm : CountStill (w.faults l.fn.wire + l.fn.faults) (w.faults l.wire + l.faults)
          (w.is_last l.fn.wire ⊎ IsSaturated l.fn.faults) (w.is_last l.wire ⊎ IsSaturated l.faults);
    }

abbrev pub decreases-turns : goal.decreases-turns
decreases-turns g l = length l.rest
