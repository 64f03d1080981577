use Rattle.std.proofs.Common.{map, drop}
use Rattle.chain_sim.specs.Places.{cards_at}
use Rattle.chain_sim.specs.Reports.{report_in, PutsBut}
use Rattle.chain_sim.proofs.report.put_report.Given as goal

abbrev pub invariant-loop-i : goal.invariant-loop-i
invariant-loop-i g l = record {
  puts : PutsBut g.K.Sink (report_in (cards_at (map g.D.Device.fitted l.rack) l.places)) l.fn.out
      (report_in (cards_at (map g.D.Device.fitted l.rack) (drop l.i l.places))) l.out;
}
