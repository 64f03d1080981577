use Rattle.base.specs.Bits.{low_bits}
use Rattle.dev_card.specs.Clocks.{clocks_with, still_inputs}
use Rattle.scan_paths.specs.Cables.{pulsed}
use Rattle.run_cable.specs.KeptRuns.{Hears, HearsIfRoom}
use Rattle.run_cable.proofs.runs.Runs.hear_each.Given as goal

abbrev pub invariant-loop-i : goal.invariant-loop-i
invariant-loop-i l = record {
  heard : Hears l.fn.self (pulsed (clocks_with (still_inputs (low_bits l.i l.tdi)) (low_bits l.i l.tdo))) l.self;
  fits : HearsIfRoom l.fn.self (pulsed (clocks_with (still_inputs (low_bits l.i l.tdi)) (low_bits l.i l.tdo))) l.self;
}
