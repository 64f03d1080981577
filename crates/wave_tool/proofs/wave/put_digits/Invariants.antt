use Rattle.std.proofs.Common.{length, ◌-◌}
use Rattle.wave_tool.specs.Found.{wave_held}
use Rattle.wave_tool.proofs.WaveLemmas.{AreClockedUpTo}
use Rattle.wave_tool.proofs.wave.put_digits.Given as goal

abbrev pub invariant-clocks : goal.invariant-clocks
invariant-clocks g l = record {
  clocked : AreClockedUpTo g.K.Sink l.digits l.fn.lines l.lines (wave_held l.fn.wave) l.n (wave_held l.after);
}

abbrev pub decreases-clocks : goal.decreases-clocks
decreases-clocks g l = length l.digits - l.n
