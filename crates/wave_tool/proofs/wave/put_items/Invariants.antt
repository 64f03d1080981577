use Rattle.std.proofs.Common.{length, ◌-◌}
use Rattle.wave_tool.specs.Found.{wave_held}
use Rattle.wave_tool.proofs.WaveLemmas.{ArePutUpTo}
use Rattle.wave_tool.proofs.wave.put_items.Given as goal

abbrev pub invariant-lines : goal.invariant-lines
invariant-lines g l = record {
  put : ArePutUpTo g.K.Sink l.text l.fn.lines l.lines l.at (wave_held l.wave);
}

abbrev pub decreases-lines : goal.decreases-lines
decreases-lines g l = length l.text - l.at
