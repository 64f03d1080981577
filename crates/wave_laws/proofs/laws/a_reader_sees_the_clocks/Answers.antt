use Rattle.wave_laws.proofs.ReadDumps.{clocks_seen, time_seen, shown_before, shown_at_end}
use Rattle.wave_laws.proofs.laws.a_reader_sees_the_clocks.Goals as goal

pub returns : goal.returns
returns c = record { clocks = clocks_seen; time = time_seen; before = shown_before; end = shown_at_end }
