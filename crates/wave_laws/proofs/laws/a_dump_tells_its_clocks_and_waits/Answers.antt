use Rattle.wave_laws.proofs.ReadDumps.{same_clocks, same_length}
use Rattle.wave_laws.proofs.laws.a_dump_tells_its_clocks_and_waits.Goals as goal

pub returns : goal.returns
returns c = record { clocks = same_clocks; time = same_length }
