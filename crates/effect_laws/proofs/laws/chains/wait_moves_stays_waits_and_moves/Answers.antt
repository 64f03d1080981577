use Rattle.effect_laws.proofs.Chains.{waits_clocks, waits_both, waits_usec}
use Rattle.effect_laws.proofs.laws.chains.wait_moves_stays_waits_and_moves.Goals as goal

pub returns : goal.returns
returns c = record { clocks = waits_clocks; both = waits_both; usec = waits_usec }
