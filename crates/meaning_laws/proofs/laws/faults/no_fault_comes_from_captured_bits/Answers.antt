use Rattle.meaning_laws.proofs.TurnLemmas.{scans_faultless}
use Rattle.meaning_laws.proofs.laws.faults.no_fault_comes_from_captured_bits.Goals as goal

pub returns : goal.returns
returns c = scans_faultless
