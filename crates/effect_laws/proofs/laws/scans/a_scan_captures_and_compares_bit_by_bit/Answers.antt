use Rattle.effect_laws.proofs.Captured.{scans_bits}
use Rattle.effect_laws.proofs.CapturedInside.{scans_inside}
use Rattle.effect_laws.proofs.laws.scans.a_scan_captures_and_compares_bit_by_bit.Goals as goal

pub returns : goal.returns
returns c = record { scalar = scans_bits; inside = scans_inside }
