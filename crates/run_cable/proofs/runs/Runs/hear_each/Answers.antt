use Rattle.std.proofs.Common.{◌≡◌, ◌+◌, ◌/◌, ◌%◌, ◌^◌, ◌∷◌, [], nat_eq, false, subst}
use Rattle.base.specs.Bits.{low_bits}
use Rattle.dev_card.specs.Clocks.{clocks_with, still_inputs}
use Rattle.scan_paths.specs.Cables.{pulsed, Pulses}
use Rattle.run_cable.specs.KeptRuns.{Hears, HearsIfRoom}
use Rattle.run_cable.specs.RunCableLaws.{hears_both, fits_both}
use Rattle.run_cable.proofs.HeardLemmas.{last_of_still}
use Rattle.run_cable.proofs.runs.Runs.hear_each.Goals as goal

pub loop-i-preserved : goal.loop-i-preserved
loop-i-preserved c =
    let i = c.loop-i.i in let tdi = c.args.tdi in let tdo = c.args.tdo in
    let old = c.args.self.now in let mid = c.loop-i.self in let new = c.hear.new.self in
    let front = pulsed (clocks_with (still_inputs (low_bits i tdi)) (low_bits i tdo)) in
    let back = Pulses (record { tms = false; tdi = nat_eq (tdi / 2 ^ i % 2) 1; tdo = nat_eq (tdo / 2 ^ i % 2) 1 }) ∷ [] in
    let before = c.loop-i.invariant in
    record {
      heard = subst (λ ss. Hears old ss new) (last_of_still i tdi tdo) (hears_both old mid new front back before.heard c.hear.ensures.heard);
      fits = subst (λ ss. HearsIfRoom old ss new) (last_of_still i tdi tdo)
          (fits_both old mid new front back before.heard before.fits c.hear.ensures.fits);
    }
