use Rattle.std.proofs.Common.{◌≡◌, ◌+◌, ◌-◌, ◌/◌, ◌%◌, ◌^◌, ◌∷◌, [], ◌++◌, nat_eq, true, false, ap, ap₂, sym, subst, ◌∙◌, arith, List, ℕ}
use Rattle.base.specs.Bits.{low_bits}
use Rattle.dev_card.specs.Board.{Input}
use Rattle.dev_card.specs.Clocks.{clocks_with, still_inputs, part_inputs}
use Rattle.scan_paths.specs.Cables.{Signal, pulsed, Pulses}
use Rattle.run_cable.specs.KeptRuns.{Hears, HearsIfRoom}
use Rattle.run_cable.specs.RunCableLaws.{hears_both, fits_both}
use Rattle.run_cable.proofs.HeardLemmas.{still_block, last_of_block}
use Rattle.run_cable.proofs.runs.Runs.hear_block.Goals as goal

pub returns-then-not-last : goal.returns-then-not-last
returns-then-not-last c =
    let n = c.args.n in
    let same =
    ap (λ is. pulsed (clocks_with is (low_bits n c.args.tdo))) (sym (still_block (low_bits n c.args.tdi)))
    ∙ ap (λ l. pulsed (clocks_with (part_inputs l (low_bits n c.args.tdi)) (low_bits n c.args.tdo))) (sym c.if-not-last.true) in
    record {
      heard = subst (λ ss. Hears c.args.self.now ss c.hear_still.new.self) same c.hear_still.ensures.heard;
      fits = subst (λ ss. HearsIfRoom c.args.self.now ss c.hear_still.new.self) same c.hear_still.ensures.fits;
    }

pub returns : goal.returns
returns c =
    let n = c.args.n in let m = n - 1 in let old = c.args.self.now in let mid = c.hear_still-2.new.self in let new = c.hear.new.self in
    let front = pulsed (clocks_with (still_inputs (low_bits m c.args.tdi)) (low_bits m c.args.tdo)) in
    let back = Pulses (record { tms = true; tdi = nat_eq (c.args.tdi / 2 ^ m % 2) 1; tdo = nat_eq (c.args.tdo / 2 ^ m % 2) 1 }) ∷ [] in
    let more : m + 1 ≡ n = omega (arith, c.requires.some) in
    let same =
    last_of_block m c.args.tdi c.args.tdo
    ∙ ap₂ (λ k l. pulsed (clocks_with (part_inputs l (low_bits k c.args.tdi)) (low_bits k c.args.tdo))) more (sym c.if-not-last.false) in
    record {
      heard = subst (λ ss. Hears old ss new) same (hears_both old mid new front back c.hear_still-2.ensures.heard c.hear.ensures.heard);
      fits = subst (λ ss. HearsIfRoom old ss new) same
          (fits_both old mid new front back c.hear_still-2.ensures.heard c.hear_still-2.ensures.fits c.hear.ensures.fits);
    }
