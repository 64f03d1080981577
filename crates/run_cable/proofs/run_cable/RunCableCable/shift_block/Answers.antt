use Rattle.std.proofs.Common.{◌≡◌, ap, sym, subst, ◌∙◌, refl}
use Rattle.base.specs.Bits.{low_bits}
use Rattle.base.proofs.NumberBits.{length-low_bits}
use Rattle.dev_card.specs.Blocks.{block_inputs}
use Rattle.scan_paths.specs.Cables.{pulsed}
use Rattle.run_cable.specs.KeptRuns.{Hears, HearsIfRoom}
use Rattle.run_cable.proofs.HeardLemmas.{clocks_are, count_of_inputs}
use Rattle.run_cable.proofs.run_cable.RunCableCable.shift_block.Goals as goal

pub returns-in-Ok-clause-shifted : goal.returns-in-Ok-clause-shifted
returns-in-Ok-clause-shifted g c =
    let s = c.in-Ok.ensures.shifted in let n = c.args.n in let made = s.made in
    let count = count_of_inputs c.args.last (low_bits n c.args.tdi) ∙ length-low_bits n c.args.tdi in
    let ks = clocks_are s.clocks (block_inputs c.args.tdi n c.args.last) c.in-Ok.tdo n made.went_in count s.bits in
    record {
      clocks = s.clocks;
      made = record {
        made = record {
          same_cable = refl;
          same_runs = refl;
          made = made.made;
          heard = subst (λ ks. Hears c.args.self.now.runs.now (pulsed ks) c.hear_block.new.self) ks c.hear_block.ensures.heard;
          was_whole = λ e. c.requires.whole;
          fits = λ e. subst (λ ks. HearsIfRoom c.args.self.now.runs.now (pulsed ks) c.hear_block.new.self) ks c.hear_block.ensures.fits;
        };
        went_in = made.went_in;
        seen = made.seen;
        cards = made.cards;
      };
      bits = s.bits;
    }
