use Rattle.std.proofs.Common.{◌∙◌, ap, reverse}
use Rattle.bit_list.specs.Ranges.{taken}
use Rattle.bit_list.proofs.ReversedBits.{number_read}
use Rattle.bit_list.proofs.Bits.reversed_word.Goals as goal

pub returns-clause-value : goal.returns-clause-value
returns-clause-value c =
    number_read c.args.n c.reversed.result (reverse (taken c.args.at c.args.n c.args.self.now)) c.reversed.ensures.fits
    (c.reversed.ensures.bits ∙ ap reverse c.word.ensures.bits)
