use Rattle.std.proofs.Common.{arith}
use Rattle.bit_list.proofs.Padding.{padded_splice}
use Rattle.bit_list.proofs.Bits.copy_padded.Goals as goal

pub returns-clause-copied : goal.returns-clause-copied
returns-clause-copied c =
    padded_splice c.args.at c.args.n c.min-count.result c.args.from.now c.args.self.now c.copy_range.new.self
    c.fill_range.new.self (omega arith) c.requires.target c.copy_range.ensures.copied c.fill_range.ensures.bits
