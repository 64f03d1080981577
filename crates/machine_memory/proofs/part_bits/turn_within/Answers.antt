use Rattle.std.proofs.Common.{sym, ap, ◌∙◌}
use Rattle.bit_list.specs.Ranges.{taken, spliced}
use Rattle.bit_list.proofs.Splices.{spliced_same}
use Rattle.stapl_meaning.specs.Values.{turned}
use Rattle.machine_memory.proofs.part_bits.turn_within.Goals as goal

pub returns-else-falls : goal.returns-else-falls
returns-else-falls c =
    let low = c.args.low in let n = c.args.n in let bits = c.args.bits.now in
    sym (ap (λ f. spliced low (turned f (taken low n bits)) bits) c.if-falls.false ∙ spliced_same low n bits c.requires)
