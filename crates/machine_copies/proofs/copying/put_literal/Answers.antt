use Rattle.std.proofs.Common.{false}
use Rattle.stapl_meaning.specs.Values.{padded}
use Rattle.machine_memory.proofs.ArrayLemmas.{part_put}
use Rattle.machine_copies.proofs.copying.put_literal.Goals as goal

pub returns : goal.returns
returns c =
    part_put c.args.variables.now.items c.args.part (padded false c.args.part.span.count c.args.literal.now) c.index_mut.result.now c.pad_bits.new.held
    c.requires.there c.index_mut.ensures.value c.pad_bits.ensures
