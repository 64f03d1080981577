use Rattle.machine_memory.proofs.ArrayLemmas.{moved_put}
use Rattle.machine_copies.proofs.copying.put_part.Goals as goal

pub returns-then-part-from : goal.returns-then-part-from
returns-then-part-from c =
    moved_put c.args.variables.now.items c.args.part c.args.from c.index_mut.result.now c.move_bits.new.held
    c.requires.is_part.there c.if-part-from.true c.index_mut.ensures.value c.move_bits.ensures
