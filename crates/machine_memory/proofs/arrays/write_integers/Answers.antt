use Rattle.std.proofs.Common.{pos}
use Rattle.bit_list.proofs.Padding.{padded_parts}
use Rattle.machine_memory.proofs.arrays.write_integers.Goals as goal

pub returns : goal.returns
returns c =
    padded_parts (pos 0) c.min-n.result c.args.items.now c.args.list.now c.copy_from_slice.new.self c.fill.new.self c.min-n.ensures c.copy_from_slice.ensures.after
    (c.fill.ensures.after (λ y h. h))
