use Rattle.std.proofs.Common.{length, ◌∙◌, ap, min}
use Rattle.std.proofs.lemmas.List.{take_rest}
use Rattle.tool_io.proofs.ShelfLemmas.{gives_front}
use Rattle.tool_io.proofs.mem_shelf.fill.Goals as goal

pub returns-clause-gives : goal.returns-clause-gives
returns-clause-gives c =
    let left = rw take_rest at c.min.ensures in
    rw (c.copy_from_slice.ensures.after, take_rest)
    (gives_front c.args.bytes.now _ c.args.at c.min-n.result (length c.args.into.now)
    (c.min-n.ensures ∙ ap (λ k. min k 4294967295) left) c.requires.room)
