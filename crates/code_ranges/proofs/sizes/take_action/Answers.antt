use Rattle.std.proofs.Common.{◌+◌, length, arith, length-append}
use Rattle.stapl_code.specs.Fields.{counted}
use Rattle.stapl_code.specs.Files.{item}
use Rattle.stapl_code.specs.Sizes.{bytes_of}
use Rattle.stapl_code.proofs.SizeLemmas.{length_of_counted, taken_then}
use Rattle.code_ranges.proofs.sizes.take_action.Goals as goal

pub returns-then-take : goal.returns-then-take
returns-then-take c =
    let items = c.args.taken.now.items in
    let all = length_of_counted item items in
    let both = length-append c.args.taken.now.name (counted item items) in
    taken_then (5 + length c.bytes.result.now) (bytes_of item c.as_slice.result.now) _ _ _ _ _ _ c.if-take.true
    (rw (c.bytes.ensures.value, c.as_slice.ensures) (omega arith)) c.take.ensures c.take_items.ensures
