use Rattle.std.proofs.Common.{ap, min, ◌∙◌}
use Rattle.stapl_names.proofs.Search.{number_within, number_more, place_found}
use Rattle.stapl_names.proofs.names.Names.first_place.Goals as goal

pub block_of-requires : goal.block_of-requires
block_of-requires c =
    let numbers = c.numbers_of-number-items in
    number_within c.args.self.now c.args.name.now numbers.result.now c.loop-number.number-index numbers.ensures c.loop-number-test.true

pub loop-number-preserved : goal.loop-number-preserved
loop-number-preserved c =
    number_more c.args.self.now c.numbers_of-number-items.result.now c.args.block.now.uses c.loop-number.number-index c.loop-number.first _ c.block_of.result.now
    c.loop-number.invariant c.loop-number-test.true c.block_of.ensures (c.min-first.ensures ∙ ap (min c.loop-number.first) c.place_in-place.ensures)

pub returns : goal.returns
returns c =
    let numbers = c.numbers_of-number-items in
    place_found c.args.self.now c.args.name.now numbers.result.now c.args.block.now.uses c.loop-number.number-index c.loop-number.first numbers.ensures
    c.loop-number-test.false c.loop-number.invariant
