use Rattle.std.proofs.Common.{arith}
use Rattle.stapl_code.proofs.SizeLemmas.{taken_then, too_few, length_of_file}
use Rattle.code_ranges.proofs.sizes.take_file.Goals as goal

pub returns-then-take_constants : goal.returns-then-take_constants
returns-then-take_constants c =
    taken_then _ _ _ _ _ _ _ _ c.if-take_constants.true (length_of_file c.args.code.now) c.take_constants.ensures c.take_procedures_and_actions.ensures

pub returns-else-take_constants : goal.returns-else-take_constants
returns-else-take_constants c =
    let all = length_of_file c.args.code.now in too_few _ _ _ _ _ c.if-take_constants.false (omega arith) c.take_constants.ensures
