use Rattle.std.proofs.Common.{rules}
use Rattle.dev_kinds.proofs.BlockNumbers.{lowest_same, lowest_below}
use Rattle.dev_kinds.proofs.blocks.through.Goals as goal

pub join-requires-clause-high : goal.join-requires-clause-high
join-requires-clause-high c = lowest_below c.args.n c.args.number c.lowest.result c.lowest.ensures

pub returns-clause-bits : goal.returns-clause-bits
returns-clause-bits c =
    let same = lowest_same c.args.n c.args.number c.lowest.result c.lowest.ensures in
    search rules
