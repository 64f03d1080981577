use Rattle.dev_kinds.proofs.BlockNumbers.{cut_bits, cut_rest, cut_fits}
use Rattle.dev_kinds.proofs.blocks.cut.Goals as goal

pub overflow_cast-result-4 : goal.overflow_cast-result-4
overflow_cast-result-4 c = record { fits = cut_fits c.args.number c.args.n c.args.len c.requires.inside c.requires.rest c.requires.below }

pub returns-clause-bits : goal.returns-clause-bits
returns-clause-bits c = cut_bits c.args.number c.args.n c.args.len c.requires.most c.requires.inside

pub returns-clause-second : goal.returns-clause-second
returns-clause-second c = cut_rest c.args.number c.args.n c.args.len c.requires.inside c.requires.below
