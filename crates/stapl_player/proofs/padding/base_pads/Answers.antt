use Rattle.std.proofs.Common.{◌-◌}
use Rattle.std.proofs.lemmas.List.{take_rest}
use Rattle.stapl_player.proofs.PadLemmas.{before_fit, after_fit}
use Rattle.stapl_player.proofs.padding.base_pads.Goals as goal

pub instruction_lengths-requires : goal.instruction_lengths-requires
instruction_lengths-requires c = record { fits = before_fit c.args.descs.now (c.args.first - 1) c.requires.good c.requires.most }

pub instruction_lengths-requires-2 : goal.instruction_lengths-requires-2
instruction_lengths-requires-2 c = record { fits = rw (take_rest c.args.descs.now c.args.last) (after_fit c.args.descs.now c.args.last c.requires.good c.requires.most) }
