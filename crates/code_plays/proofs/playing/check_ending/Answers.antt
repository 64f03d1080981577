use Rattle.std.proofs.Common.{map, refl}
use Rattle.dev_card.specs.Card.{fresh}
use Rattle.dev_card.specs.FarEnds.{Told}
use Rattle.stapl_meaning.specs.Plays.{chain_reset}
use Rattle.machine_memory.specs.Zeros.{zeros_of_code}
use Rattle.code_plays.specs.CodePlays.{task_base, task_play}
use Rattle.code_plays.proofs.PlayLemmas.{has_ending}
use Rattle.code_plays.proofs.CodeLemmas.{zeros_of_code_fit}
use Rattle.code_plays.proofs.playing.check_ending.Goals as goal

pub returns : goal.returns
returns c =
    let task = c.args.task.now in
    has_ending (task_play c.args.code.now c.args.chosen.now task)
    (c.never_stuck.ensures c.args.code.now c.raw-raw.ensures.in_range c.raw-raw.ensures.valid c.args.chosen.now c.requires (zeros_of_code c.args.code.now)
    (zeros_of_code_fit c.args.code.now c.raw-raw.ensures.in_range) task.request.now.turns
    (chain_reset (task_base task) (Told (map fresh task.devices.now))) refl)
