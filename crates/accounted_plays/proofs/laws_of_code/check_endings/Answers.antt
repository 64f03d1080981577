use Rattle.std.proofs.Common.{refl}
use Rattle.scan_paths.specs.Scans.{lengths_of}
use Rattle.machine_memory.specs.Zeros.{zeros_of_code}
use Rattle.code_plays.proofs.PlayLemmas.{has_ending}
use Rattle.code_plays.proofs.CodeLemmas.{zeros_of_code_fit}
use Rattle.accounted_plays.specs.CodeAccounts.{first_chain, plays_at}
use Rattle.accounted_plays.proofs.laws_of_code.check_endings.Goals as goal

pub returns : goal.returns
returns c = λ n.
    let code = c.args.code.now in let base = lengths_of c.args.base.now in let devices = c.args.task.now.devices.now in
    has_ending (plays_at code c.args.chosen.now base devices n)
    (c.never_stuck.ensures code c.raw-raw.ensures.in_range c.raw-raw.ensures.valid c.args.chosen.now c.requires (zeros_of_code code)
    (zeros_of_code_fit code c.raw-raw.ensures.in_range) n (first_chain base devices) refl)
