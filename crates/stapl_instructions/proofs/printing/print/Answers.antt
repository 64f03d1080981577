use Rattle.std.proofs.Common.{[], ap}
use Rattle.stapl_code.specs.Machine.{does}
use Rattle.stapl_code.specs.Safe.{constants_of}
use Rattle.stapl_meaning.specs.Effects.{printed}
use Rattle.machine_memory.proofs.PrintLemmas.{print_stops}
use Rattle.stapl_instructions.proofs.printing.print.Goals as goal

pub returns-in-Ok-clause-made : goal.returns-in-Ok-clause-made
returns-in-Ok-clause-made c = λ entries s shifted. (ap (λ g. does (printed g s)) (c.in-Ok.ensures.joined entries), tt)

pub returns-in-Err-clause-made : goal.returns-in-Err-clause-made
returns-in-Err-clause-made c = λ entries s shifted.
    print_stops c.in-Err.stop (record { text = c.join.new.text.items; constants = constants_of c.args.code.now; states = []; shifted = shifted }) s _ (c.in-Err.ensures.joined entries)
