use Rattle.std.proofs.Common.{refl}
use Rattle.print_tool.specs.declared.status.PrintStatus.TheVariants.{Done}
use Rattle.print_tool.proofs.CanonicalLemmas.{printed_is_canonical}
use Rattle.print_tool.proofs.laws.what_is_printed_is_the_same_program.Goals as goal

pub returns : goal.returns
returns c = λ bytes text a. printed_is_canonical bytes text Done a refl
