use Rattle.std.proofs.Common.{◌∙◌, ap, length}
use Rattle.std.proofs.lemmas.List.FromFn.{length-range_with_len}
use Rattle.stapl_codegen.proofs.compiling.names_of_program.Goals as goal

pub collect-requires-clause-alike : goal.collect-requires-clause-alike
collect-requires-clause-alike c =
    ap length c.deref.ensures.value ∙ ap length c.in_ok-numbers.ensures ∙ length-range_with_len 1 _
