use Rattle.std.specs.Prelude.{pos}
use Rattle.stapl_meaning.specs.declared.values.Value.TheVariants.{Int}
use Rattle.machine_memory.proofs.ArrayLemmas.{one_item}
use Rattle.machine_copies.proofs.copying.taken_integer.Goals as goal

pub returns-in-len1 : goal.returns-in-len1
returns-in-len1 c = λ variables. rw (one_item c.args.values.now (Int (pos 0)) c.in-len1.len_at_least c.in-len1.len_below) (c.same_integer.ensures variables)
