use Rattle.std.proofs.Common.{rules, arith, w32, SFits}
use Rattle.std.proofs.lemmas.Int.{to_z-of_z}
use Rattle.machine_memory.proofs.ArrayLemmas.{integer_put}
use Rattle.machine_copies.proofs.copying.fill_integer.Goals as goal

pub returns-else-part-gt32 : goal.returns-else-part-gt32
returns-else-part-gt32 c = λ told chosen records ir dr.
    let z = c.in-Int.value in let fits : SFits w32 z = search rules in
    integer_put c.args.part c.args.value z _ c.args.variables.now.items _ chosen records ir dr c.in-Int.is (to_z-of_z w32 z fits) (omega arith) c.put_integer.ensures
