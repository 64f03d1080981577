use Rattle.std.proofs.Common.{rules, w32, ℤ, ap, SFits}
use Rattle.stapl_meaning.specs.declared.values.Value.{Value}
use Rattle.stapl_meaning.specs.declared.values.Value.TheVariants.{Int}
use Rattle.stapl_meaning.specs.Values.{Got, Known}
use Rattle.machine_memory.proofs.ArrayLemmas.{same_integer}
use Rattle.machine_copies.proofs.copying.same_integer.Goals as goal

pub returns-in-Int : goal.returns-in-Int
returns-in-Int c = λ variables.
    let fits : SFits w32 c.in-Int.field-0 = search rules in
    rw c.in-Int.is (ap (λ (x : ℤ). let g : Got Value = Known (Int x) in g) (same_integer c.in-Int.field-0 fits))
