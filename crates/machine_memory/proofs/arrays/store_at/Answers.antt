use Rattle.std.proofs.Common.{rules, ◌≡◌, ◌<◌, length, subst, w32, ℤ}
use Rattle.std.proofs.lemmas.Int.{to_z-of_z}
use Rattle.stapl_meaning.specs.Values.{Known}
use Rattle.stapl_meaning.specs.Effects.{with_element}
use Rattle.machine_memory.specs.Found.{IsGot}
use Rattle.machine_memory.proofs.PrintLemmas.{item_at}
use Rattle.machine_memory.proofs.ArrayLemmas.{element_stored}
use Rattle.machine_memory.proofs.arrays.store_at.Goals as goal

pub returns-clause-written : goal.returns-clause-written
returns-clause-written c =
    let vars = c.args.variables.now.items in let old = c.index_mut.result.now in
    let inside : c.args.n < length vars = search rules in
    element_stored c.set_element.result vars c.args.n old c.set_element.new.held c.args.index c.args.value
    (item_at vars c.args.n old inside c.index_mut.ensures.value)
    (subst (λ (i : ℤ). IsGot {A = Unit {0}} (λ done g. g ≡ Known c.set_element.new.held) c.set_element.result (with_element old i c.args.value))
    (to_z-of_z w32 c.args.index c.ranges.index) c.set_element.ensures.written)
