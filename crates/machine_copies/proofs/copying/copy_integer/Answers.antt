use Rattle.std.proofs.Common.{get_or, List, sym, subst, ◌∙◌}
use Rattle.stapl_meaning.specs.States.{Did}
use Rattle.stapl_meaning.specs.Values.{Got}
use Rattle.stapl_meaning.specs.declared.values.Held.{Held}
use Rattle.std.specs.Prelude.{pos}
use Rattle.stapl_code.specs.Machine.{does}
use Rattle.machine_memory.specs.Acts.{IsMade, state_with}
use Rattle.machine_memory.specs.Arrays.{IsFoundPart, array_of, dest_span}
use Rattle.stapl_meaning.specs.declared.values.Value.TheVariants.{Int}
use Rattle.machine_memory.proofs.ArrayLemmas.{copied_integer, one_item}
use Rattle.machine_copies.proofs.copying.copy_integer.Goals as goal

pub returns-in-len1 : goal.returns-in-len1
returns-in-len1 c = λ told chosen records ir dr.
    let vars = c.args.variables.now.items in let dest = c.args.dest in let vs = c.args.values.now in
    let found : IsFoundPart vars (array_of dest) (dest_span c.args.profile dest vs) c.in_ok-part.part =
    subst (λ (l : List Held). IsFoundPart l (array_of dest) (dest_span c.args.profile dest vs) c.in_ok-part.part) c.deref.ensures.value c.in_ok-part.ensures in
    let value = get_or c.after.result.now 0 (Int (pos 0)) in
    let is = one_item c.after.result.now (Int (pos 0)) c.in-len1.len_at_least c.in-len1.len_below in
    subst (λ (d : Got Did). IsMade c.fill_integer.result told (state_with chosen records ir dr vars) (state_with chosen records ir dr c.fill_integer.new.variables.items) (does d))
    (sym (copied_integer c.args.profile dest vs c.in_ok-part.part chosen records ir dr vars found value (sym c.after.ensures ∙ is)))
    (c.fill_integer.ensures told chosen records ir dr)
