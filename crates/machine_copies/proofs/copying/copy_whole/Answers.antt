use Rattle.std.proofs.Common.{◌≡◌, [], List, sym, subst, ◌∙◌}
use Rattle.stapl_meaning.specs.States.{Did}
use Rattle.stapl_meaning.specs.Values.{Got}
use Rattle.stapl_meaning.specs.declared.values.Held.{Held}
use Rattle.stapl_code.specs.Machine.{does}
use Rattle.machine_memory.specs.Acts.{IsMade, state_with}
use Rattle.machine_memory.specs.Arrays.{IsFoundPart, array_of, dest_span, whole_span}
use Rattle.machine_memory.proofs.ArrayLemmas.{copied_whole, no_item_left}
use Rattle.machine_copies.proofs.copying.copy_whole.Goals as goal

pub returns-in_ok-from-in-empty : goal.returns-in_ok-from-in-empty
returns-in_ok-from-in-empty c = λ told chosen records ir dr.
    let vars = c.args.variables.now.items in let dest = c.args.dest in let vs = c.args.values.now in
    let found : IsFoundPart vars (array_of dest) (dest_span c.args.profile dest vs) c.in_ok-part.part =
    subst (λ (l : List Held). IsFoundPart l (array_of dest) (dest_span c.args.profile dest vs) c.in_ok-part.part) c.deref.ensures.value c.in_ok-part.ensures in
    let from : IsFoundPart vars c.args.from whole_span c.in_ok-from-in-empty.from =
    subst (λ (l : List Held). IsFoundPart l c.args.from whole_span c.in_ok-from-in-empty.from) c.deref-in-empty.ensures.value c.in_ok-from-in-empty.ensures in
    let none : c.after.result.now ≡ [] = no_item_left c.after.result.now c.in-empty.len_below in
    subst (λ (d : Got Did). IsMade c.copy_part.result told (state_with chosen records ir dr vars) (state_with chosen records ir dr c.copy_part.new.variables.items) (does d))
    (sym (copied_whole c.args.profile dest vs c.in_ok-part.part chosen records ir dr vars found c.args.from c.in_ok-from-in-empty.from from (sym c.after.ensures ∙ none)))
    (c.copy_part.ensures told chosen records ir dr)
