use Rattle.std.proofs.Common.{get_or, ◌≡◌, ◌∷◌, [], List, sym, subst, ◌∙◌}
use Rattle.stapl_meaning.specs.States.{Did}
use Rattle.stapl_meaning.specs.Values.{Got}
use Rattle.stapl_meaning.specs.declared.values.Held.{Held}
use Rattle.std.specs.Prelude.{pos}
use Rattle.stapl_meaning.specs.declared.values.Value.TheVariants.{Int}
use Rattle.stapl_code.specs.Machine.{does}
use Rattle.machine_memory.specs.Acts.{IsMade, state_with}
use Rattle.machine_memory.specs.Arrays.{IsFoundPart, array_of, dest_span, range_span}
use Rattle.machine_memory.proofs.ArrayLemmas.{copied_range, two_items}
use Rattle.machine_copies.proofs.copying.copy_range.Goals as goal

pub returns-in_ok-from-in-len2 : goal.returns-in_ok-from-in-len2
returns-in_ok-from-in-len2 c = λ told chosen records ir dr.
    let vars = c.args.variables.now.items in let dest = c.args.dest in let vs = c.args.values.now in
    let found : IsFoundPart vars (array_of dest) (dest_span c.args.profile dest vs) c.in_ok-part.part =
    subst (λ (l : List Held). IsFoundPart l (array_of dest) (dest_span c.args.profile dest vs) c.in_ok-part.part) c.deref.ensures.value c.in_ok-part.ensures in
    let first = get_or c.after.result.now 0 (Int (pos 0)) in let second = get_or c.after.result.now 1 (Int (pos 0)) in
    let both : c.after.result.now ≡ first ∷ second ∷ [] = two_items c.after.result.now (Int (pos 0)) c.in-len2.len_at_least c.in-len2.len_below in
    let from : IsFoundPart vars c.args.from (range_span c.args.profile first second) c.in_ok-from-in-len2.from =
    subst (λ (l : List Held). IsFoundPart l c.args.from (range_span c.args.profile first second) c.in_ok-from-in-len2.from) c.deref-in-len2.ensures.value c.in_ok-from-in-len2.ensures in
    subst (λ (d : Got Did). IsMade c.copy_part.result told (state_with chosen records ir dr vars) (state_with chosen records ir dr c.copy_part.new.variables.items) (does d))
    (sym (copied_range c.args.profile dest vs c.in_ok-part.part chosen records ir dr vars found c.args.from first second c.in_ok-from-in-len2.from from (sym c.after.ensures ∙ both)))
    (c.copy_part.ensures told chosen records ir dr)
