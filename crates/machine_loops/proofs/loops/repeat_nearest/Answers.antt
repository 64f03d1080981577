use Rattle.std.proofs.Common.{rules, ◌≡◌, ℤ, reverse, take, sym, ap, subst, ◌∙◌, w32, SFits}
use Rattle.std.proofs.lemmas.Int.{to_z-of_z}
use Rattle.std.specs.Int.{cast_signed, cast_unsigned}
use Rattle.std.specs.Prelude.{slice_get}
use Rattle.stapl_meaning.specs.Values.{Got, Known}
use Rattle.stapl_meaning.specs.States.{Did}
use Rattle.stapl_meaning.specs.Effects.{nearest_loop, integer_held, went_round}
use Rattle.stapl_code.specs.Machine.{does}
use Rattle.machine_memory.specs.Acts.{IsMade, state_in}
use Rattle.machine_loops.specs.Loops.{IsNearest}
use Rattle.machine_loops.proofs.LoopLemmas.{loop_known}
use Rattle.machine_loops.proofs.loops.repeat_nearest.Goals as goal

pub returns-in_ok-z-in-Some : goal.returns-in_ok-z-in-Some
returns-in_ok-z-in-Some c = λ told chosen.
    let old = c.args.memory.now in let found = c.in-Some.found in let s = state_in chosen old in let z = c.in_ok-z-in-Some.z in
    let records = old.records.items in
    let nearest : IsNearest records c.args.n found = search rules in
    let held : integer_held (slice_get old.variables.items c.args.n) ≡ Known z = search rules in
    let fits : SFits w32 z = search rules in
    let round = cast_signed w32 (cast_unsigned w32 z) in
    subst (λ (d : Got Did). IsMade c.go_round.result told s (state_in chosen c.go_round.new.memory) (does d))
    (sym (loop_known (nearest_loop c.args.n (reverse records)) (integer_held (slice_get old.variables.items c.args.n)) found.for_loop (reverse (take found.at records)) round
    (λ l r z. went_round l r z s) nearest.nearest (held ∙ ap (λ (x : ℤ). let g : Got ℤ = Known x in g) (sym (to_z-of_z w32 z fits)))))
    (c.go_round.ensures told chosen)
