use Rattle.std.proofs.Common.{rules, ◌≡◌, ℤ, [], ◌∷◌, get_or, subst, pos, w32, SFits}
use Rattle.std.proofs.lemmas.Int.{to_z-of_z}
use Rattle.std.specs.Int.{cast_signed, cast_unsigned}
use Rattle.stapl_meaning.specs.declared.values.Value.TheVariants.{Int}
use Rattle.stapl_meaning.specs.declared.records.Loop.{Loop}
use Rattle.stapl_code.specs.Machine.{does}
use Rattle.machine_memory.specs.Acts.{IsMade, state_in}
use Rattle.machine_loops.specs.Loops.{begun_loop}
use Rattle.machine_loops.proofs.LoopLemmas.{three_items}
use Rattle.machine_loops.proofs.loops.begin_loop.Goals as goal

pub returns-in-Int : goal.returns-in-Int
returns-in-Int c = λ told chosen.
    let vs = c.args.values.now in let first = c.in-Int.first in let limit = c.in-Int.limit in let step = c.in-Int.step in
    let old = c.args.memory.now in let new = c.begin.new.memory in
    let item_0 : get_or vs 0 (Int (pos 0)) ≡ Int first = search rules in
    let item_1 : get_or vs 1 (Int (pos 0)) ≡ Int limit = search rules in
    let item_2 : get_or vs 2 (Int (pos 0)) ≡ Int step = search rules in
    let three = three_items vs (Int (pos 0)) c.in-Int.len_at_least c.in-Int.len_below in
    let all : vs ≡ Int first ∷ Int limit ∷ Int step ∷ [] = cc in
    let first_fits : SFits w32 first = search rules in
    let limit_fits : SFits w32 limit = search rules in
    let step_fits : SFits w32 step = search rules in
    let for_loop = λ (l s : ℤ). let t : Loop = record { variable = c.args.n; limit = l; step = s; place = c.args.body } in t in
    let is = λ (l s f : ℤ). IsMade c.begin.result told (state_in chosen old) (state_in chosen new) (does (begun_loop (for_loop l s) f (state_in chosen old))) in
    let round = λ (z : ℤ). cast_signed w32 (cast_unsigned w32 z) in
    rw all (subst (λ (f : ℤ). is limit step f) (to_z-of_z w32 first first_fits)
    (subst (λ (s : ℤ). is limit s (round first)) (to_z-of_z w32 step step_fits)
    (subst (λ (l : ℤ). is l (round step) (round first)) (to_z-of_z w32 limit limit_fits) (c.begin.ensures told chosen))))
