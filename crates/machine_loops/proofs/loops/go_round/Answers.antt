use Rattle.std.proofs.Common.{rules, ◌≡◌, ℤ, false, List, ◌∷◌, reverse, take, sym, ap, ◌∙◌, w32, SFits}
use Rattle.std.proofs.lemmas.Int.{to_z-of_z}
use Rattle.std.specs.Int.{int_wrap, cast_signed, cast_unsigned}
use Rattle.std.specs.Prelude.{slice_get, ◌+ℤ◌}
use Rattle.stapl_meaning.specs.declared.records.Record.{Record}
use Rattle.stapl_meaning.specs.declared.records.Record.TheVariants.{Looped}
use Rattle.stapl_meaning.specs.declared.values.Value.TheVariants.{Int}
use Rattle.stapl_meaning.specs.Values.{Got, Known}
use Rattle.stapl_meaning.specs.States.{Resumes}
use Rattle.stapl_meaning.specs.Effects.{is_over, scalar_written}
use Rattle.stapl_code.specs.Machine.{Made, Does, does}
use Rattle.machine_memory.specs.Acts.{state_in, state_with}
use Rattle.machine_loops.proofs.LoopLemmas.{top_taken_at, round_more}
use Rattle.machine_loops.proofs.loops.go_round.Goals as goal

pub returns : goal.returns
returns c = λ told chosen.
    let old = c.args.memory.now in let l = c.args.found.for_loop in let records = old.records.items in let z = c.args.z in
    let over : is_over l z ≡ false = search rules in
    let step_fits : SFits w32 l.step = search rules in
    let next : c.sum-next.result ≡ int_wrap w32 (z +ℤ l.step) =
    c.sum-next.ensures
    ∙ ap (λ (x : ℤ). int_wrap w32 (x +ℤ cast_signed w32 (cast_unsigned w32 l.step))) (to_z-of_z w32 z c.ranges.z)
    ∙ ap (λ (x : ℤ). int_wrap w32 (z +ℤ x)) (to_z-of_z w32 l.step step_fits) in
    let written : scalar_written old.variables.items l.variable (slice_get old.variables.items l.variable) (Int c.sum-next.result) ≡ Known c.store.new.variables.items = search rules in
    let top : reverse c.keep_through.new.self.items ≡ Looped l ∷ reverse (take c.args.found.at records) =
    ap reverse c.keep_through.ensures.items ∙ top_taken_at records c.args.found.at (Looped l) c.requires.there c.requires.is in
    ap does (round_more l (reverse (take c.args.found.at records)) z c.sum-next.result (state_in chosen old) c.store.new.variables.items over next written)
    ∙ ap (λ (r : List Record). let g : Got Made = Known (Does (Resumes l.place (state_with chosen r old.ir old.dr c.store.new.variables.items))) in g) (sym top)
