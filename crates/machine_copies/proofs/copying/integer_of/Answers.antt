use Rattle.std.proofs.Common.{slice_get, sym, ap, subst, ◌∙◌}
use Rattle.stapl_meaning.specs.Values.{Got, then_get, source_integer}
use Rattle.stapl_meaning.specs.Values as values
use Rattle.stapl_meaning.specs.declared.values.Value.{Value}
use Rattle.stapl_code.specs.Machine.{known_source, known_literal}
use Rattle.stapl_code.specs.Safe.{constants_of}
use Rattle.machine_memory.specs.Found.{IsValue}
use Rattle.machine_copies.proofs.copying.integer_of.Goals as goal

pub returns-in-Some : goal.returns-in-Some
returns-in-Some c =
    let go = λ (from : values.Source). source_integer c.args.variables.now from c.args.values.now in
    let is = ap (λ s. then_get (known_source (constants_of c.args.code.now) s) go) c.in-Literal.is
    ∙ ap (λ o. then_get (known_literal o) go) (ap (λ l. slice_get l c.in-Literal.n) (sym c.as_slice.ensures) ∙ c.in-Some.ensures.some) in
    subst (λ (g : Got Value). IsValue c.literal_integer.result g) (sym is) (c.literal_integer.ensures c.args.variables.now)

pub returns-in-None : goal.returns-in-None
returns-in-None c =
    let go = λ (from : values.Source). source_integer c.args.variables.now from c.args.values.now in
    ap (λ s. then_get (known_source (constants_of c.args.code.now) s) go) c.in-Literal.is
    ∙ ap (λ o. then_get (known_literal o) go) (ap (λ l. slice_get l c.in-Literal.n) (sym c.as_slice.ensures) ∙ c.in-None.ensures.none)

pub returns-in-FromInt : goal.returns-in-FromInt
returns-in-FromInt c =
    let go = λ (from : values.Source). source_integer c.args.variables.now from c.args.values.now in
    subst (λ (g : Got Value). IsValue c.taken_integer.result g) (sym (ap (λ s. then_get (known_source (constants_of c.args.code.now) s) go) c.in-FromInt.is))
    (c.taken_integer.ensures c.args.variables.now)
