use Rattle.std.proofs.Common.{◌≡◌, ◌+◌, Bool, false, drop, sym, ap, ◌∙◌, arith}
use Rattle.std.specs.Prelude.{◌&&◌}
use Rattle.stapl_code.specs.Valid.{rest_break}
use Rattle.valid_codes.proofs.BreakSteps.{break_here, break_more}
use Rattle.valid_codes.proofs.valid.procedure_break.Goals as goal
use Rattle.valid_codes.proofs.valid.procedure_break.Goals.{then-not-found-via-then-not-found, then-not-found-via-else-not-found+then-not-stands}

pub loop-i-preserved : goal.loop-i-preserved
loop-i-preserved c =
    let variables = c.args.variables.now in
    let entry = c.args.entry in
    let procedure = c.args.procedure.now in
    let i = c.loop-i.i in
    let after = c.follow.new.kinds in
    let more =
    break_more variables entry procedure i c.index-procedure-i.result c.loop-i-test.true c.index-procedure-i.is
    c.loop-i.must_turn c.loop-i.kinds after c.in_ok-found.found c.stands_well-stands.result c.in_ok-found.ensures
    c.if-not-found.false c.stands_well-stands.ensures c.if-not-stands.false
    in
    ap (λ (m : Bool). rest_break variables entry procedure (entry + (i + 1)) m after (drop (i + 1) procedure))
    c.departs-must_turn.ensures
    ∙ sym more ∙ c.loop-i.invariant

pub returns-then-not-found : goal.returns-then-not-found
returns-then-not-found c =
    let variables = c.args.variables.now in
    let entry = c.args.entry in
    let procedure = c.args.procedure.now in
    let i = c.loop-i.i in
    let here : (c.in_ok-found.found && c.stands_well-stands.result) ≡ false → _ =
    break_here variables entry procedure i c.index-procedure-i.result c.loop-i-test.true c.index-procedure-i.is
    c.loop-i.must_turn c.loop-i.kinds c.follow.new.kinds c.in_ok-found.found c.stands_well-stands.result c.in_ok-found.ensures
    c.stands_well-stands.ensures
    in
    elim c.then-not-found.branch [
      | then-not-found-via-then-not-found w ↦ sym (here (grind (arith, w.if-not-found))) ∙ c.loop-i.invariant
      | then-not-found-via-else-not-found+then-not-stands w ↦ sym (here (grind (arith, w.if-not-found, w.if-not-stands))) ∙ c.loop-i.invariant
    ]
