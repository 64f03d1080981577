use Rattle.stapl_codegen.proofs.DefinitionSteps.{variables_more}
use Rattle.stapl_codegen.proofs.definitions.variables.Goals as goal

pub loop-number-preserved : goal.loop-number-preserved
loop-number-preserved c =
    let v = c.variable.result.now in
    variables_more c.args.names.now.variables c.loop-number.number (v.key, v) c.loop-number.defs.items c.push.new.self.items c.variable_def.result _
    c.loop-number.invariant c.variable.ensures (c.variable_def.ensures v.key) c.in_ok-push.ensures.items
