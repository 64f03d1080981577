use Rattle.std.proofs.Common.{◌<◌, ◌^◌, arith}
use Rattle.std.proofs.lemmas.Grind.{common_steps}
use Rattle.std.proofs.lemmas.List.Elements.{All-more}
use Rattle.stapl_code.specs.declared.raw.VarDef.{VarDef}
use Rattle.code_files.proofs.encoding.put_variables.Goals as goal

pub loop-variable-preserved : goal.loop-variable-preserved
loop-variable-preserved c = record {
  put = grind (arith, common_steps);
  fits =
      let h = c.put_number.ensures.fits in let P : VarDef → Type 0 = λ v. v.size < 2 ^ 32 in
      All-more P c.args.variables.now c.loop-variable.variable-index (record { kind = 0; size = 0 }) c.loop-variable-test.true c.loop-variable.invariant.fits h;
}
