use Rattle.std.proofs.Common.{◌<◌, ◌^◌, arith, subst}
use Rattle.std.proofs.lemmas.Grind.{common_steps}
use Rattle.std.proofs.lemmas.List.Elements.{All-more}
use Rattle.stapl_code.specs.declared.raw.ProcDef.{ProcDef}
use Rattle.code_files.proofs.encoding.put_procedures.Goals as goal

pub loop-procedure-preserved : goal.loop-procedure-preserved
loop-procedure-preserved c = record {
  put = grind (arith, common_steps);
  fits =
      let P : ProcDef → Type 0 = λ p. p.entry < 2 ^ 32 in
      All-more P c.args.procedures.now c.loop-procedure.procedure-index c.procedure-item.result c.loop-procedure-test.true c.loop-procedure.invariant.fits
      (subst P c.procedure-item.is c.put_number.ensures.fits);
}
