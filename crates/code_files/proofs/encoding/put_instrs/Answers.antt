use Rattle.std.proofs.Common.{arith, subst}
use Rattle.std.proofs.lemmas.Grind.{common_steps}
use Rattle.std.proofs.lemmas.List.Elements.{All-more}
use Rattle.stapl_code.specs.Instrs.{FitsInstr}
use Rattle.code_files.proofs.encoding.put_instrs.Goals as goal

pub loop-instr-preserved : goal.loop-instr-preserved
loop-instr-preserved c = record {
  put = grind (arith, common_steps);
  fits =
      All-more FitsInstr c.args.instrs.now c.loop-instr.instr-index c.instr-item.result c.loop-instr-test.true c.loop-instr.invariant.fits
      (subst FitsInstr c.instr-item.is c.in_ok-put_instr.ensures.fits);
}
