use Rattle.std.proofs.Common.{arith, rules}
use Rattle.std.proofs.lemmas.Grind.{common_steps}
use Rattle.std.proofs.lemmas.List.Elements.{All-more}
use Rattle.std.specs.Prelude.{pos}
use Rattle.std.specs.Int.{w32}
use Rattle.std.specs.Int.RustNames.{FitsSigned}
use Rattle.code_files.proofs.instrs.put_integers.Goals as goal

pub loop-value-preserved : goal.loop-value-preserved
loop-value-preserved c = record {
  put = grind (arith, common_steps);
  fits =
      All-more (FitsSigned w32) c.args.values.now c.loop-value.value-index (pos 0) c.loop-value-test.true c.loop-value.invariant.fits (search rules);
}
