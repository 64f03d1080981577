use Rattle.std.proofs.Common.{refl}
use Rattle.std.proofs.lemmas.Nat.{pow_pos}
use Rattle.scan_paths.proofs.Untold.{untold_block}
use Rattle.chain_tests.proofs.cable.SilentCableCable.shift_block.Goals as goal

pub returns-clause-shifted : goal.returns-clause-shifted
returns-clause-shifted c = untold_block _ _ c.args.self.now _ refl refl (λ clocks. tt) c.args._tdi c.args._n 0 c.args._last (pow_pos c.args._n)
