use Rattle.std.proofs.Common.{◌≡◌, ◌+◌, ◌-◌, ◌<◌, ◌^◌, refl, sym, subst, arith}
use Rattle.std.proofs.lemmas.Nat.{shr_below}
use Rattle.scan_paths.proofs.Parts.{block_failed}
use Rattle.scan_paths.proofs.Untold.{untold_block, untold_failure}
use Rattle.code_tests.proofs.wire.WireCable.shift_block.Goals as goal

pub returns-clause-shifted : goal.returns-clause-shifted
returns-clause-shifted c =
    let n = c.args.n in
    let whole : n + (64 - n) ≡ 64 = omega (arith, c.requires.most) in
    untold_block _ _ c.args.self.now _ refl refl (λ clocks. tt) c.args._tdi n _ c.args._last
    (shr_below 18446744073709551615 n (64 - n) (subst (λ k. 18446744073709551615 < 2 ^ k) (sym whole) (omega arith)))

pub returns-in_err-count-clause-shifted : goal.returns-in_err-count-clause-shifted
returns-in_err-count-clause-shifted c =
    block_failed c.from_residual.result c.from_residual.ensures.0 (untold_failure _ _ c.args.self.now _ refl refl (λ signals. tt) _)
