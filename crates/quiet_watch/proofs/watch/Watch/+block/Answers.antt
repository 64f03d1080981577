use Rattle.std.proofs.Common.{◌≡◌, ◌-◌, suc, arith}
use Rattle.dev_card.specs.Blocks.{block_inputs}
use Rattle.scan_paths.proofs.Parts.{cable_then, cable_done, cable_failed, block_failed}
use Rattle.quiet_watch.proofs.WatchSteps.{shifted_more, front_more, front_none}
use Rattle.quiet_watch.proofs.watch.Watch.+block.Goals as goal

pub returns-in_err-bit-clause-shifted : goal.returns-in_err-bit-clause-shifted
returns-in_err-bit-clause-shifted g t c =
    let m = g.D.Device in
    block_failed c.from_residual.result c.from_residual.ensures.0
    (front_none m.fitted m.kind_of c.args.self.now c.step.new.self (block_inputs c.args.tdi c.args.n c.args.last) c.in_err-bit.ensures.stayed)

pub returns-in_err-rest-clause-shifted : goal.returns-in_err-rest-clause-shifted
returns-in_err-rest-clause-shifted g t c =
    let m = g.D.Device in
    let n : c.args.n ≡ suc (c.args.n - 1) = omega (arith, c.if-n-eq0.false) in
    block_failed c.from_residual-in_err-rest.result c.from_residual-in_err-rest.ensures.0
    (front_more m.fitted m.kind_of c.args.self.now c.step.new.self c.block.new.self c.args.tdi c.args.n (c.args.n - 1) c.args.last c.is_last.result c.in_ok-bit.bit
    n c.is_last.ensures c.in_ok-bit.ensures.stepped c.in_err-rest.ensures.shifted)

pub returns-clause-shifted : goal.returns-clause-shifted
returns-clause-shifted g t c =
    let m = g.D.Device in
    let n : c.args.n ≡ suc (c.args.n - 1) = omega (arith, c.if-n-eq0.false) in
    shifted_more m.fitted m.kind_of c.args.self.now c.step.new.self c.block.new.self c.args.tdi c.args.n (c.args.n - 1) c.args.last c.is_last.result c.in_ok-bit.bit
    n c.is_last.ensures c.in_ok-bit.ensures.stepped c.in_ok-rest.rest c.with_bit.result c.in_ok-rest.ensures.shifted c.with_bit.ensures.value

pub returns-in_err-bit-clause-kept : goal.returns-in_err-bit-clause-kept
returns-in_err-bit-clause-kept g t c = cable_failed c.from_residual.result c.from_residual.ensures.0 c.in_err-bit.ensures.kept

pub returns-in_err-rest-clause-kept : goal.returns-in_err-rest-clause-kept
returns-in_err-rest-clause-kept g t c =
    cable_failed c.from_residual-in_err-rest.result c.from_residual-in_err-rest.ensures.0 (cable_then c.in_ok-bit.ensures.kept c.in_err-rest.ensures.kept)

pub returns-clause-kept : goal.returns-clause-kept
returns-clause-kept g t c = cable_then c.in_ok-bit.ensures.kept (cable_done c.in_ok-rest.ensures.kept)
