use Rattle.std.proofs.Common.{◌≡◌, ◌-◌, ◌∙◌, suc, arith}
use Rattle.drive_cable.proofs.BlockLemmas.{block_put}
use Rattle.drive_cable.proofs.calls.+put_clocks.Goals as goal

pub returns : goal.returns
returns t c =
    let n : c.args.n ≡ suc (c.args.n - 1) = omega (arith, c.if-n-eq0.false) in
    block_put c.args.into.now _ _ c.args.tdi c.args.n (c.args.n - 1) c.args.last c.is_last.result n c.is_last.ensures
    (c.copy_from_slice.ensures.after ∙ c.clock_bytes-bytes.ensures) c.put_clocks.ensures
