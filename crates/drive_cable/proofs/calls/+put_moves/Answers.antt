use Rattle.std.proofs.Common.{◌≡◌, ◌-◌, ◌∙◌, suc, arith}
use Rattle.drive_cable.proofs.BlockLemmas.{move_put}
use Rattle.drive_cable.proofs.calls.+put_moves.Goals as goal

pub returns : goal.returns
returns t c =
    let n : c.args.n ≡ suc (c.args.n - 1) = omega (arith, c.if-n-eq0.false) in
    move_put c.args.into.now _ _ c.args.tms c.args.n (c.args.n - 1) n
    (c.copy_from_slice.ensures.after ∙ c.clock_bytes-bytes.ensures) c.put_moves.ensures
