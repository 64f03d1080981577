use Rattle.scan_paths.proofs.CallsInARow.{made_both, front_after, front_longer}
use Rattle.scan_paths.proofs.Parts.{made_failed}
use Rattle.chain_tests.proofs.cable.restart.Goals as goal

pub returns-in_err-reset_chain : goal.returns-in_err-reset_chain
returns-in_err-reset_chain g c =
    let m = g.C.Cable in
    made_failed m c.from_residual.result c.from_residual.ensures.0
    (front_longer m.board m.made c.args.cable.now c.reset_chain.new.cable _ _ c.in_err-reset_chain.ensures.made)

pub returns-in_err-state : goal.returns-in_err-state
returns-in_err-state g c =
    let m = g.C.Cable in
    made_failed m c.from_residual-in_err-state.result c.from_residual-in_err-state.ensures.0
    (front_after m.board m.made g.met.C.Cable.both_made c.args.cable.now c.reset_chain.new.cable c.move_to.new.cable _ _
    c.in_ok-reset_chain.ensures.made c.in_err-state.ensures.made)

pub returns : goal.returns
returns g c =
    let m = g.C.Cable in
    made_both m.board m.made g.met.C.Cable.both_made c.args.cable.now c.reset_chain.new.cable c.move_to.new.cable _ _
    c.in_ok-reset_chain.ensures.made c.in_ok-state.ensures.made
