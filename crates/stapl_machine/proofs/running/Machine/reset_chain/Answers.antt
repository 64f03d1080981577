use Rattle.scan_paths.proofs.Parts.{cable_cause}
use Rattle.stapl_machine.proofs.Machines.{reset_so}
use Rattle.stapl_machine.proofs.running.Machine.reset_chain.Goals as goal

pub returns-clause-cause : goal.returns-clause-cause
returns-clause-cause g c = cable_cause c.five_ones.result c.five_ones.ensures.line c.five_ones.ensures.pins c.five_ones.ensures.broken

pub returns-clause-reset : goal.returns-clause-reset
returns-clause-reset g c =
    let f = c.five_ones.ensures in
    reset_so g.C.Cable c.args.cable.now c.five_ones.new.cable c.five_ones.new.digits c.five_ones.result f.in_reset f.reset f.front f.unbroken f.broken
