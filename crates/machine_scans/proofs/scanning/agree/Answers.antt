use Rattle.machine_scans.proofs.ScanLemmas.{agrees}
use Rattle.machine_scans.proofs.scanning.agree.Goals as goal

pub returns : goal.returns
returns c = agrees c.agrees_under.result c.args.mask.now c.args.expected.now c.args.captured.now c.requires.expected c.requires.mask c.agrees_under.ensures
