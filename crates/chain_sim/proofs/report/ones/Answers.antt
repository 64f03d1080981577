use Rattle.chain_sim.proofs.ReportOnes.{ones_shifted}
use Rattle.chain_sim.proofs.report.ones.Goals as goal

pub returns : goal.returns
returns c = ones_shifted 64 c.args.n c.requires.most
