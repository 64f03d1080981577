use Rattle.code_files.proofs.FileFaults.{one_alone}
use Rattle.code_files.proofs.laws.one_fault.Goals as goal

pub returns : goal.returns
returns c = one_alone
