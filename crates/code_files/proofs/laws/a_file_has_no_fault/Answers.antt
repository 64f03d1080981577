use Rattle.code_files.proofs.FileFaults.{no_fault}
use Rattle.code_files.proofs.laws.a_file_has_no_fault.Goals as goal

pub returns : goal.returns
returns c = no_fault
