use Rattle.code_files.proofs.FileFaults.{file_or_fault}
use Rattle.code_files.proofs.laws.bytes_are_a_file_or_have_a_fault.Goals as goal

pub returns : goal.returns
returns c = file_or_fault
