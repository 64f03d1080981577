use Rattle.code_files.proofs.CodeAgain.{read_again}
use Rattle.code_files.proofs.laws.a_file_is_read_as_its_code.Goals as goal

pub returns : goal.returns
returns c = read_again
