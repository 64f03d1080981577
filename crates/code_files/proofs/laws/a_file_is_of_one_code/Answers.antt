use Rattle.code_files.proofs.CodeAgain.{one_code}
use Rattle.code_files.proofs.laws.a_file_is_of_one_code.Goals as goal

pub returns : goal.returns
returns c = one_code
