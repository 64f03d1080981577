use Rattle.std.proofs.Common.{refl}
use Rattle.stapl_code.specs.Files.{file}
use Rattle.code_files.proofs.laws.example_has_its_bytes.Goals as goal

pub returns : goal.returns
unfolding file
returns c = λ profile. refl
