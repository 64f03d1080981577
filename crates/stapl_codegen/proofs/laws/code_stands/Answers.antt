use Rattle.stapl_codegen.proofs.Runs.{stands}
use Rattle.stapl_codegen.proofs.laws.code_stands.Goals as goal

pub returns : goal.returns
returns c = λ program closed start some short. stands program closed short start some
