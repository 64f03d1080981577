use Rattle.play_tool.proofs.CompiledLemmas.{answers_source}
use Rattle.play_tool.proofs.laws.compiled_programs_play_as_programs.Goals as goal

pub returns : goal.returns
returns c = λ words contents_of q text status a. (answers_source c.programs_are_typed.ensures q).to text status a
