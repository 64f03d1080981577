use Rattle.std.proofs.Common.{refl}
use Rattle.stapl_syntax.specs.ProgramValues.{trees_of}
use Rattle.tool_frame.proofs.AnswerLemmas.{says_within, says_no_memory}
use Rattle.code_plays.proofs.PlayLemmas.{rack_as}
use Rattle.play_tool.proofs.ProgramLemmas.{code_to_program, program_final}
use Rattle.play_tool.proofs.programs.play_program.Goals as goal

pub returns-in_err-code-clause-says : goal.returns-in_err-code-clause-says
returns-in_err-code-clause-says g c = says_no_memory _ _ _ _ _ c.from_residual.result c.from_residual.ensures.1 (refl, refl)

pub returns-clause-says : goal.returns-clause-says
returns-clause-says g c =
    says_within _ _ _ _ _ c.play_code.result
    (code_to_program (trees_of c.args.program.now) c.in_ok-code.code c.args.task.now.request.now c.args.task.now.devices.now
    (c.programs_are_typed.ensures c.args.program.now.text (trees_of c.args.program.now) c.requires.program) c.in_ok-code.ensures.code)
    (λ z. z) c.play_code.ensures.says

pub returns-clause-rack : goal.returns-clause-rack
returns-clause-rack g c =
    rack_as c.play_code.result (λ p. p) (λ p. p)
    (λ rack final. program_final (c.programs_are_typed.ensures c.args.program.now.text (trees_of c.args.program.now) c.requires.program) c.in_ok-code.ensures.code final)
    c.play_code.ensures.rack
