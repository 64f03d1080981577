use Rattle.stapl_syntax.specs.ProgramValues.{trees_of}
use Rattle.tool_frame.proofs.AnswerLemmas.{on_ok}
use Rattle.drive_tool.proofs.PlanLemmas.{program_prepared}
use Rattle.drive_tool.proofs.preparing.prepare_program.Goals as goal

pub returns : goal.returns
returns c =
    on_ok c.prepare_code.result
    (λ step p.
    program_prepared (trees_of c.args.program.now) c.in_ok-code.code c.args.task.now
    (c.programs_are_typed.ensures c.args.program.now.text (trees_of c.args.program.now) c.requires.program) c.in_ok-code.ensures.code step p)
    c.prepare_code.ensures
