use Rattle.std.proofs.Common.{sym, subst}
use Rattle.stapl_syntax.specs.ProgramValues.{trees_of}
use Rattle.stapl_checker.specs.Answers.{IsCause}
use Rattle.tool_frame.proofs.AnswerLemmas.{says_within, says_failed, said_text, said_front}
use Rattle.program_files.proofs.ProgramLemmas.{text_fault_is}
use Rattle.code_plays.proofs.PlayLemmas.{rack_as}
use Rattle.play_tool.specs.Answers.{refused}
use Rattle.play_tool.proofs.AnswerLemmas.{program_in_text}
use Rattle.play_tool.proofs.soaking.play_text.Goals as goal

pub play_program-requires-clause-program : goal.play_program-requires-clause-program
play_program-requires-clause-program g c = rw c.in-Ok.ensures.text c.in-Ok.ensures.program

pub returns-in-Ok-clause-says : goal.returns-in-Ok-clause-says
returns-in-Ok-clause-says g c =
    says_within _ _ _ _ _ c.play_program.result (program_in_text (trees_of c.in-Ok.program) c.in-Ok.ensures.program) (λ z. z) c.play_program.ensures.says

pub returns-in-Ok-clause-rack : goal.returns-in-Ok-clause-rack
returns-in-Ok-clause-rack g c =
    rack_as c.play_program.result (λ p. p) (λ p. p)
    (λ rack final. record { program = trees_of c.in-Ok.program; is = c.in-Ok.ensures.program; final = final }) c.play_program.ensures.rack

pub returns-in_err-put_refusal-in-Err-Refused-clause-says : goal.returns-in_err-put_refusal-in-Err-Refused-clause-says
returns-in_err-put_refusal-in-Err-Refused-clause-says g c =
    says_failed _ _ _ _ _ c.from_residual.result c.from_residual.ensures.1
    (said_front _ _ (refused _ _ _ (text_fault_is (sym c.in-Err-Refused.piece-is) (sym c.in-Err-Refused.line-is) (sym c.in-Err-Refused.reason-is)
    (subst (IsCause c.args.bytes.now) c.in-Err-Refused.field-0-is c.in-Err-Refused.ensures.refused)))
    c.in_err-put_refusal-in-Err-Refused.ensures)

pub returns-in_ok-put_refusal-in-Err-Refused-clause-says : goal.returns-in_ok-put_refusal-in-Err-Refused-clause-says
returns-in_ok-put_refusal-in-Err-Refused-clause-says g c =
    said_text _ (refused _ _ _ (text_fault_is (sym c.in-Err-Refused.piece-is) (sym c.in-Err-Refused.line-is) (sym c.in-Err-Refused.reason-is)
    (subst (IsCause c.args.bytes.now) c.in-Err-Refused.field-0-is c.in-Err-Refused.ensures.refused)))
    c.in_ok-put_refusal-in-Err-Refused.ensures
