use Rattle.std.proofs.Common.{refl, pos}
use Rattle.play_words.specs.declared.status.Status.TheVariants.{Done}
use Rattle.tool_frame.proofs.AnswerLemmas.{says_failed, says_no_memory, said_text, said_front}
use Rattle.play_tool.proofs.ProgramLemmas.{compiled_file}
use Rattle.play_tool.proofs.programs.compile_program.Goals as goal

pub returns-in_err-code : goal.returns-in_err-code
returns-in_err-code g c = says_no_memory _ _ _ _ _ c.from_residual.result c.from_residual.ensures.1 (refl, refl)

pub returns-in_err-file : goal.returns-in_err-file
returns-in_err-file g c = says_no_memory _ _ _ _ _ c.from_residual-in_err-file.result c.from_residual-in_err-file.ensures.1 (refl, refl)

pub returns-in_err-put : goal.returns-in_err-put
returns-in_err-put g c =
    says_failed _ _ _ _ _ c.from_residual-in_err-put.result c.from_residual-in_err-put.ensures.1
    (said_front c.in_ok-file.file.items (Done (pos 0)) (compiled_file c.in_ok-code.ensures.code c.in_ok-file.ensures)
    (rw c.deref.ensures.value at c.in_err-put.ensures.put))

pub returns : goal.returns
returns g c =
    said_text c.in_ok-file.file.items (compiled_file c.in_ok-code.ensures.code c.in_ok-file.ensures)
    (rw c.deref.ensures.value at c.in_ok-put.ensures.put)
