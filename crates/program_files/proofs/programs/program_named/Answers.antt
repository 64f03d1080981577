use Rattle.std.proofs.Common.{ap, Err}
use Rattle.tool_io.proofs.PickLemmas.{picks_as}
use Rattle.tool_frame.proofs.AnswerLemmas.{on_ok}
use Rattle.named_files.proofs.BoardLemmas.{of_whole_file}
use Rattle.program_files.proofs.ProgramLemmas.{reads_text, reads_long, fault_is}
use Rattle.program_files.proofs.programs.program_named.Goals as goal

pub returns-in-Ok-clause-text : goal.returns-in-Ok-clause-text
returns-in-Ok-clause-text g c =
    on_ok c.program_of.result
    (λ program is. reads_text (g.S.Shelf.told c.args.shelf.now) c.args.path.now c.in-Ok.bytes.items program.text c.in-Ok.ensures.whole is.text_is)
    (rw c.deref.ensures.value at c.program_of.ensures.program)

pub returns-in-Ok-clause-program : goal.returns-in-Ok-clause-program
returns-in-Ok-clause-program g c = on_ok c.program_of.result (λ program is. is.is) c.program_of.ensures.program

pub returns-in-Ok-clause-fault : goal.returns-in-Ok-clause-fault
returns-in-Ok-clause-fault g c = λ piece line reason e.
    of_whole_file (g.S.Shelf.told c.args.shelf.now) c.args.path.now c.in-Ok.bytes.items c.in-Ok.ensures.whole
    (rw c.deref.ensures.value at c.program_of.ensures.fault piece line reason e)

pub returns-in-Err-TooLong-clause-fault : goal.returns-in-Err-TooLong-clause-fault
returns-in-Err-TooLong-clause-fault g c = λ piece line reason e.
    fault_is (cc) (cc) (cc) (reads_long (g.S.Shelf.told c.args.shelf.now) c.args.path.now (c.in-Err-TooLong.ensures.long (ap Err c.in-Err-TooLong.field-0-is)))

pub returns-in-Ok-clause-once : goal.returns-in-Ok-clause-once
returns-in-Ok-clause-once g c = picks_as _ _ c.program_of.result c.in-Ok.ensures.once
