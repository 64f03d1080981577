use Rattle.std.proofs.Common.{[], ap, Err, Some, refl}
use Rattle.stapl_code.specs.Files.{most_bytes}
use Rattle.tool_io.proofs.PickLemmas.{picks_first}
use Rattle.tool_frame.proofs.AnswerLemmas.{says_within}
use Rattle.named_files.proofs.BoardLemmas.{of_whole_file, of_long_file, of_file_as, of_any_file}
use Rattle.why_tool.proofs.FileLemmas.{files_of_read, did_say, cannot_say}
use Rattle.why_tool.proofs.CodeLemmas.{long_code}
use Rattle.why_tool.proofs.files.tell_code_in.Goals as goal

pub returns-in-Ok-clause-says : goal.returns-in-Ok-clause-says
returns-in-Ok-clause-says g c = λ board is.
    of_whole_file (g.S.Shelf.told c.args.shelf.now) c.args.path.now c.in-Ok.bytes.items c.in-Ok.ensures.whole
    (says_within _ _ _ _ _ c.tell_code_file.result did_say (λ none. none) (rw c.deref.ensures.value at c.tell_code_file.ensures.says board is))

pub returns-in-Err-TooLong-clause-says : goal.returns-in-Err-TooLong-clause-says
returns-in-Err-TooLong-clause-says g c = λ board is.
    of_file_as (λ held more. long_code _ c.args.task.now.request.now c.args.task.now.devices.now board g.K.Sink _ _ c.tell_code_fault.result held more c.tell_code_fault.ensures)
    (of_long_file (g.S.Shelf.told c.args.shelf.now) c.args.path.now most_bytes (c.in-Err-TooLong.ensures.long (ap Err c.in-Err-TooLong.field-0-is)))

pub returns-in-Err-ReadFault-clause-says : goal.returns-in-Err-ReadFault-clause-says
returns-in-Err-ReadFault-clause-says g c = λ board is.
    of_any_file (g.S.Shelf.told c.args.shelf.now) (Some c.args.path.now) (λ held.
    says_within _ _ _ _ _ c.tell_unread.result (cannot_say c.args.path.now refl (c.in-Err-ReadFault.ensures.fault (ap Err c.in-Err-ReadFault.field-0-is))) (λ none. none) c.tell_unread.ensures)

pub returns-in-Err-Memory-clause-says : goal.returns-in-Err-Memory-clause-says
returns-in-Err-Memory-clause-says g c = λ board is. of_any_file (g.S.Shelf.told c.args.shelf.now) (Some c.args.path.now) (λ held. (refl, refl))

pub returns-in-Ok-clause-files : goal.returns-in-Ok-clause-files
returns-in-Ok-clause-files g c = files_of_read g.S.Shelf _ _ c.args.path.now (picks_first [] c.in-Ok.ensures.once) c.in-Ok.ensures.keeps c.in-Ok.ensures.later

pub returns-in-Err-TooLong-clause-files : goal.returns-in-Err-TooLong-clause-files
returns-in-Err-TooLong-clause-files g c = files_of_read g.S.Shelf _ _ c.args.path.now c.in-Err-TooLong.ensures.once c.in-Err-TooLong.ensures.keeps c.in-Err-TooLong.ensures.later

pub returns-in-Err-ReadFault-clause-files : goal.returns-in-Err-ReadFault-clause-files
returns-in-Err-ReadFault-clause-files g c = files_of_read g.S.Shelf _ _ c.args.path.now c.in-Err-ReadFault.ensures.once c.in-Err-ReadFault.ensures.keeps c.in-Err-ReadFault.ensures.later

pub returns-in-Err-Memory-clause-files : goal.returns-in-Err-Memory-clause-files
returns-in-Err-Memory-clause-files g c = files_of_read g.S.Shelf _ _ c.args.path.now c.in-Err-Memory.ensures.once c.in-Err-Memory.ensures.keeps c.in-Err-Memory.ensures.later
