use Rattle.std.proofs.Common.{[], ap, Err, Some, refl}
use Rattle.stapl_lexer.specs.Pieces.{text_limit}
use Rattle.tool_io.proofs.PickLemmas.{picks_first}
use Rattle.tool_frame.proofs.AnswerLemmas.{says_within}
use Rattle.named_files.proofs.BoardLemmas.{of_whole_file, of_long_file, of_file_as, of_any_file}
use Rattle.play_tool.specs.declared.sources.Source.TheVariants.{Program}
use Rattle.play_tool.specs.Answers.{PlaysAction}
use Rattle.why_tool.specs.Whys.{known_at}
use Rattle.why_tool.proofs.FileLemmas.{files_of_read, did_say, cannot_say, long_program}
use Rattle.why_tool.proofs.files.tell_program_file.Goals as goal

pub returns-in-Ok-clause-says : goal.returns-in-Ok-clause-says
returns-in-Ok-clause-says g c = λ board is.
    of_whole_file (g.S.Shelf.told c.args.shelf.now) c.args.path.now c.in-Ok.text.items c.in-Ok.ensures.whole
    (says_within _ _ _ _ _ c.tell_text.result did_say (λ none. none) (rw c.deref.ensures.value at c.tell_text.ensures.says board is))

pub returns-in-Err-TooLong-clause-says : goal.returns-in-Err-TooLong-clause-says
returns-in-Err-TooLong-clause-says g c = λ board is.
    of_file_as (λ held more. long_program _ (λ text. PlaysAction c.args.task.now.request.now c.args.task.now.devices.now) (known_at Program (Some board)) (λ text. refl)
    g.K.Sink _ _ c.answer_long.result held more c.answer_long.ensures)
    (of_long_file (g.S.Shelf.told c.args.shelf.now) c.args.path.now text_limit (c.in-Err-TooLong.ensures.long (ap Err c.in-Err-TooLong.field-0-is)))

pub returns-in-Err-ReadFault-clause-says : goal.returns-in-Err-ReadFault-clause-says
returns-in-Err-ReadFault-clause-says g c = λ board is.
    of_any_file (g.S.Shelf.told c.args.shelf.now) (Some c.args.path.now) (λ held.
    says_within _ _ _ _ _ c.tell_unread.result (cannot_say c.args.path.now refl (c.in-Err-ReadFault.ensures.fault (ap Err c.in-Err-ReadFault.field-0-is))) (λ none. none) c.tell_unread.ensures)

pub returns-in-Err-Memory-clause-says : goal.returns-in-Err-Memory-clause-says
returns-in-Err-Memory-clause-says g c = λ board is. of_any_file (g.S.Shelf.told c.args.shelf.now) (Some c.args.path.now) (λ held. (refl, refl))

pub returns-in-Ok-clause-files : goal.returns-in-Ok-clause-files
returns-in-Ok-clause-files g c = files_of_read g.S.Shelf _ _ c.args.path.now (picks_first [] c.in-Ok.ensures.once) c.in-Ok.ensures.keeps c.in-Ok.ensures.later

pub returns-in-Err-TooLong-clause-files : goal.returns-in-Err-TooLong-clause-files
returns-in-Err-TooLong-clause-files g c = files_of_read g.S.Shelf _ _ c.args.path.now c.in-Err-TooLong.ensures.once c.in-Err-TooLong.ensures.keeps c.in-Err-TooLong.ensures.later

pub returns-in-Err-ReadFault-clause-files : goal.returns-in-Err-ReadFault-clause-files
returns-in-Err-ReadFault-clause-files g c = files_of_read g.S.Shelf _ _ c.args.path.now c.in-Err-ReadFault.ensures.once c.in-Err-ReadFault.ensures.keeps c.in-Err-ReadFault.ensures.later

pub returns-in-Err-Memory-clause-files : goal.returns-in-Err-Memory-clause-files
returns-in-Err-Memory-clause-files g c = files_of_read g.S.Shelf _ _ c.args.path.now c.in-Err-Memory.ensures.once c.in-Err-Memory.ensures.keeps c.in-Err-Memory.ensures.later
