use Rattle.std.proofs.Common.{ap, Err, Some, refl, rules}
use Rattle.board_text.specs.Boards.{most_bytes}
use Rattle.tool_frame.proofs.AnswerLemmas.{says_within}
use Rattle.named_files.proofs.BoardLemmas.{of_whole_file, of_long_file, of_file_as, of_any_file}
use Rattle.tool_questions.proofs.LineLemmas.{long_board_within}
use Rattle.tool_frame.proofs.FileLemmas.{shelf_of_read}
use Rattle.tool_questions.proofs.board.check_file.Goals as goal

pub returns-in-Ok-clause-says : goal.returns-in-Ok-clause-says
returns-in-Ok-clause-says g c =
    of_whole_file (g.S.Shelf.told c.args.shelf.now) c.args.path.now c.in-Ok.bytes.items c.in-Ok.ensures.whole
    (says_within _ _ _ _ _ c.check_text.result (record { to = λ text status a. a }) (λ none. absurd none) (rw c.deref.ensures.value at c.check_text.ensures))

pub returns-in-Err-TooLong-clause-says : goal.returns-in-Err-TooLong-clause-says
returns-in-Err-TooLong-clause-says g c =
    of_file_as (λ held more. long_board_within g.K.Sink _ _ held c.answer_long.result more c.answer_long.ensures)
    (of_long_file (g.S.Shelf.told c.args.shelf.now) c.args.path.now most_bytes (c.in-Err-TooLong.ensures.long (ap Err c.in-Err-TooLong.field-0-is)))

pub returns-in-Err-ReadFault-clause-says : goal.returns-in-Err-ReadFault-clause-says
returns-in-Err-ReadFault-clause-says g c = of_any_file (g.S.Shelf.told c.args.shelf.now) (Some c.args.path.now) (λ held. (refl, refl))

pub returns-in-Err-Memory-clause-says : goal.returns-in-Err-Memory-clause-says
returns-in-Err-Memory-clause-says g c = of_any_file (g.S.Shelf.told c.args.shelf.now) (Some c.args.path.now) (λ held. (refl, refl))

pub returns-in-Ok-clause-shelf : goal.returns-in-Ok-clause-shelf
returns-in-Ok-clause-shelf g c =
    shelf_of_read c.read_whole.result c.read_whole.ensures.once c.read_whole.ensures.keeps c.read_whole.ensures.later (search rules)

pub returns-in-Err-TooLong-clause-shelf : goal.returns-in-Err-TooLong-clause-shelf
returns-in-Err-TooLong-clause-shelf g c =
    shelf_of_read c.read_whole.result c.read_whole.ensures.once c.read_whole.ensures.keeps c.read_whole.ensures.later (search rules)

pub returns-in-Err-ReadFault-clause-shelf : goal.returns-in-Err-ReadFault-clause-shelf
returns-in-Err-ReadFault-clause-shelf g c =
    shelf_of_read c.read_whole.result c.read_whole.ensures.once c.read_whole.ensures.keeps c.read_whole.ensures.later (search rules)

pub returns-in-Err-Memory-clause-shelf : goal.returns-in-Err-Memory-clause-shelf
returns-in-Err-Memory-clause-shelf g c =
    shelf_of_read c.read_whole.result c.read_whole.ensures.once c.read_whole.ensures.keeps c.read_whole.ensures.later (search rules)
