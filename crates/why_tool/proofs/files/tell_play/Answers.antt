use Rattle.std.proofs.Common.{ap, Err, Some, refl}
use Rattle.tool_io.proofs.CauseLemmas.{rose_after_at}
use Rattle.board_text.specs.Boards.{most_bytes}
use Rattle.tool_frame.proofs.AnswerLemmas.{says_within}
use Rattle.named_files.proofs.BoardLemmas.{of_long_file}
use Rattle.play_words.specs.Words.{play_files}
use Rattle.play_tool.specs.ReadContents.{board_reached, source_reached}
use Rattle.play_tool.proofs.RequestLemmas.{of_any_files, of_board, of_both}
use Rattle.why_tool.proofs.FileLemmas.{files_of_first, files_of_both, reads_within, cannot_say, holds_board, long_board}
use Rattle.why_tool.proofs.files.tell_play.Goals as goal

pub returns-in-Ok-clause-says : goal.returns-in-Ok-clause-says
returns-in-Ok-clause-says g c =
    of_both (g.S.Shelf.told c.args.shelf.now) c.args.play.now (Some c.in-Ok.board.items) (record { same = rw c.as_str.ensures at c.in-Ok.ensures.whole })
    (rw (c.deref.ensures.value, c.in-Ok.ensures.keeps) at c.tell_on_board.ensures.says)
    (λ source says. says_within _ _ _ _ _ c.tell_on_board.result
    (reads_within (λ path u. record {
      is_reached = source_reached u.is_reached.path_is
          (holds_board _ c.args.play.now.board c.in-Ok.board.items u.is_reached.devices
          (rw c.as_str.ensures at c.in-Ok.ensures.whole) u.is_reached.is_board);
      rose = rose_after_at c.in-Ok.ensures.later u.rose;
    }) (record { to = λ said ending a. a })) (λ none. none) says)

pub returns-in-Err-TooLong-clause-says : goal.returns-in-Err-TooLong-clause-says
returns-in-Err-TooLong-clause-says g c =
    let board = of_long_file (g.S.Shelf.told c.args.shelf.now) c.args.play.now.board most_bytes
    (rw c.as_str.ensures at c.in-Err-TooLong.ensures.long (ap Err c.in-Err-TooLong.field-0-is)) in
    of_board (g.S.Shelf.told c.args.shelf.now) c.args.play.now board.held board.read (λ source.
    long_board _ c.args.source c.args.play.now.request source g.K.Sink _ _ c.answer_long.result board.held board.holds c.answer_long.ensures)

pub returns-in-Err-ReadFault-clause-says : goal.returns-in-Err-ReadFault-clause-says
returns-in-Err-ReadFault-clause-says g c =
    of_any_files (g.S.Shelf.told c.args.shelf.now) (play_files c.args.play.now) (λ contents.
    says_within _ _ _ _ _ c.tell_unread.result
    (cannot_say c.args.play.now.board (board_reached refl) (rw c.as_str.ensures at c.in-Err-ReadFault.ensures.fault (ap Err c.in-Err-ReadFault.field-0-is))) (λ none. none)
    (rw c.as_str-in-Err-ReadFault.ensures at c.tell_unread.ensures))

pub returns-in-Err-Memory-clause-says : goal.returns-in-Err-Memory-clause-says
returns-in-Err-Memory-clause-says g c = of_any_files (g.S.Shelf.told c.args.shelf.now) (play_files c.args.play.now) (λ contents. (refl, refl))

pub returns-in-Ok-clause-files : goal.returns-in-Ok-clause-files
returns-in-Ok-clause-files g c = files_of_both g.S.Shelf _ _ _ c.args.play.now.board c.args.play.now.source (rw c.as_str.ensures at c.in-Ok.ensures.once) c.in-Ok.ensures.keeps c.in-Ok.ensures.later c.tell_on_board.ensures.files

pub returns-in-Err-TooLong-clause-files : goal.returns-in-Err-TooLong-clause-files
returns-in-Err-TooLong-clause-files g c =
    files_of_first g.S.Shelf _ _ c.args.play.now.board c.args.play.now.source (rw c.as_str.ensures at c.in-Err-TooLong.ensures.once) c.in-Err-TooLong.ensures.keeps c.in-Err-TooLong.ensures.later

pub returns-in-Err-ReadFault-clause-files : goal.returns-in-Err-ReadFault-clause-files
returns-in-Err-ReadFault-clause-files g c =
    files_of_first g.S.Shelf _ _ c.args.play.now.board c.args.play.now.source (rw c.as_str.ensures at c.in-Err-ReadFault.ensures.once) c.in-Err-ReadFault.ensures.keeps c.in-Err-ReadFault.ensures.later

pub returns-in-Err-Memory-clause-files : goal.returns-in-Err-Memory-clause-files
returns-in-Err-Memory-clause-files g c =
    files_of_first g.S.Shelf _ _ c.args.play.now.board c.args.play.now.source (rw c.as_str.ensures at c.in-Err-Memory.ensures.once) c.in-Err-Memory.ensures.keeps c.in-Err-Memory.ensures.later
