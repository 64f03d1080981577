use Rattle.std.proofs.Common.{sym, ap, Err, Some, refl}
use Rattle.tool_frame.proofs.AnswerLemmas.{says_within}
use Rattle.named_files.proofs.BoardLemmas.{of_file_as, of_any_file}
use Rattle.play_tool.proofs.AnswerLemmas.{board_of_devices}
use Rattle.why_tool.specs.Whys.{did}
use Rattle.why_tool.proofs.ExplainLemmas.{explains_within, shown_said, shown_failed}
use Rattle.why_tool.proofs.FileLemmas.{no_files, reads_within, board_shown, line_at}
use Rattle.why_tool.proofs.files.tell_on_board.Goals as goal

pub returns-in-Ok-clause-says : goal.returns-in-Ok-clause-says
returns-in-Ok-clause-says g c =
    of_file_as (λ held says. says_within _ _ _ _ _ c.tell_source.result
    (reads_within (λ path u. record {
      is_reached = record { path_is = u.is_reached; devices = c.in-Ok.devices.items; is_board = c.in-Ok.ensures.board };
      rose = u.rose;
    }) (explains_within (board_of_devices {held = Some c.args.board.now} c.in-Ok.devices.items c.in-Ok.ensures.board)))
    (λ none. none) says)
    (rw (c.as_str.ensures, c.deref.ensures.value) at c.tell_source.ensures.says c.args.board.now c.in-Ok.ensures.board)

pub returns-in_err-show_line-in-Err-At-clause-says : goal.returns-in_err-show_line-in-Err-At-clause-says
returns-in_err-show_line-in-Err-At-clause-says g c =
    of_any_file (g.S.Shelf.told c.args.shelf.now) (Some c.args.play.now.source) (λ held.
    shown_failed _ _ _ _ _ _ c.from_residual.result
    (λ said shows. did (board_shown c.args.source c.args.play.now.request c.args.board.now held
    (line_at (sym c.in-Err-At.line-is) (c.in-Err-At.ensures.fault _ _ (ap Err c.in-Err-At.field-0-is))) said shows))
    c.from_residual.ensures.1 c.in_err-show_line-in-Err-At.ensures)

pub returns-in_ok-show_line-in-Err-At-clause-says : goal.returns-in_ok-show_line-in-Err-At-clause-says
returns-in_ok-show_line-in-Err-At-clause-says g c =
    of_any_file (g.S.Shelf.told c.args.shelf.now) (Some c.args.play.now.source) (λ held.
    shown_said
    (λ said shows. did (board_shown c.args.source c.args.play.now.request c.args.board.now held
    (line_at (sym c.in-Err-At.line-is) (c.in-Err-At.ensures.fault _ _ (ap Err c.in-Err-At.field-0-is))) said shows))
    c.in_ok-show_line-in-Err-At.ensures)

pub returns-in-Err-Memory-clause-says : goal.returns-in-Err-Memory-clause-says
returns-in-Err-Memory-clause-says g c = of_any_file (g.S.Shelf.told c.args.shelf.now) (Some c.args.play.now.source) (λ held. (refl, refl))

pub returns-in-Ok-clause-files : goal.returns-in-Ok-clause-files
returns-in-Ok-clause-files g c = rw c.as_str.ensures at c.tell_source.ensures.files

pub returns-in_err-show_line-in-Err-At-clause-files : goal.returns-in_err-show_line-in-Err-At-clause-files
returns-in_err-show_line-in-Err-At-clause-files g c = no_files g.S.Shelf _ c.args.shelf.now

pub returns-in_ok-show_line-in-Err-At-clause-files : goal.returns-in_ok-show_line-in-Err-At-clause-files
returns-in_ok-show_line-in-Err-At-clause-files g c = no_files g.S.Shelf _ c.args.shelf.now

pub returns-in-Err-Read-clause-files : goal.returns-in-Err-Read-clause-files
returns-in-Err-Read-clause-files g c = no_files g.S.Shelf _ c.args.shelf.now

pub returns-in-Err-Memory-clause-files : goal.returns-in-Err-Memory-clause-files
returns-in-Err-Memory-clause-files g c = no_files g.S.Shelf _ c.args.shelf.now
