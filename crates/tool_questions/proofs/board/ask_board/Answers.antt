use Rattle.std.proofs.Common.{List, ℕ, map, string_bytes, Global}
use Rattle.tool_frame.proofs.AnswerLemmas.{says_within}
use Rattle.tool_frame.proofs.FileLemmas.{of_one_file, of_no_file, shelf_of_one}
use Rattle.tool_questions.specs.Questions.{of_board, file_key, asked_whole, refused_whole, NamesQuestionFile}
use Rattle.tool_questions.proofs.AskedLemmas.{one_file, named_or_usage}
use Rattle.tool_questions.proofs.board.ask_board.Goals as goal

pub returns-in-Ok-clause-says : goal.returns-in-Ok-clause-says
returns-in-Ok-clause-says g c =
    let rest : List (List ℕ) = map (string_bytes {Z = Global}) c.args.rest.now in
    of_one_file (g.S.Shelf.told c.args.shelf.now) (NamesQuestionFile of_board rest) c.in-Ok.path.now
    (λ other is. one_file (file_key of_board) rest other c.in-Ok.path.now is c.in-Ok.ensures.named)
    c.check_file.ensures.says (λ held says. says_within _ _ _ _ _ c.check_file.result
    (record { to = λ text status a. asked_whole c.in-Ok.path.now c.in-Ok.ensures.named a }) (λ same. same) says)

pub returns-in-Ok-clause-shelf : goal.returns-in-Ok-clause-shelf
returns-in-Ok-clause-shelf g c =
    shelf_of_one (NamesQuestionFile of_board (map (string_bytes {Z = Global}) c.args.rest.now)) c.in-Ok.path.now c.in-Ok.ensures.named c.check_file.ensures.shelf

pub returns-in-Err-clause-says : goal.returns-in-Err-clause-says
returns-in-Err-clause-says g c =
    let rest : List (List ℕ) = map (string_bytes {Z = Global}) c.args.rest.now in
    of_no_file (g.S.Shelf.told c.args.shelf.now) (NamesQuestionFile of_board rest)
    (λ path is. named_or_usage (file_key of_board) 2 rest c.in-Err.n path is c.in-Err.ensures.usage)
    (says_within _ _ _ _ _ c.refuse.result (record { to = λ text status a. refused_whole c.in-Err.n c.in-Err.ensures.usage a }) (λ none. absurd none) c.refuse.ensures)
