use Rattle.tool_frame.proofs.AnswerLemmas.{says_within}
use Rattle.tool_frame.proofs.FileLemmas.{of_one_file, of_no_file, shelf_of_one}
use Rattle.std.proofs.Common.{List, ℕ, map, string_bytes, Global}
use Rattle.tool_questions.specs.Questions.{of_piece, file_key, asked, refused, NamesQuestionFile}
use Rattle.tool_questions.proofs.AskedLemmas.{one_path_asked, asked_or_usage}
use Rattle.tool_questions.proofs.piece.ask_piece.Goals as goal

pub returns-in-Ok-clause-says : goal.returns-in-Ok-clause-says
returns-in-Ok-clause-says g c =
    let rest : List (List ℕ) = map (string_bytes {Z = Global}) c.args.rest.now in
    of_one_file (g.S.Shelf.told c.args.shelf.now) (NamesQuestionFile of_piece rest) c.in-Ok.asked.path.now
    (λ other is. one_path_asked (file_key of_piece) rest is.0 c.in-Ok.asked.number other c.in-Ok.asked.path.now is.1 c.in-Ok.ensures.asked)
    c.answer_piece.ensures.says (λ held says. says_within _ _ _ _ _ c.answer_piece.result
    (record { to = λ text status a. asked c.in-Ok.asked.number c.in-Ok.asked.path.now c.in-Ok.ensures.asked a }) (λ same. same) says)

pub returns-in-Ok-clause-shelf : goal.returns-in-Ok-clause-shelf
returns-in-Ok-clause-shelf g c =
    shelf_of_one (NamesQuestionFile of_piece (map (string_bytes {Z = Global}) c.args.rest.now)) c.in-Ok.asked.path.now
    (c.in-Ok.asked.number, c.in-Ok.ensures.asked) c.answer_piece.ensures.shelf

pub returns-in-Err-clause-says : goal.returns-in-Err-clause-says
returns-in-Err-clause-says g c =
    let rest : List (List ℕ) = map (string_bytes {Z = Global}) c.args.rest.now in
    of_no_file (g.S.Shelf.told c.args.shelf.now) (NamesQuestionFile of_piece rest)
    (λ path is. asked_or_usage (file_key of_piece) rest is.0 c.in-Err.n path is.1 c.in-Err.ensures.usage)
    (says_within _ _ _ _ _ c.refuse.result (record { to = λ text status a. refused c.in-Err.n c.in-Err.ensures.usage a }) (λ none. absurd none) c.refuse.ensures)
