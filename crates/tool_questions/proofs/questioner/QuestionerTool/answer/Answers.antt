use Rattle.std.proofs.Common.{◌≡◌, ℕ, false, List, map, string_bytes, Global}
use Rattle.tool_frame.proofs.AnswerLemmas.{says_within}
use Rattle.tool_frame.proofs.FileLemmas.{of_no_file}
use Rattle.tool_questions.specs.Questions.{ask_question, of_piece, of_line, of_board, IsAskedOf, of_word, of_file, no_question}
use Rattle.tool_questions.proofs.AskedLemmas.{of_asked, shelf_of_asked}
use Rattle.tool_questions.proofs.WordLemmas.{no_question_of, no_both, file_asks}
use Rattle.tool_questions.proofs.questioner.QuestionerTool.answer.Goals as goal

pub returns-in-Some-clause-answers : goal.returns-in-Some-clause-answers
returns-in-Some-clause-answers g c =
    let words : List (List ℕ) = map (string_bytes {Z = Global}) c.args.words.now in
    of_no_file (g.S.Shelf.told c.args.shelf.now) (IsAskedOf words) (λ path is. no_both words _ is.rest is.question c.in-Some.ensures.some is.words_are) (record {
      says = says_within _ _ _ _ _ c.answer_word.result (record { to = λ text status a. of_word _ c.in-Some.ensures.some a }) (λ none. absurd none) c.answer_word.ensures;
      left = tt;
    })

pub returns-in-Some-words_after-clause-answers : goal.returns-in-Some-words_after-clause-answers
returns-in-Some-words_after-clause-answers g c =
    let words : List (List ℕ) = map (string_bytes {Z = Global}) c.args.words.now in
    of_asked words _ of_piece c.in-Some-words_after.ensures.some (λ contents says. record {
      says = says_within _ _ _ _ _ c.ask_piece.result (record { to = λ text status a. of_file of_piece _ c.in-Some-words_after.ensures.some a }) (λ same. same) says;
      left = tt;
    }) c.ask_piece.ensures.says

pub returns-in-Some-words_after-clause-shelf : goal.returns-in-Some-words_after-clause-shelf
returns-in-Some-words_after-clause-shelf g c =
    let words : List (List ℕ) = map (string_bytes {Z = Global}) c.args.words.now in
    shelf_of_asked words _ of_piece c.in-Some-words_after.ensures.some c.ask_piece.ensures.shelf

pub returns-in-Some-words_after-2-clause-answers : goal.returns-in-Some-words_after-2-clause-answers
returns-in-Some-words_after-2-clause-answers g c =
    let words : List (List ℕ) = map (string_bytes {Z = Global}) c.args.words.now in
    of_asked words _ of_line c.in-Some-words_after-2.ensures.some (λ contents says. record {
      says = says_within _ _ _ _ _ c.ask_line.result (record { to = λ text status a. of_file of_line _ c.in-Some-words_after-2.ensures.some a }) (λ same. same) says;
      left = tt;
    }) c.ask_line.ensures.says

pub returns-in-Some-words_after-2-clause-shelf : goal.returns-in-Some-words_after-2-clause-shelf
returns-in-Some-words_after-2-clause-shelf g c =
    let words : List (List ℕ) = map (string_bytes {Z = Global}) c.args.words.now in
    shelf_of_asked words _ of_line c.in-Some-words_after-2.ensures.some c.ask_line.ensures.shelf

pub returns-in-Some-words_after-3-clause-answers : goal.returns-in-Some-words_after-3-clause-answers
returns-in-Some-words_after-3-clause-answers g c =
    let words : List (List ℕ) = map (string_bytes {Z = Global}) c.args.words.now in
    of_asked words _ of_board c.in-Some-words_after-3.ensures.some (λ contents says. record {
      says = says_within _ _ _ _ _ c.ask_board.result (record { to = λ text status a. of_file of_board _ c.in-Some-words_after-3.ensures.some a }) (λ same. same) says;
      left = tt;
    }) c.ask_board.ensures.says

pub returns-in-Some-words_after-3-clause-shelf : goal.returns-in-Some-words_after-3-clause-shelf
returns-in-Some-words_after-3-clause-shelf g c =
    let words : List (List ℕ) = map (string_bytes {Z = Global}) c.args.words.now in
    shelf_of_asked words _ of_board c.in-Some-words_after-3.ensures.some c.ask_board.ensures.shelf

pub returns-clause-answers : goal.returns-clause-answers
returns-clause-answers g c =
    let words : List (List ℕ) = map (string_bytes {Z = Global}) c.args.words.now in
    let none : ask_question words ≡ false = no_question_of words c.in_default.ensures.none c.in_default-words_after.ensures.none
    c.in_default-words_after-2.ensures.none c.in_default-words_after-3.ensures.none in
    of_no_file (g.S.Shelf.told c.args.shelf.now) (IsAskedOf words) (λ path is. file_asks words is.rest is.question is.words_are none) (record {
      says = says_within _ _ _ _ _ c.refuse.result (record { to = λ text status a. no_question none a }) (λ none. absurd none) c.refuse.ensures;
      left = tt;
    })
