use Rattle.std.proofs.Common.{ℕ, List, map, string_bytes, Global}
use Rattle.tool_frame.proofs.AnswerLemmas.{says_within, says_failed, said_text, said_front}
use Rattle.tool_frame.proofs.FileLemmas.{of_one_file, of_no_file, shelf_of_one}
use Rattle.counting_tests.specs.declared.status.CountStatus.TheVariants.{Usage}
use Rattle.counting_tests.specs.Words.{NamesBoard}
use Rattle.counting_tests.specs.Answers.{usage, asked}
use Rattle.counting_tests.proofs.WordLemmas.{one_named}
use Rattle.counting_tests.proofs.counter.CounterTool.answer.Goals as goal

pub returns-in-Some-clause-answers : goal.returns-in-Some-clause-answers
returns-in-Some-clause-answers g c =
    let words : List (List ℕ) = map (string_bytes {Z = Global}) c.args.words.now in
    of_one_file (g.S.Shelf.told c.args.shelf.now) (NamesBoard words) c.in-Some.path.now (λ other is. one_named words other c.in-Some.path.now is c.in-Some.ensures.some)
    c.answer_file.ensures.says (λ held says. record {
      says = says_within _ _ _ _ _ c.answer_file.result (record { to = λ text status a. asked c.in-Some.path.now text status c.in-Some.ensures.some a }) (λ same. same) says;
      left = tt;
    })

pub returns-in_err-put_usage-in-None-clause-answers : goal.returns-in_err-put_usage-in-None-clause-answers
returns-in_err-put_usage-in-None-clause-answers g c =
    of_no_file (g.S.Shelf.told c.args.shelf.now) (NamesBoard (map (string_bytes {Z = Global}) c.args.words.now)) c.in-None.ensures.none (record {
      says = says_failed _ _ _ _ _ c.from_residual.result c.from_residual.ensures.1
          (said_front _ Usage (usage c.in-None.ensures.none) c.in_err-put_usage-in-None.ensures);
      left = tt;
    })

pub returns-in_ok-put_usage-in-None-clause-answers : goal.returns-in_ok-put_usage-in-None-clause-answers
returns-in_ok-put_usage-in-None-clause-answers g c =
    of_no_file (g.S.Shelf.told c.args.shelf.now) (NamesBoard (map (string_bytes {Z = Global}) c.args.words.now)) c.in-None.ensures.none (record {
      says = said_text _ (usage c.in-None.ensures.none) c.in_ok-put_usage-in-None.ensures;
      left = tt;
    })

pub returns-in-Some-clause-shelf : goal.returns-in-Some-clause-shelf
returns-in-Some-clause-shelf g c =
    shelf_of_one (NamesBoard (map (string_bytes {Z = Global}) c.args.words.now)) c.in-Some.path.now c.in-Some.ensures.some c.answer_file.ensures.shelf
