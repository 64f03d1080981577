use Rattle.std.proofs.Common.{ℕ, List, map, string_bytes, Global, refl, sym, subst}
use Rattle.tool_frame.proofs.AnswerLemmas.{says_within, says_failed, said_text, said_front}
use Rattle.quiet_tool.specs.declared.status.QuietStatus.TheVariants.{Usage}
use Rattle.quiet_tool.specs.Words.{HasUsage, AreRefused}
use Rattle.quiet_tool.specs.Answers.{usage}
use Rattle.quiet_tool.proofs.WordLemmas.{usage_is}
use Rattle.quiet_tool.proofs.FileLemmas.{of_question, of_refused, of_all_words, shelf_of_question}
use Rattle.quiet_tool.proofs.AnswerLemmas.{question_in_words}
use Rattle.quiet_tool.proofs.Everywhere.{promised}
use Rattle.quiet_tool.proofs.judge.QuietJudgeTool.answer.Goals as goal

pub returns-in-Ok-clause-answers : goal.returns-in-Ok-clause-answers
returns-in-Ok-clause-answers g c =
    let asks = c.in-Ok.ensures.question in
    of_question (g.S.Shelf.told c.args.shelf.now) c.in-Ok.question asks c.answer_question.ensures.says (λ contents says. record {
      says = says_within _ _ _ _ _ c.answer_question.result
          (record { to = λ text status a. (promised _ contents).to text status ((question_in_words c.in-Ok.question contents asks).to text status a) }) (λ same. same) says;
      left = c.answer_question.ensures.kinds;
    })

pub returns-in_err-put_usage-in-Err-Usage-clause-answers : goal.returns-in_err-put_usage-in-Err-Usage-clause-answers
returns-in_err-put_usage-in-Err-Usage-clause-answers g c =
    let words : List (List ℕ) = map (string_bytes {Z = Global}) c.args.words.now in
    let refused : HasUsage words c.in-Err-Usage.n = subst (AreRefused words) c.in-Err-Usage.field-0-is c.in-Err-Usage.ensures.refused in
    of_refused (g.S.Shelf.told c.args.shelf.now) refused (λ contents. record {
      says = says_failed _ _ _ _ _ c.from_residual.result c.from_residual.ensures.1
          (said_front _ (Usage _) ((promised words contents).to _ (Usage _) (usage _ (usage_is (sym c.in-Err-Usage.n-is) refused))) c.in_err-put_usage-in-Err-Usage.ensures);
      left = refl;
    })

pub returns-in_ok-put_usage-in-Err-Usage-clause-answers : goal.returns-in_ok-put_usage-in-Err-Usage-clause-answers
returns-in_ok-put_usage-in-Err-Usage-clause-answers g c =
    let words : List (List ℕ) = map (string_bytes {Z = Global}) c.args.words.now in
    let refused : HasUsage words c.in-Err-Usage.n = subst (AreRefused words) c.in-Err-Usage.field-0-is c.in-Err-Usage.ensures.refused in
    of_refused (g.S.Shelf.told c.args.shelf.now) refused (λ contents. record {
      says = said_text _ ((promised words contents).to _ (Usage _) (usage _ (usage_is (sym c.in-Err-Usage.n-is) refused))) c.in_ok-put_usage-in-Err-Usage.ensures;
      left = refl;
    })

pub returns-in-Err-Memory-clause-answers : goal.returns-in-Err-Memory-clause-answers
returns-in-Err-Memory-clause-answers g c =
    of_all_words (g.S.Shelf.told c.args.shelf.now) (map (string_bytes {Z = Global}) c.args.words.now) (λ contents. record { says = (refl, refl); left = refl })

pub returns-in-Ok-clause-shelf : goal.returns-in-Ok-clause-shelf
returns-in-Ok-clause-shelf g c =
    shelf_of_question c.in-Ok.question c.in-Ok.ensures.question c.answer_question.ensures.shelf
