use Rattle.std.proofs.Common.{ℕ, List, map, string_bytes, Global}
use Rattle.tool_frame.proofs.AnswerLemmas.{says_within, says_failed, said_text, said_front}
use Rattle.tool_frame.proofs.FileLemmas.{of_one_file, of_no_file, shelf_of_one}
use Rattle.wave_tool.specs.declared.status.WaveStatus.TheVariants.{Usage}
use Rattle.wave_tool.specs.Words.{IsRequest}
use Rattle.wave_tool.specs.Answers.{usage, asked}
use Rattle.wave_tool.proofs.WordLemmas.{one_request, no_usage}
use Rattle.wave_tool.proofs.waver.WaverTool.answer.Goals as goal

pub returns-in-Ok-clause-answers : goal.returns-in-Ok-clause-answers
returns-in-Ok-clause-answers g c =
    let words : List (List ℕ) = map (string_bytes {Z = Global}) c.args.words.now in
    of_one_file (g.S.Shelf.told c.args.shelf.now) (IsRequest words) c.in-Ok.path.now (λ other is. one_request words other c.in-Ok.path.now is c.in-Ok.ensures.request)
    c.answer_file.ensures.says (λ held says. record {
      says = says_within _ _ _ _ _ c.answer_file.result (record { to = λ text status a. asked c.in-Ok.path.now text status c.in-Ok.ensures.request a }) (λ same. same) says;
      left = tt;
    })

pub returns-in-Ok-clause-shelf : goal.returns-in-Ok-clause-shelf
returns-in-Ok-clause-shelf g c =
    shelf_of_one (IsRequest (map (string_bytes {Z = Global}) c.args.words.now)) c.in-Ok.path.now c.in-Ok.ensures.request c.answer_file.ensures.shelf

pub returns-in_err-put_usage-in-Err-clause-answers : goal.returns-in_err-put_usage-in-Err-clause-answers
returns-in_err-put_usage-in-Err-clause-answers g c =
    let words : List (List ℕ) = map (string_bytes {Z = Global}) c.args.words.now in
    of_no_file (g.S.Shelf.told c.args.shelf.now) (IsRequest words) (λ path asks. no_usage words path c.in-Err.n asks c.in-Err.ensures.usage) (record {
      says = says_failed _ _ _ _ _ c.from_residual.result c.from_residual.ensures.1
          (said_front _ (Usage c.in-Err.n) (usage c.in-Err.n c.in-Err.ensures.usage) c.in_err-put_usage-in-Err.ensures);
      left = tt;
    })

pub returns-in_ok-put_usage-in-Err-clause-answers : goal.returns-in_ok-put_usage-in-Err-clause-answers
returns-in_ok-put_usage-in-Err-clause-answers g c =
    let words : List (List ℕ) = map (string_bytes {Z = Global}) c.args.words.now in
    of_no_file (g.S.Shelf.told c.args.shelf.now) (IsRequest words) (λ path asks. no_usage words path c.in-Err.n asks c.in-Err.ensures.usage) (record {
      says = said_text _ (usage c.in-Err.n c.in-Err.ensures.usage) c.in_ok-put_usage-in-Err.ensures;
      left = tt;
    })
