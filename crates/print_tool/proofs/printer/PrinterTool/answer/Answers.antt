use Rattle.std.proofs.Common.{ℕ, List, map, string_bytes, Global}
use Rattle.tool_frame.proofs.AnswerLemmas.{says_within, says_failed, said_text, said_front}
use Rattle.tool_frame.proofs.FileLemmas.{of_one_file, of_no_file, shelf_of_one}
use Rattle.print_tool.specs.declared.status.PrintStatus.TheVariants.{Usage}
use Rattle.print_tool.specs.Words.{NamesProgram}
use Rattle.print_tool.specs.Answers.{usage, asked}
use Rattle.print_tool.proofs.WordLemmas.{one_named, refused_names_none}
use Rattle.print_tool.proofs.CanonicalLemmas.{promised}
use Rattle.print_tool.proofs.printer.PrinterTool.answer.Goals as goal

pub returns-in-Ok-clause-answers : goal.returns-in-Ok-clause-answers
returns-in-Ok-clause-answers g c =
    let words : List (List ℕ) = map (string_bytes {Z = Global}) c.args.words.now in
    of_one_file (g.S.Shelf.told c.args.shelf.now) (NamesProgram words) c.in-Ok.path.now (λ other is. one_named words other c.in-Ok.path.now is c.in-Ok.ensures.named)
    c.answer_file.ensures.says (λ held says. record {
      says = says_within _ _ _ _ _ c.answer_file.result (record { to = λ text status a. (promised held words).to text status (asked c.in-Ok.path.now text status c.in-Ok.ensures.named a) }) (λ same. same) says;
      left = tt;
    })

pub returns-in-Ok-clause-shelf : goal.returns-in-Ok-clause-shelf
returns-in-Ok-clause-shelf g c =
    shelf_of_one (NamesProgram (map (string_bytes {Z = Global}) c.args.words.now)) c.in-Ok.path.now c.in-Ok.ensures.named c.answer_file.ensures.shelf

pub returns-in_err-put_usage-in-Err-clause-answers : goal.returns-in_err-put_usage-in-Err-clause-answers
returns-in_err-put_usage-in-Err-clause-answers g c =
    let words : List (List ℕ) = map (string_bytes {Z = Global}) c.args.words.now in
    of_no_file (g.S.Shelf.told c.args.shelf.now) (NamesProgram words) (λ path named. refused_names_none words c.in-Err.n path c.in-Err.ensures.usage named) (record {
      says = says_failed _ _ _ _ _ c.from_residual.result c.from_residual.ensures.1
          (said_front _ (Usage c.in-Err.n) ((promised _ words).to _ (Usage c.in-Err.n) (usage c.in-Err.n c.in-Err.ensures.usage)) c.in_err-put_usage-in-Err.ensures);
      left = tt;
    })

pub returns-in_ok-put_usage-in-Err-clause-answers : goal.returns-in_ok-put_usage-in-Err-clause-answers
returns-in_ok-put_usage-in-Err-clause-answers g c =
    let words : List (List ℕ) = map (string_bytes {Z = Global}) c.args.words.now in
    of_no_file (g.S.Shelf.told c.args.shelf.now) (NamesProgram words) (λ path named. refused_names_none words c.in-Err.n path c.in-Err.ensures.usage named) (record {
      says = said_text _ ((promised _ words).to _ (Usage c.in-Err.n) (usage c.in-Err.n c.in-Err.ensures.usage)) c.in_ok-put_usage-in-Err.ensures;
      left = tt;
    })
