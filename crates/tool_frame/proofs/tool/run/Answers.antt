use Rattle.std.proofs.Common.{rules, map, string_bytes, Global}
use Rattle.tool_frame.proofs.AnswerLemmas.{wrote_all, unfinished, not_answered}
use Rattle.tool_frame.specs.declared.no_answer.NoAnswer.TheVariants.{Write}
use Rattle.tool_frame.proofs.FileLemmas.{of_files_as, shelf_unwritten}
use Rattle.tool_frame.proofs.FrameLemmas.{left_at}
use Rattle.tool_frame.proofs.tool.run.Goals as goal

pub returns-in_err-ending-clause-ran : goal.returns-in_err-ending-clause-ran
returns-in_err-ending-clause-ran g c =
    of_files_as (λ contents a. record {
      written = not_answered g.K.Sink (g.T.Tool.answers (map (string_bytes {Z = Global}) c.args.words.now) contents) _ _ c.in_err-ending.field-0.0
          c.from_residual.result c.from_residual.ensures.1 c.new-lines.ensures.empty (search rules) (search rules) (λ same. same) a.says;
      left = left_at (g.T.Tool.leaves (map (string_bytes {Z = Global}) c.args.words.now) contents _ _) c.in_err-ending.field-0.0
          c.from_residual.result c.from_residual.ensures.1 a.left;
    }) c.in_err-ending.ensures.answers

pub returns-in_err-finish-clause-ran : goal.returns-in_err-finish-clause-ran
returns-in_err-finish-clause-ran g c =
    of_files_as (λ contents a. record {
      written = unfinished c.new-lines.ensures.empty (search rules) c.from_residual-in_err-finish.result c.from_residual-in_err-finish.ensures.1 (search rules)
          a.says c.in_err-finish.ensures.put;
      left = left_at (g.T.Tool.leaves (map (string_bytes {Z = Global}) c.args.words.now) contents _ _) Write
          c.from_residual-in_err-finish.result c.from_residual-in_err-finish.ensures.1
          (g.met.T.Tool.leaves_at_write_fault (map (string_bytes {Z = Global}) c.args.words.now) contents _ _ _ a.left);
    }) c.in_ok-ending.ensures.answers

pub returns-clause-ran : goal.returns-clause-ran
returns-clause-ran g c =
    of_files_as (λ contents a. record { written = wrote_all c.new-lines.ensures.empty (search rules) (search rules) a.says c.in_ok-finish.ensures.put c.in_ok-finish.ensures.empty; left = a.left })
    c.in_ok-ending.ensures.answers

pub returns-in_err-finish-clause-shelf : goal.returns-in_err-finish-clause-shelf
returns-in_err-finish-clause-shelf g c =
    shelf_unwritten c.from_residual-in_err-finish.result c.from_residual-in_err-finish.ensures.1 c.in_ok-ending.ensures.shelf
