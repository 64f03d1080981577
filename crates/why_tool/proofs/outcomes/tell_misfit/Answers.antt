use Rattle.std.proofs.Common.{pos}
use Rattle.std.specs.Option.{option_map}
use Rattle.stapl_syntax.specs.ProgramValues.{trees_of}
use Rattle.play_words.specs.declared.status.Status.TheVariants.{Done}
use Rattle.tool_frame.proofs.AnswerLemmas.{says_failed}
use Rattle.why_tool.specs.Texts.{misfit_line}
use Rattle.why_tool.specs.Told.{list_or_none}
use Rattle.why_tool.proofs.OutcomeLemmas.{part_said, part_front, part_failed, told_more}
use Rattle.why_tool.proofs.outcomes.tell_misfit.Goals as goal

pub returns-in_err-tell : goal.returns-in_err-tell
returns-in_err-tell g c =
    part_failed _ _ _ _ _ (list_or_none (option_map (λ program. trees_of program.now) c.args.program)) (Done (pos 0)) _ c.from_residual.result
    (told_more (misfit_line c.args.name.now) c.args.head.now _) c.from_residual.ensures.1 c.in_err-tell.ensures

pub returns-in_err-put_list_of : goal.returns-in_err-put_list_of
returns-in_err-put_list_of g c =
    says_failed _ _ _ _ _ c.from_residual-in_err-put_list_of.result c.from_residual-in_err-put_list_of.ensures.1
    (part_front _ (Done (pos 0)) (told_more (misfit_line c.args.name.now) c.args.head.now _) c.in_ok-tell.ensures c.in_err-put_list_of.ensures)

pub returns : goal.returns
returns g c = part_said _ (Done (pos 0)) (told_more (misfit_line c.args.name.now) c.args.head.now _) c.in_ok-tell.ensures c.in_ok-put_list_of.ensures
