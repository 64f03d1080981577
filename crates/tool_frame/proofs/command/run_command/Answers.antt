use Rattle.std.proofs.Common.{◌∙◌, sym, ap, refl, Ok}
use Rattle.std.specs.Option.{option_map}
use Rattle.tool_frame.specs.Commands.{text_shown, tool_ran}
use Rattle.tool_frame.proofs.CommandLemmas.{show_failed, run_failed}
use Rattle.tool_frame.proofs.FileLemmas.{shelf_as, shelf_at}
use Rattle.tool_frame.proofs.command.run_command.Goals as goal

pub returns-in_err-write_text-in-Some-clause-ran : goal.returns-in_err-write_text-in-Some-clause-ran
returns-in_err-write_text-in-Some-clause-ran g c =
    show_failed c.in-Some.text.now c.from_residual.result
    (rw (c.help.ensures, c.version.ensures) at (sym c.text_asked.ensures ∙ ap (option_map (λ text. text.now)) c.in-Some.is))
    c.from_residual.ensures.1 c.in_err-write_text-in-Some.ensures.front refl

pub returns-in_ok-write_text-in-Some-clause-ran : goal.returns-in_ok-write_text-in-Some-clause-ran
returns-in_ok-write_text-in-Some-clause-ran g c =
    text_shown c.in-Some.text.now (rw (c.help.ensures, c.version.ensures) at (sym c.text_asked.ensures ∙ ap (option_map (λ text. text.now)) c.in-Some.is))
    c.in_ok-write_text-in-Some.ensures.ok refl

pub returns-in_err-ending-in-None-clause-ran : goal.returns-in_err-ending-in-None-clause-ran
returns-in_err-ending-in-None-clause-ran g c =
    run_failed c.in_err-ending-in-None.field-0.0 c.from_residual-in_err-ending-in-None.result
    (rw (c.help.ensures, c.version.ensures) at (sym c.text_asked.ensures ∙ ap (option_map (λ text. text.now)) c.in-None.is))
    c.from_residual-in_err-ending-in-None.ensures.1 c.in_err-ending-in-None.ensures.ran

pub returns-in_ok-ending-in-None-clause-ran : goal.returns-in_ok-ending-in-None-clause-ran
returns-in_ok-ending-in-None-clause-ran g c =
    tool_ran (rw (c.help.ensures, c.version.ensures) at (sym c.text_asked.ensures ∙ ap (option_map (λ text. text.now)) c.in-None.is))
    (Ok c.in_ok-ending-in-None.ending) refl c.in_ok-ending-in-None.ensures.ran

pub returns-in_err-ending-in-None-clause-shelf : goal.returns-in_err-ending-in-None-clause-shelf
returns-in_err-ending-in-None-clause-shelf g c =
    shelf_at c.in_err-ending-in-None.field-0.0 c.from_residual-in_err-ending-in-None.result c.from_residual-in_err-ending-in-None.ensures.1
    c.in_err-ending-in-None.ensures.shelf

pub returns-in_ok-ending-in-None-clause-shelf : goal.returns-in_ok-ending-in-None-clause-shelf
returns-in_ok-ending-in-None-clause-shelf g c = shelf_as (λ failed. absurd cc) c.in_ok-ending-in-None.ensures.shelf
