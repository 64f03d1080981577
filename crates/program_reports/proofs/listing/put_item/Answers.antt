use Rattle.program_reports.specs.Listings.{choice_word}
use Rattle.tool_io.proofs.PutLemmas.{front_with, put_failed, put_then_put}
use Rattle.program_reports.proofs.listing.put_item.Goals as goal

pub returns-in_err-put_name : goal.returns-in_err-put_name
returns-in_err-put_name g c =
    put_failed c.from_residual.result c.from_residual.ensures.0
    (front_with (choice_word c.args.item.now.choice) c.in_err-put_name.ensures)

pub returns : goal.returns
returns g c =
    put_then_put _ _ c.put_choice.result c.in_ok-put_name.ensures
    c.put_choice.ensures
