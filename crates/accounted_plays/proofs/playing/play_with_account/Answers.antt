use Rattle.std.proofs.Common.{refl, sym, ◌∙◌}
use Rattle.scan_paths.specs.Scans.{lengths_of}
use Rattle.stapl_syntax.specs.ProgramValues.{trees_of}
use Rattle.tool_frame.proofs.AnswerLemmas.{says_failed}
use Rattle.accounted_plays.proofs.SourceAccounts.{tells_same, code_said, code_front}
use Rattle.accounted_plays.proofs.playing.play_with_account.Goals as goal

pub put_account-requires-clause-ends : goal.put_account-requires-clause-ends
put_account-requires-clause-ends g c =
    (tells_same c.args.program.now.text (trees_of c.args.program.now) c.args.code.now c.lists.result.now c.deref.result.now c.deref.result.now c.args.chosen.now
    (lengths_of c.base_of-base.result) c.args.task.now.devices.now (c.lists.ensures.lists ∙ c.raw.ensures.raw) refl c.check_turns.ensures).come_to_ends
    c.args.task.now.request.now.turns

pub returns-in_err-ending-clause-says : goal.returns-in_err-ending-clause-says
returns-in_err-ending-clause-says g c =
    let bytes = c.args.program.now.text in let trees = trees_of c.args.program.now in let chosen = c.args.chosen.now in
    let base = lengths_of c.base_of-base.result in let devices = c.args.task.now.devices.now in
    let tells = tells_same bytes trees c.args.code.now c.lists.result.now c.deref.result.now c.deref-3.result.now chosen base devices
    (c.lists.ensures.lists ∙ c.raw.ensures.raw) (c.deref-3.ensures.value ∙ sym c.deref.ensures.value) c.check_turns.ensures in
    says_failed _ _ _ _ _ c.from_residual-in_err-ending.result c.from_residual-in_err-ending.ensures.1
    (code_front bytes trees c.lists.result.now c.deref-3.result.now chosen base devices tells c.args.task.now.request.now c.base_of-base.ensures
    g.K.Sink c.args.lines.now c.put_account.new.lines c.in_err-ending.ensures.puts)

pub returns-clause-says : goal.returns-clause-says
returns-clause-says g c =
    let bytes = c.args.program.now.text in let trees = trees_of c.args.program.now in let chosen = c.args.chosen.now in
    let base = lengths_of c.base_of-base.result in let devices = c.args.task.now.devices.now in
    let tells = tells_same bytes trees c.args.code.now c.lists.result.now c.deref.result.now c.deref-3.result.now chosen base devices
    (c.lists.ensures.lists ∙ c.raw.ensures.raw) (c.deref-3.ensures.value ∙ sym c.deref.ensures.value) c.check_turns.ensures in
    code_said bytes trees c.lists.result.now c.deref-3.result.now chosen base devices tells c.args.task.now.request.now c.base_of-base.ensures
    g.K.Sink c.args.lines.now c.put_account.new.lines c.in_ok-ending.ending c.in_ok-ending.ensures.puts
