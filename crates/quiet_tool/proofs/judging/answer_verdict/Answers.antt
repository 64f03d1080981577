use Rattle.quiet_tool.proofs.AnswerLemmas.{verdict_quiet, verdict_unquiet}
use Rattle.quiet_tool.proofs.judging.answer_verdict.Goals as goal

pub returns-in_ok-text-in-Quiet : goal.returns-in_ok-text-in-Quiet
returns-in_ok-text-in-Quiet c = verdict_quiet c.in-Quiet.ending c.in_ok-text-in-Quiet.text.items c.in-Quiet.is c.in_ok-text-in-Quiet.ensures

pub returns-in_ok-text-in-NotQuiet : goal.returns-in_ok-text-in-NotQuiet
returns-in_ok-text-in-NotQuiet c =
    verdict_unquiet c.in-NotQuiet.turn c.in-NotQuiet.piece c.in_ok-line-in-NotQuiet.line c.in-NotQuiet.why c.in_ok-text-in-NotQuiet.text.items c.in-NotQuiet.is
    c.in_ok-line-in-NotQuiet.ensures c.in_ok-text-in-NotQuiet.ensures
