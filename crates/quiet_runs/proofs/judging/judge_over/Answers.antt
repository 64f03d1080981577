use Rattle.quiet_runs.proofs.Judges.{judges}
use Rattle.quiet_runs.proofs.judging.judge_over.Goals as goal

pub returns-in-Ok-clause-judged : goal.returns-in-Ok-clause-judged
returns-in-Ok-clause-judged g c =
    judges _ _ c.args.code.now c.args.chosen.now c.args.turns c.args.descs.now c.args.watch.now c.watch_play.new.watch c.in-Ok.ending
    c.requires.new c.in-Ok.ensures.played c.unquiet.result c.unquiet.ensures
