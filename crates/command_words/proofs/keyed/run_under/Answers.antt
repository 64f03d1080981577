use Rattle.std.proofs.Common.{rules}
use Rattle.command_words.proofs.RunLemmas.{no_run, some_run}
use Rattle.command_words.proofs.keyed.run_under.Goals as goal

pub returns-in-Some-clause-some : goal.returns-in-Some-clause-some
returns-in-Some-clause-some c =
    some_run c.args.word.now c.args.key.now c.in-Some.spelling.now c.args.most c.spelled_run.result (search rules) c.spelled_run.ensures.some

pub returns-in-Some-clause-none : goal.returns-in-Some-clause-none
returns-in-Some-clause-none c =
    no_run c.args.word.now c.args.key.now c.in-Some.spelling.now c.args.most c.spelled_run.result (search rules) c.spelled_run.ensures.none
