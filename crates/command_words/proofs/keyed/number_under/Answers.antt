use Rattle.std.proofs.Common.{rules}
use Rattle.command_words.proofs.ValueLemmas.{no_number}
use Rattle.command_words.proofs.keyed.number_under.Goals as goal

pub returns-in-Some-clause-none : goal.returns-in-Some-clause-none
returns-in-Some-clause-none c =
    no_number c.args.word.now c.args.key.now c.in-Some.spelling.now c.args.least c.args.most c.spelled_number.result (search rules)
    c.spelled_number.ensures.none
