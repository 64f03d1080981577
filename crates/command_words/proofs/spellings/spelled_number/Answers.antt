use Rattle.std.proofs.Common.{arith}
use Rattle.command_words.proofs.NumberLemmas.{number_parsed}
use Rattle.command_words.proofs.spellings.spelled_number.Goals as goal

pub returns-in_default-clause-none : goal.returns-in_default-clause-none
returns-in_default-clause-none c = λ n s. c.in_default.ensures.value.0 (number_parsed c.args.least c.args.most c.args.spelling.now n (omega arith) s)
