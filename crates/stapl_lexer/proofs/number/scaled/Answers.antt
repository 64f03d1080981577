use Rattle.std.proofs.Common.{◌∙◌}
use Rattle.stapl_lexer.proofs.NumberLemmas.{scaled_more}
use Rattle.stapl_lexer.proofs.number.scaled.Goals as goal

pub loop-turn-preserved : goal.loop-turn-preserved
loop-turn-preserved c = c.min-scaled.ensures ∙ scaled_more c.args.value c.loop-turn._turn c.loop-turn.scaled c.loop-turn.invariant
