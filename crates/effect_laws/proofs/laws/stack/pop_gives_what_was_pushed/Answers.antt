use Rattle.effect_laws.proofs.Stacks.{pop_after_push}
use Rattle.effect_laws.proofs.laws.stack.pop_gives_what_was_pushed.Goals as goal

pub returns : goal.returns
returns c = pop_after_push
