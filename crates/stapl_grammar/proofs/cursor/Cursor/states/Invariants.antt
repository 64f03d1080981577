use Rattle.std.proofs.Common.{◌≡◌, length}
use Rattle.stapl_grammar.specs.PartReading.{with_front, more_states_at, states_at}
use Rattle.stapl_grammar.proofs.cursor.Cursor.states.Given as goal

abbrev pub invariant-states : goal.invariant-states
invariant-states l = with_front l.states.items (more_states_at l.self) ≡ states_at l.fn.self

abbrev pub decreases-states : goal.decreases-states
decreases-states l = length l.self
