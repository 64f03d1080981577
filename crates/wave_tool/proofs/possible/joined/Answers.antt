use Rattle.std.proofs.Common.{sym, rules}
use Rattle.wave_tool.proofs.Settled.{one_state_is}
use Rattle.wave_tool.proofs.possible.joined.Goals as goal

pub returns-in-Some : goal.returns-in-Some
returns-in-Some c = one_state_is c.args.states c.in-Some.state (search rules) (sym c.in-Some.ensures)
