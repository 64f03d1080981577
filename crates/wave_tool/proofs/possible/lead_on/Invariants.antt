use Rattle.std.proofs.Common.{◌≡◌, ◌++◌, take, drop}
use Rattle.wave_tool.specs.States.{states_after}
use Rattle.wave_tool.proofs.possible.lead_on.Given as goal

abbrev pub invariant-loop-state : goal.invariant-loop-state
invariant-loop-state l = record {
  so_far : l.states ≡ states_after (take l.state-index l.initial.states) l.tms ++ drop l.state-index l.initial.states;
}
