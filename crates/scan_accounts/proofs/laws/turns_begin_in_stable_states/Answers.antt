use Rattle.stapl_meaning.specs.Scopes.{as_played}
use Rattle.scan_accounts.proofs.StableStarts.{play_starts}
use Rattle.scan_accounts.proofs.laws.turns_begin_in_stable_states.Goals as goal

pub returns : goal.returns
returns c = λ text program chosen n base far is.
    play_starts (as_played program) (c.programs_are_typed.ensures text program is) chosen n base far
