use Rattle.carried_plays.proofs.CarriedChoices.{carries}
use Rattle.carried_plays.proofs.laws.a_play_carries_its_padding.Goals as goal

pub returns : goal.returns
returns c = λ text end program name base is bare free closes short.
    carries text end program name base (c.programs_are_typed.ensures text program is) is bare free closes short
