use Rattle.std.proofs.Common.{Some}
use Rattle.dev_card.specs.Padding.{base_lengths}
use Rattle.carried_padding.proofs.CarriedPadding.{carries_padding}
use Rattle.carried_padding.proofs.laws.a_program_carries_its_padding.Goals as goal

pub returns : goal.returns
returns c = λ text end program name devices run is bare free closes good few.
    carries_padding name end program devices run (c.programs_are_accepted.ensures text program is) c.programs_are_not_stuck.ensures
    (c.a_play_carries_its_padding.ensures text end program name (base_lengths devices (Some run)) is bare free closes
    (c.base_padding_is_short.ensures devices run good few))
