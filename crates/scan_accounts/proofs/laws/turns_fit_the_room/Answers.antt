use Rattle.scan_accounts.proofs.TurnRooms.{turns_have_room}
use Rattle.scan_accounts.proofs.laws.turns_fit_the_room.Goals as goal

pub returns : goal.returns
returns c = λ text program chosen n base far is.
    turns_have_room program (c.programs_are_typed.ensures text program is) chosen n base far
