use Rattle.std.proofs.Common.{length, inl, refl, arith}
use Rattle.stapl_meaning.specs.Scopes.{as_played}
use Rattle.scan_accounts.specs.MadeTurns.{made_play}
use Rattle.scan_accounts.specs.Rooms.{most_states, turn_bits, turn_runs}
use Rattle.account_meaning.proofs.SourceTurns.{source_turns}
use Rattle.account_meaning.proofs.SourceTexts.{tells_scans}
use Rattle.account_meaning.proofs.TurnRooms.{turns_find_room}
use Rattle.account_meaning.proofs.laws.the_turns_of_a_code_fit_the_room.Goals as goal

pub returns : goal.returns
returns c = λ text program code table chosen base far kept sound tells is short bits runs turns are.
    turns_find_room kept (turn_bits base (most_states program)) (turn_runs (most_states program)) turns
    (made_play (as_played program) chosen (length turns) base far).turns bits runs
    (source_turns (as_played program) code table is short (tells_scans text program sound.pieces table sound.cut tells) chosen (length turns) base far turns are
    (omega arith) (inl refl))
    (c.turns_fit_the_room.ensures text program chosen (length turns) base far sound)
