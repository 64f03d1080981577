use Rattle.std.proofs.Common.{false, [], ap, ◌∙◌}
use Rattle.stapl_meaning.specs.Texts.{events_text}
use Rattle.scan_accounts.specs.MadeTurns.{made_play}
use Rattle.scan_accounts.proofs.MadeEvents.{play_events}
use Rattle.scan_accounts.proofs.OtherLines.{other_lines}
use Rattle.scan_accounts.proofs.TurnByTurn.{turns_of_play}
use Rattle.scan_accounts.proofs.laws.a_made_play_is_the_play_turn_by_turn.Goals as goal

pub returns : goal.returns
returns c = record {
  events = play_events;
  turns = turns_of_play;
  lines = λ program chosen n base far.
      other_lines (made_play program chosen n base far) ∙ ap (events_text false []) (play_events program chosen n base far);
}
