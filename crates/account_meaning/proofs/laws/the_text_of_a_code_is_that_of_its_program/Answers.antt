use Rattle.stapl_meaning.specs.Scopes.{as_played}
use Rattle.stapl_meaning.specs.Plays.{chain_reset}
use Rattle.stapl_machine.specs.Machines.{play_of}
use Rattle.scan_accounts.specs.MadeTurns.{made_play}
use Rattle.account_meaning.proofs.SourceTurns.{source_turns}
use Rattle.account_meaning.proofs.SourceTexts.{tells_scans, texts_are}
use Rattle.account_meaning.proofs.laws.the_text_of_a_code_is_that_of_its_program.Goals as goal

pub returns : goal.returns
returns c = λ text program pieces code table chosen n base far turns sound cut tells is short are few whole.
    texts_are text program pieces table cut tells code base (λ m. play_of code chosen m (chain_reset base far)) turns
    (made_play (as_played program) chosen n base far).turns
    (source_turns (as_played program) code table is short (tells_scans text program pieces table cut tells) chosen n base far turns are few whole) are
    (c.a_turn_has_runs_or_lines.ensures.order text program chosen n base far (record { text = text; pieces = pieces }) sound)
