use Rattle.std.proofs.Common.{List, ap, ◌∙◌}
use Rattle.std.specs.Prelude.{flat_map}
use Rattle.stapl_meaning.specs.Plays.{chain_reset}
use Rattle.stapl_machine.specs.Machines.{play_of}
use Rattle.scan_accounts.specs.MadeTurns.{MadeTurn}
use Rattle.scan_accounts.specs.Accounts.{passages_of, scans_among}
use Rattle.account_meaning.proofs.SourceTurns.{source_turns}
use Rattle.account_meaning.proofs.ScanSums.{scans_are}
use Rattle.account_meaning.proofs.laws.the_scans_of_a_code_are_those_of_its_program.Goals as goal

pub returns : goal.returns
returns c = λ program code table chosen n base far turns ir is short tells are few whole.
    scans_are table base ir code (λ m. play_of code chosen m (chain_reset base far)) turns are
    ∙ ap (λ (ts : List MadeTurn). scans_among ir (flat_map (passages_of base) ts))
    (source_turns program code table is short tells chosen n base far turns are few whole)
