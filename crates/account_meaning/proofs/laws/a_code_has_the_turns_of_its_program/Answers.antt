use Rattle.account_meaning.proofs.SourceTurns.{source_turns}
use Rattle.account_meaning.proofs.laws.a_code_has_the_turns_of_its_program.Goals as goal

pub returns : goal.returns
returns c = λ program code table chosen n base far turns is short scans are few whole. source_turns program code table is short scans chosen n base far turns are few whole
