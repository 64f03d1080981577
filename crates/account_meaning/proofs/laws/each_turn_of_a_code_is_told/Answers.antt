use Rattle.stapl_meaning.specs.Plays.{chain_reset}
use Rattle.account_meaning.proofs.ToldTurns.{turns_are_told}
use Rattle.account_meaning.proofs.laws.each_turn_of_a_code_is_told.Goals as goal

pub returns : goal.returns
returns c = λ text program code table chosen base far sound tells is short ends. turns_are_told text program code table sound tells is chosen (chain_reset base far) ends
