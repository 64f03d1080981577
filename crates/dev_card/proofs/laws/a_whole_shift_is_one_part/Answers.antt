use Rattle.dev_card.proofs.Scanning.{inputs_of_whole}
use Rattle.dev_card.proofs.laws.a_whole_shift_is_one_part.Goals as goal

pub returns : goal.returns
returns c = inputs_of_whole
