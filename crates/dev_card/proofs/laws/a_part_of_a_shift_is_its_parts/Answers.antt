use Rattle.dev_card.proofs.Scanning.{inputs_of_both}
use Rattle.dev_card.proofs.laws.a_part_of_a_shift_is_its_parts.Goals as goal

pub returns : goal.returns
returns c = inputs_of_both
