use Rattle.dev_card.proofs.Reaching.{line_length}
use Rattle.dev_card.proofs.laws.length_of_the_line.Goals as goal

pub returns : goal.returns
returns c = line_length
