use Rattle.board_text.proofs.OneShape.{one_shape}
use Rattle.board_text.proofs.laws.words_have_one_shape.Goals as goal

pub returns : goal.returns
returns c = one_shape
