use Rattle.board_text.proofs.ConstantLemmas.{spare_test}
use Rattle.board_text.proofs.register.spare_bits_are_zero.Goals as goal

pub returns : goal.returns
returns c = spare_test c.args.digits.now c.args.len c.hexadecimal_digit.result c.requires.some c.requires.whole c.hexadecimal_digit.ensures.value c.hexadecimal_digit.ensures.bound
