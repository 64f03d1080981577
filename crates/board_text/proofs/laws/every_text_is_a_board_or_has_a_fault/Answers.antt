use Rattle.board_text.proofs.EveryText.{every_text}
use Rattle.board_text.proofs.laws.every_text_is_a_board_or_has_a_fault.Goals as goal

pub returns : goal.returns
returns c = every_text
