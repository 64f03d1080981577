use Rattle.rewrite_tool.proofs.EveryRequest.{every_request}
use Rattle.rewrite_tool.proofs.laws.requests_are_answered.Goals as goal

pub returns : goal.returns
returns c = every_request c.every_text_is_a_board_or_has_a_fault.ensures
