use Rattle.link_tool.proofs.EndLemmas.{some_end, one_end}
use Rattle.link_tool.proofs.laws.each_session_has_one_end.Goals as goal

pub returns : goal.returns
returns c = record { some = some_end; one = one_end }
