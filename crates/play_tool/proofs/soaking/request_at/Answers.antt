use Rattle.play_tool.proofs.SoakLemmas.{a_is_free}
use Rattle.play_tool.proofs.soaking.request_at.Goals as goal

pub unreachable-requires : goal.unreachable-requires
unreachable-requires c = a_is_free c.read_free.result c.in_default.is c.read_free.ensures.none
