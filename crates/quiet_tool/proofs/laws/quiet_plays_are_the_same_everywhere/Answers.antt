use Rattle.std.proofs.Common.{refl}
use Rattle.quiet_tool.proofs.Everywhere.{quiet_everywhere}
use Rattle.quiet_tool.proofs.laws.quiet_plays_are_the_same_everywhere.Goals as goal

pub returns : goal.returns
returns c = λ words contents text a. quiet_everywhere a refl
