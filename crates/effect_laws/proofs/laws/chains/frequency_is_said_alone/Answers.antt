use Rattle.effect_laws.proofs.Chains.{says_hertz, says_none}
use Rattle.effect_laws.proofs.laws.chains.frequency_is_said_alone.Goals as goal

pub returns : goal.returns
returns c = record { stated = says_hertz; none = says_none }
