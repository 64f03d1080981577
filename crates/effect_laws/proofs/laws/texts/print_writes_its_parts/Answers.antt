use Rattle.effect_laws.proofs.Texts.{prints}
use Rattle.effect_laws.proofs.laws.texts.print_writes_its_parts.Goals as goal

pub returns : goal.returns
returns c = prints
