use Rattle.effect_laws.proofs.Texts.{exports_value, exports_array}
use Rattle.effect_laws.proofs.laws.texts.export_writes_its_value.Goals as goal

pub returns : goal.returns
returns c = record { value = exports_value; array = exports_array }
