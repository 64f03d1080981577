use Rattle.carried_plays.proofs.CarriedTexts.{a_text, one_text}
use Rattle.carried_plays.proofs.laws.there_is_one_carried_text.Goals as goal

pub returns : goal.returns
returns c = record { some = a_text; one = one_text }
