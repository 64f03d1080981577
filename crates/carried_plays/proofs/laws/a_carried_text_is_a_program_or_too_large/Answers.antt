use Rattle.carried_plays.proofs.CarriedTexts.{small_is_program, program_is_small}
use Rattle.carried_plays.proofs.laws.a_carried_text_is_a_program_or_too_large.Goals as goal

pub returns : goal.returns
returns c = record { program = small_is_program; too_large = program_is_small }
