use Rattle.padded_plays.proofs.InstructionLoaded.{was_loaded, is_taken_for_loaded, whole_play, entry_is_out}
use Rattle.padded_plays.proofs.laws.what_it_is_that_an_instruction_was_loaded.Goals as goal

pub returns : goal.returns
returns c = record { loaded = was_loaded; taken = is_taken_for_loaded; whole = whole_play; entry = entry_is_out }
