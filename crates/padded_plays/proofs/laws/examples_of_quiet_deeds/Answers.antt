use Rattle.padded_plays.proofs.QuietExamples.{deeds_are_quiet, one_was_not_loaded, one_was_reset, one_is_too_long, one_shifts}
use Rattle.padded_plays.proofs.laws.examples_of_quiet_deeds.Goals as goal

pub returns : goal.returns
returns c = record { quiet = deeds_are_quiet; loaded = one_was_not_loaded; since = one_was_reset; bits = one_is_too_long; shift = one_shifts }
