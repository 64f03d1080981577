-- The examples of deeds that are quiet, and of deeds that are not.
use Rattle.std.proofs.Common.{false, refl, sym, arith}
use Rattle.std.proofs.lemmas.Bool.{false≢true}
use Rattle.padded_plays.specs.QuietPlays.{AreQuietDeeds}
use Rattle.padded_plays.specs.QuietExamples.{example_chain, quiet_deeds, without_instruction, reset_between, too_long, into_the_shift}

pub deeds_are_quiet : AreQuietDeeds false example_chain quiet_deeds
deeds_are_quiet = (
  (refl, tt),
  (
    record { as_long = refl; loaded_before = λ e. absurd (false≢true (sym e)); quiet_stop = tt },
    (
      record { as_long = refl; loaded_before = λ e. refl; quiet_stop = (refl, (refl, (refl, tt))) },
      ((refl, (refl, (refl, tt))), (record { as_long = refl; loaded_before = λ e. refl; quiet_stop = (refl, (refl, (refl, tt))) }, tt)),
    ),
  ),
)

pub one_was_not_loaded : ¬ AreQuietDeeds false example_chain without_instruction
one_was_not_loaded q = false≢true (q.0.loaded_before refl)

pub one_was_reset : ¬ AreQuietDeeds false example_chain reset_between
one_was_reset q = false≢true (q.1.1.0.loaded_before refl)

pub one_is_too_long : ¬ AreQuietDeeds false example_chain too_long
one_is_too_long q = let e = q.0.as_long in absurd (omega arith)

pub one_shifts : ¬ AreQuietDeeds false example_chain into_the_shift
one_shifts q = false≢true (sym q.0.1.1.1.0)
