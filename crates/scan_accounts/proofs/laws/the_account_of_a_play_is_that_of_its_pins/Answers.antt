use Rattle.stapl_meaning.specs.Scopes.{as_played}
use Rattle.scan_accounts.proofs.PinRuns.{said_is_in_pins, clocks_are_pins}
use Rattle.scan_accounts.proofs.laws.the_account_of_a_play_is_that_of_its_pins.Goals as goal

pub returns : goal.returns
returns c = record {
  runs = λ text program chosen n far ending is.
      said_is_in_pins (as_played program) chosen n far ending (c.programs_are_typed.ensures text program is);
  clocks = clocks_are_pins;
}
