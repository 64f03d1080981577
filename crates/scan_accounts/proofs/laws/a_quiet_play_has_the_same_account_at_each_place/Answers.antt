use Rattle.stapl_meaning.specs.Scopes.{as_played}
use Rattle.scan_accounts.proofs.SameAccounts.{same_account, same_account_of_run}
use Rattle.scan_accounts.proofs.laws.a_quiet_play_has_the_same_account_at_each_place.Goals as goal

pub returns : goal.returns
returns c = record {
  lists = λ text program chosen n before run after is good some quiet.
      same_account before run after some (as_played program) (c.programs_are_typed.ensures text program is) chosen n good quiet;
  places = λ text program chosen n devices run is good one order within quiet.
      same_account_of_run (as_played program) (c.programs_are_typed.ensures text program is) chosen n devices run good one
      order within quiet;
}
