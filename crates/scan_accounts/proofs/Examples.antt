-- Worked runs and accounts.
use Rattle.std.proofs.Common.{◌≡◌, [], ◌∷◌, ◌++◌, true, false, refl}
use Rattle.std.specs.Prelude.{ℕ, List, None, codes, pos}
use Rattle.stapl_lexer.specs.declared.terminal.Register.{Register}
use Rattle.stapl_syntax.specs.Trees.{ExprTree, ArrayTree, if_then, scan, state_list}
use Rattle.std.specs.Fmt.{digits}
use Rattle.stapl_meaning.specs.declared.events.Ending.TheVariants.{Exit}
use Rattle.scan_accounts.specs.MadeTurns.{does_scan}
use Rattle.scan_accounts.specs.Accounts.{passages_of}
use Rattle.scan_accounts.specs.AccountTexts.{account_line, account_text, passage_line}
use Rattle.scan_accounts.specs.PinRuns.{runs_of_pins}
use Rattle.scan_accounts.specs.Rooms.{states_in}
use Rattle.scan_accounts.specs.AccountExamples.{example_run, instruction_run, one_clock_run, padded_run, example_text, scanning_turn, walking_turn, example_play, full_account}

pub two_scans : runs_of_pins (codes "C 5555515112141551551112241551\nE exit 0\n") ≡ example_run ∷ instruction_run ∷ []
two_scans = refl

pub over_lines : runs_of_pins (codes "C 555551511\nC 21\nC 41551\n") ≡ example_run ∷ []
over_lines = refl

pub one_walk : runs_of_pins (codes "C 555551511451\n") ≡ one_clock_run ∷ []
one_walk = refl

pub with_pause : runs_of_pins (codes "C 555551511415141\n") ≡ one_clock_run ∷ one_clock_run ∷ []
with_pause = refl

pub at_the_end : runs_of_pins (codes "C 5555515110\n") ≡ one_clock_run ∷ []
at_the_end = refl

pub no_run : runs_of_pins (codes "C 555551\nP A\n") ≡ []
no_run = refl

pub a_scan : passages_of example_play.base scanning_turn ≡ record { place = 0; scan = true; run = example_run } ∷ []
a_scan = refl

pub no_scan : passages_of example_play.base (record scanning_turn { scans = false }) ≡ record { place = 0; scan = false; run = padded_run } ∷ []
no_scan = refl

pub a_line : passage_line example_text (record { place = 2; scan = true; run = instruction_run }) ≡ codes "S 3 line 8 IRSCAN 4 in 6 out 1\n"
unfolding digits
a_line = refl

pub a_walk : passages_of example_play.base walking_turn ≡ record { place = 1; scan = false; run = one_clock_run } ∷ []
a_walk = refl

pub a_text : account_text example_text example_play (Exit (pos 0))
    ≡ codes "S 1 line 7 DRSCAN 3 in 1 out 2\nS 2 line 8 WALK DR 1 in 0 out 0\nP A\nW 7\n"
    ++ codes "S turns 3 clocks 26 usec 7 irscans 0 drscans 1\nE exit 0\n"
unfolding digits
a_text = refl

pub scans_under_if : (register : Register) (e count : ExprTree) (source : ArrayTree) → does_scan (if_then e (if_then e (scan register count source None None))) ≡ true
scans_under_if register e count source = refl

pub states_do_not : (e : ExprTree) (states : List ℕ) → does_scan (if_then e (state_list states)) ≡ false
states_do_not e states = refl

pub states_listed : (e : ExprTree) → states_in (if_then e (state_list (1 ∷ 4 ∷ 1 ∷ []))) ≡ 3
states_listed e = refl

pub full_sums : account_line full_account ≡ codes "S turns 1 clocks 9223372036854775807 usec 9223372036854775807 irscans 0 drscans 2\n"
unfolding digits
full_sums = refl
