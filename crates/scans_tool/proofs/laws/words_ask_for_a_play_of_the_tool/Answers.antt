use Rattle.scans_tool.proofs.WordLemmas.{asked_of_tool, no_pins, no_report, asked_for}
use Rattle.scans_tool.proofs.laws.words_ask_for_a_play_of_the_tool.Goals as goal

pub returns-clause-played : goal.returns-clause-played
returns-clause-played c = asked_of_tool

pub returns-clause-no_pins : goal.returns-clause-no_pins
returns-clause-no_pins c = no_pins

pub returns-clause-no_report : goal.returns-clause-no_report
returns-clause-no_report c = no_report

pub returns-clause-asked : goal.returns-clause-asked
returns-clause-asked c = asked_for
