use Rattle.std.proofs.lemmas.List.{length-drop}
use Rattle.dev_card.proofs.RunsOfNeighbours.{before_counted, run_counted}
use Rattle.dev_card.proofs.laws.a_run_has_a_card_for_each_of_its_places.Goals as goal

pub returns-clause-before : goal.returns-clause-before
returns-clause-before c = λ cs run. before_counted run cs

pub returns-clause-run : goal.returns-clause-run
returns-clause-run c = λ cs run. run_counted run cs

pub returns-clause-pads : goal.returns-clause-pads
returns-clause-pads c = λ ds run one order within. (before_counted run ds one order within, length-drop run.last ds)
