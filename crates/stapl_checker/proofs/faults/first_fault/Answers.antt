use Rattle.std.proofs.Common.{◌∙◌, ap, length, take, List}
use Rattle.stapl_syntax.specs.declared.statement.Stmt.{Stmt}
use Rattle.stapl_checker.specs.Firsts.{front_of}
use Rattle.stapl_checker.proofs.FaultLemmas.{listed_front, stops_is, ends_is}
use Rattle.stapl_checker.proofs.faults.first_fault.Goals as goal

pub walk-requires-clause-listed : goal.walk-requires-clause-listed
walk-requires-clause-listed c =
    rw c.deref.ensures.value (listed_front c.args.names.now c.args.reading.now.statements.items c.front_of.result c.requires.listed)

pub returns-in-Stops : goal.returns-in-Stops
returns-in-Stops c = λ whats told all.
    stops_is c.args.names.now whats c.args.reading.now c.in-Stops.index c.in-Stops.reason told all c.requires.front
    (rw c.front_of.ensures at (rw c.deref.ensures.value at c.in-Stops.ensures))

pub returns-in-Ends : goal.returns-in-Ends
returns-in-Ends c = λ whats told all.
    rw c.fault_after.ensures
    (ends_is c.args.names.now whats c.args.reading.now _ c.in-Ends.course told all c.requires.front
    ((λ j. length (take (c.front_of.ensures j) c.deref.result.now)) ∙ ap (λ (z : List Stmt). length (take (front_of c.args.reading.now) z)) c.deref.ensures.value)
    (rw c.front_of.ensures at (rw c.deref.ensures.value at c.in-Ends.ensures)))
