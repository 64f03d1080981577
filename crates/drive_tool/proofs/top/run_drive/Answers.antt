use Rattle.std.proofs.Common.{sym, subst}
use Rattle.drive_tool.specs.Statuses.{IsFault}
use Rattle.drive_tool.proofs.TopLemmas.{answer_fault}
use Rattle.drive_tool.proofs.top.run_drive.Goals as goal

pub returns-in-Ok-Some-clause-wire : goal.returns-in-Ok-Some-clause-wire
returns-in-Ok-Some-clause-wire g c = λ e.
    let did = rw c.in-Ok-Some.field-0-is at c.in-Ok-Some.ensures.did in
    absurd (answer_fault g.P.Peer g.K.Sink _ _ _ _ c.in-Ok-Some.status did.holds (subst IsFault (sym e) tt))

pub returns-in-Ok-Some-clause-write : goal.returns-in-Ok-Some-clause-write
returns-in-Ok-Some-clause-write g c = λ e.
    let did = rw c.in-Ok-Some.field-0-is at c.in-Ok-Some.ensures.did in
    absurd (answer_fault g.P.Peer g.K.Sink _ _ _ _ c.in-Ok-Some.status did.holds (subst IsFault (sym e) tt))

pub returns-in-Ok-Some-clause-read : goal.returns-in-Ok-Some-clause-read
returns-in-Ok-Some-clause-read g c = λ e.
    let did = rw c.in-Ok-Some.field-0-is at c.in-Ok-Some.ensures.did in
    absurd (answer_fault g.P.Peer g.K.Sink _ _ _ _ c.in-Ok-Some.status did.holds (subst IsFault (sym e) tt))

pub returns-in-Ok-Some-clause-memory : goal.returns-in-Ok-Some-clause-memory
returns-in-Ok-Some-clause-memory g c = λ e.
    let did = rw c.in-Ok-Some.field-0-is at c.in-Ok-Some.ensures.did in
    absurd (answer_fault g.P.Peer g.K.Sink _ _ _ _ c.in-Ok-Some.status did.holds (subst IsFault (sym e) tt))
