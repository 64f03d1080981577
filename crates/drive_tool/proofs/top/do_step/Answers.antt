use Rattle.drive_tool.proofs.AnswerLemmas.{ready_done}
use Rattle.drive_tool.proofs.top.do_step.Goals as goal

pub returns-in-Ready-clause-done : goal.returns-in-Ready-clause-done
returns-in-Ready-clause-done g c = λ plan is.
    ready_done g.P.Peer g.K.Sink _ _ _ c.in-Ready.ready c.drive.result c.drive.ensures.driven plan (rw c.in-Ready.is at is)
