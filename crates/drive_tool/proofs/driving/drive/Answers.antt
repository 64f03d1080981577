use Rattle.drive_tool.proofs.DriveLemmas.{does_after, keeps_after, had_nothing}
use Rattle.drive_tool.proofs.driving.drive.Goals as goal

pub returns-in-Ok-clause-driven : goal.returns-in-Ok-clause-driven
returns-in-Ok-clause-driven g c = does_after g.P.Peer g.K.Sink _ _ _ _ _ c.play_open.result c.in-Ok.ensures.still c.play_open.ensures.driven

pub returns-in-Ok-clause-peer : goal.returns-in-Ok-clause-peer
returns-in-Ok-clause-peer g c = keeps_after g.P.Peer g.K.Sink c.play_open.result c.in-Ok.ensures.cause.kept c.play_open.ensures.peer

pub returns-in-Err-clause-driven : goal.returns-in-Err-clause-driven
returns-in-Err-clause-driven g c = had_nothing g.P.Peer g.K.Sink _ _ _ c.in-Err.ensures.still

pub returns-in-Err-clause-peer : goal.returns-in-Err-clause-peer
returns-in-Err-clause-peer g c = record { later = c.in-Err.ensures.cause.kept; wire = λ e. c.in-Err.ensures.cause.failed }
