use Rattle.std.proofs.Common.{[], subst}
use Rattle.std.specs.Prelude.{IfOk, IfSome}
use Rattle.dev_card.specs.Padding.{BaseLengths}
use Rattle.stapl_machine.specs.Machines.{play_of}
use Rattle.quiet_places.specs.Places.{GoesOnTold}
use Rattle.quiet_runs.proofs.pieces.place_counted.Goals as goal

pub returns-clause-place : goal.returns-clause-place
returns-clause-place g c =
    subst (λ (base : BaseLengths). IfOk c.place_after.result
    (λ found. IfSome found (GoesOnTold g.C.Cable.board base (play_of c.args.code.now c.args.chosen.now c.args.turns) c.args.cable.now)))
    (c.none-base.ensures []) c.place_after.ensures.place
