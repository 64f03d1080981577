use Rattle.std.proofs.Common.{ℕ, sym, subst}
use Rattle.std.specs.Prelude.{Option, IfSome}
use Rattle.quiet_runs.specs.Verdicts.{GoesOnAlone}
use Rattle.quiet_runs.proofs.PieceAt.{tells_piece}
use Rattle.quiet_runs.proofs.pieces.turn_piece.Goals as goal

pub returns-in-Some-clause-piece : goal.returns-in-Some-clause-piece
returns-in-Some-clause-piece g c = λ program is.
    (let code = c.args.code.now in let chosen = c.args.chosen.now in let n = c.args.before in let run = c.args.descs.now in
    tells_piece program code is chosen n run c.in-Ok-Some.place c.in-Some.piece c.in-Some.ensures.countable
    (subst (λ (found : Option ℕ). IfSome found (GoesOnAlone code chosen n run)) c.in-Ok-Some.field-0-is c.in-Ok-Some.ensures.place)
    (sym c.in-Some.ensures.piece))
