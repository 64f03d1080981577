use Rattle.std.proofs.Common.{arith}
use Rattle.quiet_runs.proofs.Judges.{first_at}
use Rattle.quiet_runs.proofs.first_turns.+first_between.Goals as goal

pub returns-then-low-high-clause-found : goal.returns-then-low-high-clause-found
returns-then-low-high-clause-found g t c = λ program is.
    (let same = c.if-low-high.true in
    first_at program c.args.chosen.now c.args.high c.args.descs.now c.args.low c.args.high c.args.why (c.requires.between program is)
    (omega arith) (omega arith) (omega arith))
