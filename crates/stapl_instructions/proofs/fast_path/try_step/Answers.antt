use Rattle.stapl_instructions.proofs.fast_path.try_step.Goals as goal

pub returns-in-PushBit-clause-tried : goal.returns-in-PushBit-clause-tried
returns-in-PushBit-clause-tried c = λ chosen. rw c.in-PushBit.is (c.try_bit.ensures.tried c.args.code.now c.args.here chosen)

pub returns-in-Load-clause-tried : goal.returns-in-Load-clause-tried
returns-in-Load-clause-tried c = λ chosen. rw c.in-Load.is (c.try_load.ensures.tried c.args.code.now c.args.here chosen)

pub returns-in-Binary-clause-tried : goal.returns-in-Binary-clause-tried
returns-in-Binary-clause-tried c = λ chosen. rw c.in-Binary.is (c.try_binary.ensures.tried c.args.code.now c.args.here chosen)

pub returns-in-Unary-clause-tried : goal.returns-in-Unary-clause-tried
returns-in-Unary-clause-tried c = λ chosen. rw c.in-Unary.is (c.try_unary.ensures.tried c.args.code.now c.args.here chosen)

pub returns-in-Next-clause-tried : goal.returns-in-Next-clause-tried
returns-in-Next-clause-tried c = λ chosen. rw c.in-Next.is (c.try_next.ensures.tried c.args.code.now c.args.here chosen)
