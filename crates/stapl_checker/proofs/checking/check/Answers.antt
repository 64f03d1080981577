use Rattle.std.proofs.Common.{arith}
use Rattle.stapl_syntax.specs.Programs.{is_too_long}
use Rattle.stapl_checker.proofs.checking.check.Goals as goal

pub returns-then-text-gt-TEXT_LIMIT-clause-refused : goal.returns-then-text-gt-TEXT_LIMIT-clause-refused
returns-then-text-gt-TEXT_LIMIT-clause-refused c = let long = c.if-text-gt-TEXT_LIMIT.true in is_too_long (omega arith)
