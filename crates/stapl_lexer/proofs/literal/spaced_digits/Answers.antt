use Rattle.std.proofs.lemmas.List.{take_rest}
use Rattle.stapl_lexer.proofs.FrontLemmas.{spaced_more, spaced_all}
use Rattle.stapl_lexer.proofs.literal.spaced_digits.Goals as goal

pub digits-preserved : goal.digits-preserved
digits-preserved c =
    spaced_more c.args.kind c.args.bytes.now c.digits.end c.digits.count c.in-Some.skipped c.digits.invariant (rw take_rest at c.in-Some.ensures.some)

pub returns : goal.returns
returns c = spaced_all c.args.kind c.args.bytes.now c.digits.end c.digits.count c.digits.invariant (rw take_rest at c.in_default.ensures.none)
