use Rattle.stapl_grammar.proofs.BodySteps.{assign_gives}
use Rattle.stapl_grammar.proofs.cursor.Cursor.assignment.Goals as goal

pub returns : goal.returns
returns c =
    assign_gives _ _ c.args.v c.args.self.now c.take_mark.new.self c.expect_mark.new.self c.if-take_mark.ensures.read.0 c.if-take_mark.ensures.read.1 c.in_ok-expect_mark.ensures.read c.indexed.ensures
