use Rattle.stapl_grammar.proofs.TokenSteps.{lie, is_shorter, mark_read}
use Rattle.stapl_grammar.proofs.cursor.Cursor.take_mark.Goals as goal

pub invariant_of-self : goal.invariant_of-self
invariant_of-self c = lie c.self.inside.text.now c.self.inside.rest.now c.self.invariant

pub returns-in-Some-clause-read : goal.returns-in-Some-clause-read
returns-in-Some-clause-read c =
    mark_read c.self.inside.text.now c.self.inside.rest.now c.in-Some.first.now _ c.args.mark c.in-Some.ensures.value c.self.view_is (c.if-is_mark_token.ensures c.self.inside.text.now)

pub returns-in-Some-clause-shorter : goal.returns-in-Some-clause-shorter
returns-in-Some-clause-shorter c =
    is_shorter c.self.inside.text.now c.self.inside.rest.now c.in-Some.first.now _ c.in-Some.ensures.value c.self.view_is
