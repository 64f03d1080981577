use Rattle.stapl_grammar.proofs.TokenSteps.{lie, sign_shorter, minus_read}
use Rattle.stapl_grammar.proofs.cursor.Cursor.take_minus.Goals as goal

pub invariant_of-self : goal.invariant_of-self
invariant_of-self c = lie c.self.inside.text.now c.self.inside.rest.now c.self.invariant

pub returns-in-Some-clause-read : goal.returns-in-Some-clause-read
returns-in-Some-clause-read c =
    minus_read c.self.inside.text.now c.self.inside.rest.now c.in-Some.first _ c.in-Some.ensures c.self.view_is c.if-is_minus.ensures

pub returns-in-Some-clause-shorter : goal.returns-in-Some-clause-shorter
returns-in-Some-clause-shorter c =
    sign_shorter c.self.inside.text.now c.self.inside.rest.now c.in-Some.first _ c.in-Some.ensures c.self.view_is
