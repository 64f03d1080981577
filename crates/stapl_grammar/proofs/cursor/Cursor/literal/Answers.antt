use Rattle.stapl_grammar.proofs.TokenSteps.{lie, is_shorter}
use Rattle.stapl_grammar.proofs.cursor.Cursor.literal.Goals as goal

pub invariant_of-self : goal.invariant_of-self
invariant_of-self c = lie c.self.inside.text.now c.self.inside.rest.now c.self.invariant

pub returns-clause-shorter : goal.returns-clause-shorter
returns-clause-shorter c =
    is_shorter c.self.inside.text.now c.self.inside.rest.now c.in-Some.token.now _ c.in-Some.ensures.value c.self.view_is
