use Rattle.stapl_grammar.proofs.TokenSteps.{lie, sign_shorter, sign_read}
use Rattle.stapl_grammar.proofs.cursor.Cursor.next.Goals as goal

pub invariant_of-self : goal.invariant_of-self
invariant_of-self c = lie c.self.inside.text.now c.self.inside.rest.now c.self.invariant

pub returns-clause-some : goal.returns-clause-some
returns-clause-some c =
    sign_read c.self.inside.text.now c.self.inside.rest.now c.in_ok-first.first _ c.in_ok-first.ensures c.self.view_is

pub returns-clause-shorter : goal.returns-clause-shorter
returns-clause-shorter c =
    sign_shorter c.self.inside.text.now c.self.inside.rest.now c.in_ok-first.first _ c.in_ok-first.ensures c.self.view_is
