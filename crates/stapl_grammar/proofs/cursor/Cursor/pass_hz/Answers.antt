use Rattle.stapl_grammar.proofs.TokenSteps.{lie, hz_passed}
use Rattle.stapl_grammar.proofs.cursor.Cursor.pass_hz.Goals as goal

pub invariant_of-self : goal.invariant_of-self
invariant_of-self c = lie c.self.inside.text.now c.self.inside.rest.now c.self.invariant

pub returns-then-is_hz : goal.returns-then-is_hz
returns-then-is_hz c =
    hz_passed c.self.inside.text.now c.self.inside.rest.now c.in-Some.first _ c.in-Some.ensures c.self.view_is c.if-is_hz.ensures
