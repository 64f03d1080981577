use Rattle.std.proofs.Common.{◌∙◌, sym, ap, subst}
use Rattle.stapl_syntax.specs.declared.statement.Body.{Body}
use Rattle.stapl_syntax.specs.Trees.{body_tree}
use Rattle.stapl_syntax.specs.Names.{inside_next}
use Rattle.checker_rules.specs.Scopes.{named}
use Rattle.checker_rules.specs.Courses.{BeginsListed}
use Rattle.checker_rules.proofs.CourseLemmas.{begins}
use Rattle.checker_rules.proofs.course.inside_after.Goals as goal

pub returns-in-Procedure-clause-named : goal.returns-in-Procedure-clause-named
returns-in-Procedure-clause-named c =
    begins c.args.names.now c.in-Procedure.name c.block.result (subst (λ (b : Body). BeginsListed c.args.names.now (body_tree b)) c.in-Procedure.is c.requires.listed)
    c.block.ensures.number c.block.ensures.named
    ∙ sym (ap (λ (b : Body). inside_next (named c.args.names.now c.args.inside) (body_tree b)) c.in-Procedure.is)

pub returns-in-Data-clause-named : goal.returns-in-Data-clause-named
returns-in-Data-clause-named c =
    begins c.args.names.now c.in-Data.name c.block-in-Data.result (subst (λ (b : Body). BeginsListed c.args.names.now (body_tree b)) c.in-Data.is c.requires.listed)
    c.block-in-Data.ensures.number c.block-in-Data.ensures.named
    ∙ sym (ap (λ (b : Body). inside_next (named c.args.names.now c.args.inside) (body_tree b)) c.in-Data.is)
