use Rattle.std.proofs.Common.{◌∙◌, ap, sym, not}
use Rattle.stapl_syntax.specs.Trees.{stmt_tree}
use Rattle.stapl_syntax.specs.Rules.{Known, names_undefined, names_hidden, declares_again}
use Rattle.checker_rules.specs.Counts.{totals_of}
use Rattle.checker_rules.specs.Earlier.{declared_below}
use Rattle.checker_rules.specs.BrokenRules.{operands_broken}
use Rattle.checker_rules.proofs.CourseLemmas.{skip}
use Rattle.checker_rules.proofs.judging.broken_rule.Goals as goal

pub returns : goal.returns
returns c =
    let seen = c.new-scope.ensures in
    let st = stmt_tree c.args.statement.now in
    skip _ _ _ _ (ap not (sym c.may_stand.ensures ∙ c.if-not-may_stand.false))
    (skip _ _ _ _
    ((λ j. declares_again (declared_below (sym seen.names j) c.args.number) (sym seen.inside j) st) ∙ sym c.declares_again.ensures ∙ c.if-declares_again.false)
    (skip _ _ _ _ (ap (λ (k : Known). names_undefined k st.body) (sym seen.known) ∙ sym c.name_faults-faults.ensures.undefined ∙ c.if-faults.false)
    (skip _ _ _ _ (ap (λ (k : Known). names_hidden k st.body) (sym seen.known) ∙ sym c.name_faults-faults.ensures.hidden ∙ c.if-faults-2.false)
    (c.broken_operands.ensures ∙ ap (λ (k : Known). operands_broken k (totals_of c.args.course.before) st.body) seen.known))))
