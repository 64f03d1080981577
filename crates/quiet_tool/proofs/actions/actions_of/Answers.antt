use Rattle.std.proofs.Common.{rules, ◌∙◌}
use Rattle.std.proofs.lemmas.Iterator.{items_from_collect, YieldsList-from_slice}
use Rattle.std.proofs.lemmas.Iterator.Consumers.{YieldsList-from_filter_map}
use Rattle.tool_frame.proofs.AnswerLemmas.{on_ok}
use Rattle.stapl_syntax.specs.declared.statement.Stmt.{Stmt}
use Rattle.stapl_syntax.specs.Trees.{body_tree}
use Rattle.quiet_tool.specs.Answers.{action_name}
use Rattle.quiet_tool.proofs.AnswerLemmas.{actions_in}
use Rattle.quiet_tool.proofs.actions.actions_of.Goals as goal

pub returns : goal.returns
returns c =
    on_ok c.collect.result (λ names same. same ∙ actions_in c.args.statements.now)
    (items_from_collect {s = c.filter_map.result} _ c.collect.ensures.ran
    (YieldsList-from_filter_map {s = c.filter_map.result} _ (λ (st : Stmt). action_name (body_tree st.body))
    (YieldsList-from_slice c.args.statements.now (search rules)) c.filter_map.ensures.closure (λ st r q k. search rules)))
