use Rattle.std.proofs.Common.{rules}
use Rattle.std.proofs.lemmas.Iterator.Consumers.{map_from_collect, YieldsList-from_filter}
use Rattle.std.proofs.lemmas.Iterator.Splits.{YieldsList-from_lines}
use Rattle.tool_questions.specs.Explanations.{is_about, paragraphs}
use Rattle.tool_questions.specs.declared.explanation_texts.TheConstants.{EXPLANATIONS}
use Rattle.tool_questions.proofs.explanations.lines_with.Goals as goal

pub returns : goal.returns
unfolding paragraphs
returns c =
    map_from_collect {s = c.filter.result} _ c.collect.ensures.ran
    (YieldsList-from_filter {s = c.filter.result} _ (is_about c.args.head.now)
    (YieldsList-from_lines EXPLANATIONS.now (search rules))
    c.filter.ensures.closure (λ line b q k. search rules))
