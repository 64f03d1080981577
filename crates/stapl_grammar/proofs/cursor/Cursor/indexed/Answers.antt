use Rattle.std.specs.Box.{box_value}
use Rattle.stapl_syntax.specs.Trees.{expr_tree}
use Rattle.stapl_grammar.proofs.BodySteps.{indexed_gives}
use Rattle.stapl_grammar.proofs.cursor.Cursor.indexed.Goals as goal

pub returns : goal.returns
returns c =
    indexed_gives _ _ c.args.v c.args.self.now c.take_mark.new.self
    (expr_tree (box_value c.in_ok-first.first)) c.boxed_expr.new.self c.if-take_mark.ensures.read.0 c.if-take_mark.ensures.read.1 c.in_ok-first.ensures.read c.range_or_element.ensures
