use Rattle.std.proofs.Common.{◌≡◌, ◌<◌, length, ◌+◌, ◌*◌}
use Rattle.stapl_syntax.specs.Trees.{expr_tree}
use Rattle.stapl_grammar.specs.Reading.{expr, climb}
use Rattle.stapl_grammar.proofs.cursor.Cursor.+terms.Given as goal

abbrev pub decreases-array_term : goal.decreases-array_term
decreases-array_term l = 6 * length l.self.now

abbrev pub decreases-array_after : goal.decreases-array_after
decreases-array_after l = 6 * length l.self.now + 5

abbrev pub decreases-level_expr : goal.decreases-level_expr
decreases-level_expr l = 6 * length l.self.now + 2

abbrev pub decreases-named : goal.decreases-named
decreases-named l = 6 * length l.self.now + 3

abbrev pub decreases-operand : goal.decreases-operand
decreases-operand l = 6 * length l.self.now + 1

abbrev pub decreases-primary : goal.decreases-primary
decreases-primary l = 6 * length l.self.now + 5

abbrev pub decreases-target_of : goal.decreases-target_of
decreases-target_of l = 6 * length l.self.now + 1

abbrev pub invariant-level_expr-loop-op : goal.invariant-level_expr-loop-op
invariant-level_expr-loop-op l = record {
  same : climb l.most (expr_tree l.left) l.self ≡ expr l.most l.fn.self;
  shorter : length l.self < length l.fn.self;
}

abbrev pub decreases-level_expr-loop-op : goal.decreases-level_expr-loop-op
decreases-level_expr-loop-op l = length l.self

abbrev pub decreases-in_brackets : goal.decreases-in_brackets
decreases-in_brackets l = 6 * length l.self.now + 3

abbrev pub decreases-of_function : goal.decreases-of_function
decreases-of_function l = 6 * length l.self.now + 3

abbrev pub decreases-of_bool : goal.decreases-of_bool
decreases-of_bool l = 6 * length l.self.now + 1

abbrev pub decreases-boxed_level : goal.decreases-boxed_level
decreases-boxed_level l = 6 * length l.self.now + 3

abbrev pub decreases-bracketed : goal.decreases-bracketed
decreases-bracketed l = 6 * length l.self.now

abbrev pub decreases-bracketed_array : goal.decreases-bracketed_array
decreases-bracketed_array l = 6 * length l.self.now

abbrev pub decreases-boxed_array_term : goal.decreases-boxed_array_term
decreases-boxed_array_term l = 6 * length l.self.now + 1
