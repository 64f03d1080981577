use Rattle.std.proofs.Common.{◌≡◌, ◌+◌, sym, ◌∙◌}
use Rattle.std.proofs.lemmas.List.{take_rest}
use Rattle.trace_check.proofs.LineLemmas.{line_read, bad_read, all_read, none_read}
use Rattle.trace_check.proofs.lines.first_bad_line.Goals as goal

pub lines-init : goal.lines-init
lines-init c = none_read c.args.text.now

pub lines-preserved : goal.lines-preserved
lines-preserved c =
    line_read c.args.text.now _ c.first_line-len.result.0.now c.lines.at c.lines.count c.first_line-len.result.1 (take_rest c.args.text.now c.lines.at) c.lines.invariant
    c.first_line-len.ensures.some c.first_line-len.ensures.within c.first_line-len.ensures.line (sym c.is_bad_line.ensures ∙ c.if-is_bad_line.false)

pub returns-then-is_bad_line-clause-some : goal.returns-then-is_bad_line-clause-some
returns-then-is_bad_line-clause-some c = λ n e.
    let same : c.lines.count + 1 ≡ n = cc in
    bad_read c.args.text.now _ c.first_line-len.result.0.now c.lines.at c.lines.count c.first_line-len.result.1 n (take_rest c.args.text.now c.lines.at) c.lines.invariant
    c.first_line-len.ensures.line (sym c.is_bad_line.ensures ∙ c.if-is_bad_line.true) same

pub returns-clause-none : goal.returns-clause-none
returns-clause-none c = λ e. all_read c.args.text.now c.lines.at c.lines.count c.lines.invariant c.lines-test.false
