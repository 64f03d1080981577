use Rattle.std.proofs.Common.{◌-◌, ◌∙◌, List, ℕ, drop, slice_get, sym, ap}
use Rattle.std.specs.Str.Lines.{lines}
use Rattle.std.proofs.lemmas.List.{take_rest}
use Rattle.tool_questions.proofs.LineLemmas.{later_line}
use Rattle.tool_questions.proofs.board_lines.line_at.Goals as goal

pub lines-preserved : goal.lines-preserved
lines-preserved c =
    let rest : List ℕ = c.lines.rest.now in
    let len : ℕ = c.first_line-len.result.1 in
    ap (λ (l : List ℕ). slice_get (lines l) (c.lines.left - 1)) (take_rest rest len)
    ∙ sym (later_line c.first_line-len.result.0.now (lines (drop len rest)) c.lines.left c.if-left-eq0.false)
    ∙ ap (λ (ls : List (List ℕ)). slice_get ls c.lines.left) (sym c.first_line-len.ensures.line) ∙ c.lines.invariant
