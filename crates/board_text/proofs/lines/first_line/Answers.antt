use Rattle.std.proofs.Common.{◌∙◌, ◌∷◌, ◌+◌, List, ℕ, ap, drop, sym}
use Rattle.std.specs.Str.Lines.{lines}
use Rattle.board_text.proofs.LineLemmas.{line_with_end, last_line}
use Rattle.board_text.proofs.lines.first_line.Goals as goal

pub returns-in-Some-clause-line : goal.returns-in-Some-clause-line
returns-in-Some-clause-line c =
    let xs = c.args.bytes.now in
    line_with_end xs c.in-Some.at c.in-Some.ensures ∙ ap (λ (l : List ℕ). l ∷ lines (drop (c.in-Some.at + 1) xs)) (sym c.without_return.ensures)

pub returns-in-None-clause-line : goal.returns-in-None-clause-line
returns-in-None-clause-line c = last_line c.args.bytes.now c.in-None.ensures c.requires
