use Rattle.std.proofs.Common.{◌++◌, ap, ◌∙◌, List, ℕ}
use Rattle.soak_texts.specs.Programs.{lines_of_steps, last_lines, program_text}
use Rattle.soak_texts.proofs.program.draw_program.Goals as goal

pub returns : goal.returns
unfolding program_text
returns c =
    let steps = lines_of_steps c.args.steps c.args.bits c.args.draws.now.state in
    let first = ap (λ (t : List ℕ). t ++ steps) c.in_ok-text.ensures.items in
    c.in_ok-put.ensures ∙ ap (λ (t : List ℕ). t ++ last_lines) (c.in_ok-put_steps.ensures ∙ first)
