use Rattle.std.proofs.Common.{codes}
use Rattle.soak_texts.specs.Lines.{numbered_line}
use Rattle.soak_texts.specs.Steps.{mix_lines}
use Rattle.soak_texts.proofs.ListLemmas.{appended_first, appended_then}
use Rattle.soak_texts.proofs.step.put_mix.Goals as goal

pub returns : goal.returns
unfolding mix_lines
returns c =
    let line = numbered_line (codes "FOR I = 0 TO ") c.args.number (codes ";") in
    let first = appended_first c.args.out.now.items line _ c.in_ok-put_numbered_line.ensures in
    (appended_then _ _ (appended_then _ _ first c.in_ok-put.ensures) c.in_ok-put-2.ensures).is
