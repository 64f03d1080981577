use Rattle.std.proofs.Common.{◌++◌, codes}
use Rattle.soak_texts.specs.Lines.{plain_line}
use Rattle.soak_texts.specs.Steps.{scan_lines}
use Rattle.soak_texts.proofs.ListLemmas.{appended_first, appended_then}
use Rattle.soak_texts.proofs.step.put_scan.Goals as goal

pub returns : goal.returns
unfolding scan_lines
returns c =
    let start = plain_line (codes "IRSCAN 8, $02;") ++ codes "DRSCAN " in
    let first = appended_first c.args.out.now.items start _ c.in_ok-put.ensures in
    let bits = appended_then _ _ first c.in_ok-put_decimal.ensures in
    let numbers = appended_then _ _ (appended_then _ _ bits c.in_ok-put-2.ensures) c.in_ok-put_data.ensures in
    let index = appended_then _ _ (appended_then _ _ numbers c.in_ok-put-3.ensures) c.in_ok-put_decimal-2.ensures in
    (appended_then _ _ (appended_then _ _ index c.in_ok-put-4.ensures) c.in_ok-put-5.ensures).is
