use Rattle.std.proofs.Common.{map, string_bytes, Global, refl, sym, ◌∙◌, arith}
use Rattle.std.proofs.lemmas.List.{length-map}
use Rattle.drive_tool.proofs.WordLemmas.{none_is, no_report_more, no_report_before}
use Rattle.drive_tool.proofs.words.report_in.Goals as goal

pub loop-place-preserved : goal.loop-place-preserved
loop-place-preserved c =
    no_report_more (map (string_bytes {Z = Global}) c.args.words.now) c.loop-place.place _ refl c.loop-place.invariant
    (none_is _ c.answer_at.result (sym c.is_some.ensures ∙ c.if-is_some.false) c.answer_at.ensures.none)

pub returns-clause-none : goal.returns-clause-none
returns-clause-none c =
    no_report_before (map (string_bytes {Z = Global}) c.args.words.now) _ c.loop-place.place
    (omega (arith, c.loop-place-test.false, length-map c.args.words.now (string_bytes {Z = Global}))) c.loop-place.invariant
