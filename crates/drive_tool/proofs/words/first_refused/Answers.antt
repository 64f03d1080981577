use Rattle.std.proofs.Common.{map, string_bytes, Global, arith}
use Rattle.drive_tool.specs.Words.{not_read}
use Rattle.drive_tool.proofs.WordLemmas.{report_first, no_report_before, no_report_ever}
use Rattle.drive_tool.proofs.words.first_refused.Goals as goal

pub returns-in-Some-clause-refused : goal.returns-in-Some-clause-refused
returns-in-Some-clause-refused c = report_first c.args.n c.in-Some.place c.in-Some.ensures.some c.in-Some.ensures.first c.requires (omega (arith, c.if-place-n.true))

pub returns-in_default-clause-refused : goal.returns-in_default-clause-refused
returns-in_default-clause-refused c =
    not_read c.args.n c.requires
    (no_report_before (map (string_bytes {Z = Global}) c.args.words.now) c.args.n c.in-Some.place (omega (arith, c.if-place-n.false)) c.in-Some.ensures.first)

pub returns-in_default-2-clause-refused : goal.returns-in_default-2-clause-refused
returns-in_default-2-clause-refused c =
    not_read c.args.n c.requires (no_report_ever (map (string_bytes {Z = Global}) c.args.words.now) c.args.n c.in_default.ensures.none)
