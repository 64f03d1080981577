use Rattle.trace_check.proofs.LineLemmas.{line_with_end, last_line}
use Rattle.trace_check.proofs.lines.first_line.Goals as goal

pub returns-in-Some-clause-line : goal.returns-in-Some-clause-line
returns-in-Some-clause-line c = line_with_end c.args.bytes.now c.in-Some.at c.in-Some.ensures

pub returns-in-None-clause-line : goal.returns-in-None-clause-line
returns-in-None-clause-line c = last_line c.args.bytes.now c.in-None.ensures c.requires
