use Rattle.std.proofs.Common.{◌≡◌, ◌≤◌, take}
use Rattle.std.specs.List.{count_by}
use Rattle.program_reports.specs.Checks.{has_kind}
use Rattle.program_reports.proofs.checking.count_of.Given as goal

abbrev pub invariant-loop-statement : goal.invariant-loop-statement
invariant-loop-statement l = record {
  counted : l.count ≡ count_by (has_kind l.kind) (take l.statement-index l.program);
  few : l.count ≤ l.statement-index;
}
