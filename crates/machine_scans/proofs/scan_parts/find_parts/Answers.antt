use Rattle.std.proofs.Common.{rules}
use Rattle.machine_scans.proofs.scan_parts.find_parts.Goals as goal

pub returns-in_err-target-clause-is : goal.returns-in_err-target-clause-is
returns-in_err-target-clause-is c = let wide = c.target_takes-wide.ensures c.args.code.now.profile in search (rules, wide)

pub returns-in_err-compare-clause-is : goal.returns-in_err-compare-clause-is
returns-in_err-compare-clause-is c = let wide = c.target_takes-wide.ensures c.args.code.now.profile in search (rules, wide)

pub returns-clause-is : goal.returns-clause-is
returns-clause-is c = let wide = c.target_takes-wide.ensures c.args.code.now.profile in search (rules, wide)
