use Rattle.std.proofs.Common.{◌≡◌, ◌++◌, length, take}
use Rattle.std.specs.List.{flat_map}
use Rattle.stapl_code.specs.Fields.{number}
use Rattle.stapl_code.specs.Fields.{literal}
use Rattle.code_files.proofs.encoding.put_literals.Given as goal

abbrev pub invariant-loop-bits : goal.invariant-loop-bits
invariant-loop-bits l = l.out.items ≡ l.fn.out.items ++ number (length l.literals) ++ flat_map literal (take l.bits-index l.literals)
