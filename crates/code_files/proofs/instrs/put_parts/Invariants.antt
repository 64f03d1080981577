use Rattle.std.proofs.Common.{◌≡◌, ◌++◌, length, take}
use Rattle.std.specs.List.{flat_map}
use Rattle.stapl_code.specs.Fields.{number}
use Rattle.stapl_code.specs.Instrs.{part}
use Rattle.code_files.proofs.instrs.put_parts.Given as goal

abbrev pub invariant-loop-part : goal.invariant-loop-part
invariant-loop-part l = l.out.items ≡ l.fn.out.items ++ number (length l.parts) ++ flat_map part (take l.part-index l.parts)
