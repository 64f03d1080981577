use Rattle.std.proofs.Common.{◌≡◌, ◌++◌, length, take}
use Rattle.std.specs.Prelude.{All}
use Rattle.std.specs.Int.{w32}
use Rattle.std.specs.Int.RustNames.{FitsSigned}
use Rattle.std.specs.List.{flat_map}
use Rattle.stapl_code.specs.Fields.{number, integer}
use Rattle.code_files.proofs.instrs.put_integers.Given as goal

abbrev pub invariant-loop-value : goal.invariant-loop-value
invariant-loop-value l = record {
  put : l.out.items ≡ l.fn.out.items ++ number (length l.values) ++ flat_map integer (take l.value-index l.values);
  fits : All (FitsSigned w32) (take l.value-index l.values);
}
