use Rattle.std.proofs.Common.{◌≡◌, ◌++◌, length, take}
use Rattle.std.specs.Prelude.{All}
use Rattle.std.specs.List.{flat_map}
use Rattle.stapl_code.specs.Fields.{number}
use Rattle.stapl_code.specs.Instrs.{instr, FitsInstr}
use Rattle.code_files.proofs.encoding.put_instrs.Given as goal

abbrev pub invariant-loop-instr : goal.invariant-loop-instr
invariant-loop-instr l = record {
  put : l.out.items ≡ l.fn.out.items ++ number (length l.instrs) ++ flat_map instr (take l.instr-index l.instrs);
  fits : All (FitsInstr) (take l.instr-index l.instrs);
}
