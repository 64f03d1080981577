use Rattle.std.proofs.Common.{◌≡◌, ◌<◌, ◌^◌, ◌++◌, length, take}
use Rattle.std.specs.Prelude.{All}
use Rattle.std.specs.List.{flat_map}
use Rattle.stapl_code.specs.declared.raw.ProcDef.{ProcDef}
use Rattle.stapl_code.specs.Fields.{number}
use Rattle.stapl_code.specs.Files.{procedure}
use Rattle.code_files.proofs.encoding.put_procedures.Given as goal

abbrev pub invariant-loop-procedure : goal.invariant-loop-procedure
invariant-loop-procedure l = record {
  put : l.out.items ≡ l.fn.out.items ++ number (length l.procedures) ++ flat_map procedure (take l.procedure-index l.procedures);
  fits : All (λ (p : ProcDef). p.entry < 2 ^ 32) (take l.procedure-index l.procedures);
}
