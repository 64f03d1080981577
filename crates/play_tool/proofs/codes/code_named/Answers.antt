use Rattle.std.proofs.Common.{ap, Err, subst}
use Rattle.code_files.specs.CodeFaults.{NamesFault}
use Rattle.named_files.proofs.BoardLemmas.{of_whole_file}
use Rattle.play_tool.proofs.CodeLemmas.{reads_long, code_fault_is, fault_is}
use Rattle.play_tool.proofs.codes.code_named.Goals as goal

pub returns-in-Ok-decode_code-clause-code : goal.returns-in-Ok-decode_code-clause-code
returns-in-Ok-decode_code-clause-code g c =
    of_whole_file (g.S.Shelf.told c.args.shelf.now) c.args.path.now c.in-Ok.bytes.items c.in-Ok.ensures.whole (rw c.deref.ensures.value at c.in-Ok-decode_code.ensures.file)

pub returns-in-Err-At-clause-fault : goal.returns-in-Err-At-clause-fault
returns-in-Err-At-clause-fault g c = λ offset reason e.
    of_whole_file (g.S.Shelf.told c.args.shelf.now) c.args.path.now c.in-Ok.bytes.items c.in-Ok.ensures.whole
    (code_fault_is (cc) (cc) (subst (NamesFault c.in-Ok.bytes.items) c.in-Err-At.field-0-is (rw c.deref.ensures.value at c.in-Err-At.ensures.refused)))

pub returns-in-Err-TooLong-clause-fault : goal.returns-in-Err-TooLong-clause-fault
returns-in-Err-TooLong-clause-fault g c = λ offset reason e.
    fault_is (cc) (cc) (reads_long (g.S.Shelf.told c.args.shelf.now) c.args.path.now (c.in-Err-TooLong.ensures.long (ap Err c.in-Err-TooLong.field-0-is)))
