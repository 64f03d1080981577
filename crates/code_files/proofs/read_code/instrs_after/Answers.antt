use Rattle.code_files.proofs.read_code.instrs_after.Goals as goal

pub returns : goal.returns
returns c = rw (← c.as_slice.ensures, ← c.len.ensures, ← c.len-2.ensures, ← c.len-3.ensures) c.instrs_of.ensures
