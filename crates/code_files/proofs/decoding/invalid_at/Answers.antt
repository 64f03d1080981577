use Rattle.code_files.proofs.Counts.{countable}
use Rattle.code_files.proofs.FileFaults.{names_invalid}
use Rattle.code_files.proofs.decoding.invalid_at.Goals as goal

pub bytes_from-counted-requires : goal.bytes_from-counted-requires
bytes_from-counted-requires c =
    let has = c.in-Ok.ensures.has in countable c.in-Ok.lists has.short.most has.in_range.countable

pub returns-in-Ok-counted : goal.returns-in-Ok-counted
returns-in-Ok-counted c = λ code read breaks.
    names_invalid c.args.bytes.now c.in-Ok.lists code c.args.i c.in-Ok-counted.left c.faulty.result c.requires c.in-Ok.ensures.read read breaks
    c.in-Ok-counted.ensures c.faulty.ensures
