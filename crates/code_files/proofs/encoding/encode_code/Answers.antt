use Rattle.code_files.proofs.Counts.{countable}
use Rattle.code_files.proofs.encoding.encode_code.Goals as goal

pub file_of-requires : goal.file_of-requires
file_of-requires c =
    rw c.lists.ensures.lists (countable c.raw.result.now c.lists.ensures.short.most c.lists.ensures.in_range.countable)
