use Rattle.std.proofs.Common.{string_bytes, Global, refl}
use Rattle.print_tool.specs.Words.{no_program, too_many}
use Rattle.print_tool.proofs.WordLemmas.{after_first, some_more}
use Rattle.print_tool.proofs.words.program_path.Goals as goal

pub returns-in_default-path_under-clause-usage : goal.returns-in_default-path_under-clause-usage
returns-in_default-path_under-clause-usage c =
    rw (after_first (string_bytes {Z = Global}) c.args.words.now c.word-item.result c.in-len1-up.len_at_least c.word-item.is)
    (no_program (rw c.as_str.ensures.value at c.in_default-path_under.ensures.none) refl)

pub returns-then-not-is_empty-clause-usage : goal.returns-then-not-is_empty-clause-usage
returns-then-not-is_empty-clause-usage c =
    rw (after_first (string_bytes {Z = Global}) c.args.words.now c.word-item.result c.in-len1-up.len_at_least c.word-item.is)
    (too_many c.in-Some.path.now (rw c.as_str.ensures.value at c.in-Some.ensures.some)
    (some_more (string_bytes {Z = Global}) _ c.is_empty.result c.is_empty.ensures c.if-not-is_empty.true) refl)
