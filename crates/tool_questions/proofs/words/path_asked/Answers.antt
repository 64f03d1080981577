use Rattle.std.proofs.Common.{string_bytes, Global, refl}
use Rattle.tool_questions.specs.Questions.{no_file, after_file}
use Rattle.tool_questions.proofs.WordLemmas.{after_first, some_more}
use Rattle.tool_questions.proofs.words.path_asked.Goals as goal

pub returns-in_default-path_under-clause-usage : goal.returns-in_default-path_under-clause-usage
returns-in_default-path_under-clause-usage c =
    rw (after_first (string_bytes {Z = Global}) c.args.rest.now c.file-item.result c.in-len1-up.len_at_least c.file-item.is)
    (no_file (rw c.as_str.ensures.value at c.in_default-path_under.ensures.none) refl)

pub returns-then-not-is_empty-clause-usage : goal.returns-then-not-is_empty-clause-usage
returns-then-not-is_empty-clause-usage c =
    rw (after_first (string_bytes {Z = Global}) c.args.rest.now c.file-item.result c.in-len1-up.len_at_least c.file-item.is)
    (after_file c.in-Some.path.now (rw c.as_str.ensures.value at c.in-Some.ensures.some)
    (some_more (string_bytes {Z = Global}) c.args.place _ c.is_empty.result c.is_empty.ensures c.if-not-is_empty.true))
