use Rattle.std.proofs.Common.{string_bytes, Global, refl}
use Rattle.tool_questions.specs.Questions.{no_number, after_number}
use Rattle.tool_questions.proofs.WordLemmas.{after_first}
use Rattle.tool_questions.proofs.words.part_asked.Goals as goal

pub returns-in_default-number_under-clause-usage : goal.returns-in_default-number_under-clause-usage
returns-in_default-number_under-clause-usage c =
    rw (after_first (string_bytes {Z = Global}) c.args.rest.now c.first-item.result c.in-len1-up.len_at_least c.first-item.is)
    (no_number (rw c.as_str.ensures.value at c.in_default-number_under.ensures.none) refl)

pub returns-in-Err-clause-usage : goal.returns-in-Err-clause-usage
returns-in-Err-clause-usage c =
    rw (after_first (string_bytes {Z = Global}) c.args.rest.now c.first-item.result c.in-len1-up.len_at_least c.first-item.is)
    (after_number c.in-Some.number (rw c.as_str.ensures.value at c.in-Some.ensures.some) c.in-Err.ensures.usage)
