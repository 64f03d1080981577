use Rattle.std.proofs.Common.{List, ℕ, map, string_bytes, Global, subst}
use Rattle.play_words.specs.Words.{IsWordsRefused}
use Rattle.quiet_tool.proofs.WordLemmas.{refused_each}
use Rattle.quiet_tool.proofs.words.read_each.Goals as goal

pub returns-in-Err-Usage-clause-refused : goal.returns-in-Err-Usage-clause-refused
returns-in-Err-Usage-clause-refused c =
    let all : List (List ℕ) = map (string_bytes {Z = Global}) c.deref.result.now in
    let u = subst (IsWordsRefused all) c.in-Err-Usage.field-0-is c.in-Err-Usage.ensures.refused in
    refused_each c.requires (rw (c.deref.ensures.value, c.in-Ok.ensures) at u)
