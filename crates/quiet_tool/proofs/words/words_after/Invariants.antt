use Rattle.std.proofs.Common.{◌≡◌, ◌++◌, map, take, string_bytes, Global}
use Rattle.quiet_tool.proofs.words.words_after.Given as goal

abbrev pub invariant-words : goal.invariant-words
invariant-words l = map (string_bytes {Z = Global}) l.all.items ≡ map (string_bytes {Z = Global}) l.fn.front.items ++ map (string_bytes {Z = Global}) (take l.word-index l.words)
