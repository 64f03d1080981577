use Rattle.std.proofs.Common.{◌≡◌, ◌∷◌, codes, map, take, string_bytes, Global}
use Rattle.scans_tool.specs.Words.{plain_word}
use Rattle.scans_tool.proofs.words.plain_words.Given as goal

abbrev pub invariant-words : goal.invariant-words
invariant-words l = map (string_bytes {Z = Global}) l.all.items ≡ codes "play" ∷ map plain_word (map (string_bytes {Z = Global}) (take l.word-index l.words))
