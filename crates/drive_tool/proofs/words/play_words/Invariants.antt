use Rattle.std.proofs.Common.{◌≡◌, ◌∷◌, codes, map, take, string_bytes, Global}
use Rattle.drive_tool.proofs.words.play_words.Given as goal

abbrev pub invariant-words : goal.invariant-words
invariant-words l = map (string_bytes {Z = Global}) l.all.items ≡ codes "play" ∷ map (string_bytes {Z = Global}) (take l.word-index l.words)
