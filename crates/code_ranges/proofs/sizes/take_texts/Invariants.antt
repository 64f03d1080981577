use Rattle.std.proofs.Common.{◌≡◌, ◌+◌, take}
use Rattle.stapl_code.specs.Fields.{text}
use Rattle.stapl_code.specs.Sizes.{bytes_of}
use Rattle.code_ranges.proofs.sizes.take_texts.Given as goal

abbrev pub invariant-loop-bytes : goal.invariant-loop-bytes
invariant-loop-bytes l = l.initial.left ≡ l.left + bytes_of text (take l.bytes-index l.texts)
