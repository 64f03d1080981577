use Rattle.std.proofs.Common.{◌≡◌, take}
use Rattle.stapl_lexer.specs.Crc.{remainder, bits_of_text}
use Rattle.stapl_lexer.proofs.crc.crc_of.Given as goal

abbrev pub invariant-loop-byte : goal.invariant-loop-byte
invariant-loop-byte l = l.crc ≡ remainder 65535 (bits_of_text (take l.byte-index l.bytes))
