use Rattle.std.proofs.Common.{◌-◌, length}
use Rattle.stapl_lexer.specs.TokenReading.{IsSearchedUpTo}
use Rattle.stapl_lexer.proofs.byte_fault.byte_faults.Given as goal

abbrev pub invariant-segments : goal.invariant-segments
invariant-segments l = IsSearchedUpTo l.bytes l.faults.foreign l.faults.unclosed l.faults.compressed l.at

abbrev pub decreases-segments : goal.decreases-segments
decreases-segments l = length l.bytes - l.at
