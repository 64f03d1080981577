use Rattle.std.proofs.Common.{◌≡◌, ◌*◌, ◌^◌, min}
use Rattle.stapl_lexer.specs.TokenReading.{cap}
use Rattle.stapl_lexer.proofs.number.scaled.Given as goal

abbrev pub invariant-loop-turn : goal.invariant-loop-turn
invariant-loop-turn l = l.scaled ≡ min (l.value * 10 ^ l._turn) cap
