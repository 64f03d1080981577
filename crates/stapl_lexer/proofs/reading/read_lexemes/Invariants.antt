use Rattle.std.proofs.Common.{◌-◌}
use Rattle.stapl_lexer.specs.TokenReading.{IsReadUpTo}
use Rattle.stapl_lexer.proofs.reading.read_lexemes.Given as goal

abbrev pub invariant-lexemes : goal.invariant-lexemes
invariant-lexemes l = IsReadUpTo l.text l.start l.limit l.lexed.tokens.items l.lexed.good l.lexed.large l.is_crc l.at

abbrev pub decreases-lexemes : goal.decreases-lexemes
decreases-lexemes l = l.limit - l.at
