use Rattle.std.proofs.Common.{arith}
use Rattle.base.proofs.NumberBits.{lowest_of, whole_of}
use Rattle.base.proofs.words.lowest.Goals as goal

pub returns-then-n-lt-WORD_SIZE : goal.returns-then-n-lt-WORD_SIZE
returns-then-n-lt-WORD_SIZE c = lowest_of c.args.n c.args.number (omega arith)

pub returns-else-n-lt-WORD_SIZE : goal.returns-else-n-lt-WORD_SIZE
returns-else-n-lt-WORD_SIZE c = whole_of c.args.n c.args.number (omega arith) c.ranges.number.fits
