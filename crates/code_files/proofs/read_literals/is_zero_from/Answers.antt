use Rattle.std.proofs.Common.{sym, arith}
use Rattle.code_files.proofs.LiteralParts.{zero_from}
use Rattle.code_files.proofs.read_literals.is_zero_from.Goals as goal

pub returns : goal.returns
returns c = sym (zero_from c.args.byte c.args.used (omega (arith, c.ranges.byte.fits)) c.requires)
