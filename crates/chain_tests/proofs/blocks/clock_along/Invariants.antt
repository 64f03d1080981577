use Rattle.std.proofs.Common.{◌≡◌}
use Rattle.scan_paths.specs.Cables.{whole}
use Rattle.chain_tests.proofs.blocks.clock_along.Given as goal

abbrev pub invariant-loop-digit : goal.invariant-loop-digit
invariant-loop-digit g l = g.C.Cable.breakage l.cable ≡ whole
