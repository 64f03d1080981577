use Rattle.std.proofs.Common.{◌≡◌}
use Rattle.scan_paths.specs.Cables.{whole}
use Rattle.chain_tests.proofs.blocks.by_clocks.Given as goal

abbrev pub invariant-loop-i : goal.invariant-loop-i
invariant-loop-i g l = g.C.Cable.breakage l.cable ≡ whole
