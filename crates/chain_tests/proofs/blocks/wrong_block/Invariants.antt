use Rattle.std.proofs.Common.{◌≡◌}
use Rattle.scan_paths.specs.Cables.{whole}
use Rattle.chain_tests.proofs.blocks.wrong_block.Given as goal

abbrev pub invariant-loop-i : goal.invariant-loop-i
invariant-loop-i g l = (g.C.Cable.breakage l.cable ≡ whole) × (g.C.Cable.breakage l.twin ≡ whole)

abbrev pub invariant-loop-n : goal.invariant-loop-n
invariant-loop-n g l = (g.C.Cable.breakage l.cable ≡ whole) × (g.C.Cable.breakage l.twin ≡ whole)

abbrev pub invariant-loop-last : goal.invariant-loop-last
invariant-loop-last g l = (g.C.Cable.breakage l.cable ≡ whole) × (g.C.Cable.breakage l.twin ≡ whole)
