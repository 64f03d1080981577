use Rattle.std.proofs.Common.{All}
use Rattle.dev_card.specs.Descriptions.{IsGood}
use Rattle.chain_tests.proofs.chain.board.Given as goal

abbrev pub invariant-loop-i : goal.invariant-loop-i
invariant-loop-i l = All IsGood l.descs.items
