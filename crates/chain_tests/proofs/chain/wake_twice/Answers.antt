use Rattle.scan_paths.proofs.Arriving.{told_reset}
use Rattle.chain_tests.proofs.chain.wake_twice.Goals as goal

pub wake-woken_again-requires-clause-at : goal.wake-woken_again-requires-clause-at
wake-woken_again-requires-clause-at g c = told_reset _ _ c.reset-in_reset.ensures.cards
