use Rattle.chain_tests.proofs.chain.wake.Goals as goal

pub move_to-requires-clause-at : goal.move_to-requires-clause-at
move_to-requires-clause-at g c = rw (c.over-chain.ensures.devices, c.over-chain.ensures.places) c.requires.at
