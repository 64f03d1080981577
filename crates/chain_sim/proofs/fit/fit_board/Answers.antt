use Rattle.std.proofs.lemmas.Result.{on_ok_weaker}
use Rattle.chain_sim.proofs.Fitting.{chain_of}
use Rattle.chain_sim.proofs.fit.fit_board.Goals as goal

pub returns-clause-chain : goal.returns-clause-chain
returns-clause-chain g c = on_ok_weaker c.fit_all.result (chain_of _ c.args.descs.now _ c.requires.some) c.fit_all.ensures.cards
