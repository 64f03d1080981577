use Rattle.std.proofs.Common.{refl}
use Rattle.link_tool.proofs.ServingLemmas.{still_fitted, taken_all, taken_unput, taken_unfinished}
use Rattle.link_tool.proofs.session.Session.feed.Goals as goal

pub returns-in_err-put-clause-taken : goal.returns-in_err-put-clause-taken
returns-in_err-put-clause-taken g c = λ cs e.
    taken_unput (c.feed_devices-fed.ensures.fed cs e) refl c.from_residual.result c.from_residual.ensures.0 c.in_err-put.ensures.put

pub returns-in_err-put-clause-fitted : goal.returns-in_err-put-clause-fitted
returns-in_err-put-clause-fitted g c = still_fitted _ _ c.requires.fitted (λ cs e. (_, (c.feed_devices-fed.ensures.fed cs e).board))

pub returns-in_err-finish-clause-taken : goal.returns-in_err-finish-clause-taken
returns-in_err-finish-clause-taken g c = λ cs e.
    taken_unfinished (c.feed_devices-fed.ensures.fed cs e) refl c.from_residual-in_err-finish.result c.from_residual-in_err-finish.ensures.0
    c.in_ok-put.ensures.put c.in_err-finish.ensures.put

pub returns-in_err-finish-clause-fitted : goal.returns-in_err-finish-clause-fitted
returns-in_err-finish-clause-fitted g c = still_fitted _ _ c.requires.fitted (λ cs e. (_, (c.feed_devices-fed.ensures.fed cs e).board))

pub returns-clause-taken : goal.returns-clause-taken
returns-clause-taken g c = λ cs e.
    taken_all (c.feed_devices-fed.ensures.fed cs e) refl _ c.in_ok-put.ensures.put c.in_ok-finish.ensures.put

pub returns-clause-fitted : goal.returns-clause-fitted
returns-clause-fitted g c = still_fitted _ _ c.requires.fitted (λ cs e. (_, (c.feed_devices-fed.ensures.fed cs e).board))
