use Rattle.std.proofs.Common.{arith, ◌∙◌}
use Rattle.std.proofs.lemmas.Result.{on_ok_weaker}
use Rattle.chain_sim.proofs.Clocking.{card_put, kinds_same, others_same}
use Rattle.chain_sim.proofs.Fitting.{kind_read}
use Rattle.chain_sim.proofs.fit.fit_at.Goals as goal

pub returns-clause-kinds : goal.returns-clause-kinds
returns-clause-kinds g c = kinds_same _ _ _ _ _ c.index_mut.ensures.value c.fit.ensures.kind

pub returns-clause-card : goal.returns-clause-card
returns-clause-card g c =
    let put = card_put g.D.Device.fitted c.args.rack.now.items c.args.place c.fit.new.self (omega arith) in
    on_ok_weaker c.fit.result (λ e. put ∙ e) c.fit.ensures.ok

pub returns-clause-others : goal.returns-clause-others
returns-clause-others g c = λ k n. others_same _ _ _ k n

pub returns-clause-wrong_kind : goal.returns-clause-wrong_kind
returns-clause-wrong_kind g c = λ e s.
    c.fit.ensures.wrong_kind.0 e (kind_read g.D.Device.kind_of c.args.rack.now.items c.args.place c.index_mut.result.now _ c.index_mut.ensures.value (omega arith) s)
